-- What contracts see of a reader, and what a look changes of it. It is this project's own.
use Rattle.std.specs.Prelude.{◌≡◌, ◌≢◌, ℕ, zero, suc}
use Rattle.std.specs.declared.option.Option.{Option}
use Rattle.entry_slab.specs.Entries.{counted, Rose}
use Rattle.entry_slab.specs.Contents.{Contents}
use Rattle.evictor.specs.Passes.{PassWords}

-- its pass; the contents of its shelf, where they are told, and the shelf's two counts; and three counts of its own, of
-- lookups that hit, of entries stored, and of readings that found nothing
pub record ReaderParts : Type 0 where
  pub pass : PassWords
  pub contents : Option Contents
  pub refusals : ℕ
  pub absences : ℕ
  pub hits : ℕ
  pub stores : ℕ
  pub gone : ℕ

-- a count some higher; it stays at the greatest u64
abbrev pub raised : ℕ → ℕ → ℕ
raised n zero = n
raised n (suc more) = counted (raised n more)

-- absences rose where readings found nothing, and only there
pub record CountsAbsences (count before now : ℕ) : Type 0 where
  pub none : count ≡ 0 → now ≡ before
  pub some : count ≢ 0 → Rose before now

-- so many readings found nothing, and nothing else changed but the count of hits
pub record Looked (count : ℕ) (old new : ReaderParts) : Type 0 where
  pub pass : new.pass ≡ old.pass
  pub contents : new.contents ≡ old.contents
  pub refusals : new.refusals ≡ old.refusals
  pub absences : CountsAbsences count old.absences new.absences
  pub stores : new.stores ≡ old.stores
  pub gone : new.gone ≡ raised old.gone count
