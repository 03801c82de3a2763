-- What a publication answers and changes. It is this project's own.
use Rattle.std.specs.Prelude.{◌≡◌, ◌≢◌, ℕ, ◌+◌, ◌-◌, ◌⊎◌, List, ℤ, set, slice_index, Some, None, Ok, Err}
use Rattle.std.specs.List.{position}
use Rattle.std.specs.declared.option.Option.{Option}
use Rattle.entry_slab.specs.Entries.{Bounded, near_digest, far_digest, counted, Rose}
use Rattle.entry_slab.specs.Contents.{Contents, WhereTold, Puts, Removes}
use Rattle.entry_slab.specs.declared.shelf.NotKept.{NotKept}
use Rattle.evictor.specs.declared.report.Report.{Report}
use Rattle.evictor.specs.declared.put.Put.{Put}
use Rattle.evictor.specs.declared.put.Put.TheVariants as put
use Rattle.evictor.specs.Passes.{word_at}
use Rattle.evictor.specs.Places.{places_of, place_by_turn}
use Rattle.evictor.specs.Reports.{AreReports, FindsOne, gone_count, is_weak, is_free}
use Rattle.evictor.specs.Readers.{ReaderParts, Looked}

-- the place of that number, or the other one
abbrev pub place_or : List ℕ → ℕ → Option ℕ → ℕ
place_or places other (Some at) = slice_index places at
place_or places other None = other

-- The place that is taken: the first whose reading was weak; where there is none, the first whose word was 0 or whose
-- reading found nothing; where there is none of these either, one by turn.
unfoldable pub place_taken : List ℕ → List Report → ℕ → ℕ
place_taken places reports other = place_or places (place_or places other (position is_free reports)) (position is_weak reports)

-- The entry was put on the shelf, its key was swapped into the place, and the entry of the word that stood there was
-- removed.
pub record Stores (place : ℕ) (e : Bounded) (old new : ReaderParts) : Type 0 where
  pub key : ℕ
  pub middle : Option Contents
  pub put : WhereTold (Puts e (Ok key)) old.contents middle
  pub words : new.pass ≡ record old.pass { words = set old.pass.words place (key + 1) }
  pub removed : word_at old.pass.words place ≢ 0 → WhereTold (Removes (word_at old.pass.words place - 1)) middle new.contents
  pub kept : word_at old.pass.words place ≡ 0 → new.contents ≡ middle
  pub stores : new.stores ≡ counted old.stores
  pub refusals : new.refusals ≡ old.refusals
  pub absences : new.absences ≡ old.absences
  pub hits : new.hits ≡ old.hits
  pub gone : new.gone ≡ old.gone

-- The shelf refused the entry.
pub record Refuses (e : Bounded) (old new : ReaderParts) : Type 0 where
  pub fault : NotKept
  pub put : WhereTold (Puts e (Err fault)) old.contents new.contents
  pub rose : Rose old.refusals new.refusals
  pub pass : new.pass ≡ old.pass
  pub absences : new.absences ≡ old.absences
  pub hits : new.hits ≡ old.hits
  pub stores : new.stores ≡ old.stores
  pub gone : new.gone ≡ old.gone

-- it was stored at the place, or refused
unfoldable pub IsStored : ℕ → Bounded → ReaderParts → Put → ReaderParts → Type 0
IsStored place e old put.Refused new = Refuses e old new
IsStored place e old (put.Stored at) new = (at ≡ place) × Stores place e old new
IsStored place e old (put.AlreadyThere at) new = ⊥

-- all eight words were read, and none led to an entry that serves
pub record FindsNone (e : Bounded) (reports : List Report) (old new : ReaderParts) : Type 0 where
  pub some_ways : old.pass.cache.ways ≢ 0
  pub each : AreReports old.contents old.pass.words e.rest e.bound (places_of old.pass.cache.ways e.rest) reports
  pub looked : Looked (gone_count reports) old new
  pub hits : new.hits ≡ old.hits

-- an entry at least as good is there
pub record IsThere (e : Bounded) (place : ℕ) (old new : ReaderParts) : Type 0 where
  pub some_ways : old.pass.cache.ways ≢ 0
  pub before : List Report
  pub bound : ℤ
  pub finds : FindsOne old.contents old.pass.words e.rest e.bound (places_of old.pass.cache.ways e.rest) before bound place
  pub looked : Looked (gone_count before) old new
  pub hits : new.hits ≡ old.hits

-- where it is put
abbrev pub place_for : ReaderParts → Bounded → List Report → ℕ
place_for s e reports = place_taken (places_of s.pass.cache.ways e.rest) reports (place_by_turn s.pass.cache.ways (near_digest e.rest) (far_digest e.rest))

-- What each answer of a publication says.
unfoldable pub IsPut : Bounded → ReaderParts → Put → ReaderParts → Type 0
IsPut e old (put.AlreadyThere place) new = IsThere e place old new
IsPut e old (put.Stored place) new = (reports : List Report) × (looked : ReaderParts) × FindsNone e reports old looked × IsStored (place_for old e reports) e looked (put.Stored place) new
IsPut e old put.Refused new = ((old.pass.cache.ways ≡ 0) × (new ≡ old)) ⊎ ((reports : List Report) × (looked : ReaderParts) × FindsNone e reports old looked × IsStored (place_for old e reports) e looked put.Refused new)
