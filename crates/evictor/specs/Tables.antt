-- Which entry stands at which place of a cache, where the shelf tells its contents. It is this project's own.
use Rattle.std.specs.Prelude.{◌≡◌, ◌≢◌, ◌==◌, ℕ, ◌+◌, ◌-◌, ◌<◌, not, false, ◌↔◌, if◌then◌else◌, List, length, ℤ, ◌≤ℤ◌, Some, None, Contains, IfSome}
use Rattle.std.specs.List.{count_by}
use Rattle.std.specs.declared.option.Option.{Option}
use Rattle.fzn_model.specs.Rests.{RestParts}
use Rattle.rest_key.specs.Dominance.{Dominates}
use Rattle.entry_slab.specs.Entries.{Bounded}
use Rattle.entry_slab.specs.Contents.{entry_under}
use Rattle.evictor.specs.declared.put.Put.{Put}
use Rattle.evictor.specs.declared.put.Put.TheVariants as put
use Rattle.evictor.specs.Passes.{word_at}
use Rattle.evictor.specs.Places.{places_of}
use Rattle.evictor.specs.Readers.{ReaderParts}

-- the entry at the place: the one that the shelf has under the word less 1, or nothing
unfoldable pub entry_at : List ℕ → List (ℕ × Bounded) → ℕ → Option Bounded
entry_at words entries place = if word_at words place == 0 then None else entry_under entries (word_at words place - 1)

-- The words that aren't 0 differ from each other, and the shelf has exactly their keys.
pub record IsTidy (words : List ℕ) (entries : List (ℕ × Bounded)) : Type 0 where
  pub apart : (j k : ℕ) → j < length words → k < length words → word_at words j ≢ 0 → word_at words j ≡ word_at words k → j ≡ k
  pub there : (j : ℕ) → j < length words → word_at words j ≢ 0 → entry_under entries (word_at words j - 1) ≢ None
  pub only : (key : ℕ) → entry_under entries key ≢ None → (j : ℕ) × (j < length words) × (word_at words j ≡ key + 1)
  pub count : length entries ≡ count_by (λ w. not (w == 0)) words

-- only the place where an entry was stored has another one
abbrev pub table_after : Put → Bounded → ℕ → Option Bounded → Option Bounded
table_after (put.Stored at) e place before = if place == at then Some e else before
table_after (put.AlreadyThere at) e place before = before
table_after put.Refused e place before = before

pub record ChangesTable (answer : Put) (e : Bounded) (words words' : List ℕ) (entries entries' : List (ℕ × Bounded)) : Type 0 where
  pub tidy : IsTidy words' entries'
  pub table : (place : ℕ) → place < length words → entry_at words' entries' place ≡ table_after answer e place (entry_at words entries place)

-- where words and shelf fit together, they do so again, and the table changes only so
abbrev pub KeepsTable : Put → Bounded → ReaderParts → ReaderParts → Type 0
KeepsTable answer e old new = IfSome old.contents (λ c. IfSome new.contents (λ c'. IsTidy old.pass.words c.entries → ChangesTable answer e old.pass.words new.pass.words c.entries c'.entries))

-- an entry that stands in the two groups of the residual problem dominates it, with at least the bound
pub record Serves (words : List ℕ) (entries : List (ℕ × Bounded)) (ways : ℕ) (r : RestParts) (need : ℤ) (place : ℕ) : Type 0 where
  pub entry : Bounded
  pub in_groups : Contains (places_of ways r) place
  pub stands : entry_at words entries place ≡ Some entry
  pub dominates : Dominates entry.rest r
  pub bound : need ≤ℤ entry.bound

abbrev pub IsThereAt : Put → Type 0
IsThereAt answer = (place : ℕ) × (answer ≡ put.AlreadyThere place)

-- Where the contents are told and no call is lost, `AlreadyThere` comes exactly where an entry of the table serves.
abbrev pub FindsExactly : Bounded → ReaderParts → Put → Type 0
FindsExactly e s answer = IfSome s.contents (λ c. c.loses ≡ false → s.pass.cache.ways ≢ 0 → IsThereAt answer ↔ ((place : ℕ) × Serves s.pass.words c.entries s.pass.cache.ways e.rest e.bound place))
