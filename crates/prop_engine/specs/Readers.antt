-- Which propagators read a variable.
use Rattle.std.specs.Prelude.{◌≡◌, ◌≢◌, ℕ, ◌+◌, ◌<◌, ◌≤◌, ◌⊎◌, List, [], length, slice_index_or, Contains, All, AllPairs, ⊤}
use Rattle.fzn_model.specs.declared.con.Con.{Con}
use Rattle.fzn_model.specs.declared.term.Term.{Term}
use Rattle.fzn_model.specs.declared.term.Term.TheVariants as term
use Rattle.fzn_model.specs.declared.cumulative.CumTask.{CumTask}
use Rattle.fzn_model.specs.Limits.{TermIn}
use Rattle.fzn_model.specs.Named.{con_terms}
use Rattle.prop_engine.specs.declared.event.Event.{Event}
use Rattle.prop_engine.specs.declared.event.Event.TheVariants as event
use Rattle.prop_engine.specs.Events.{con_event}
use Rattle.prop_engine.specs.declared.readers.Readers.{Readers}

-- the propagator in a place is among the readers of a variable
abbrev pub Reads : List (List ℕ) → ℕ → ℕ → Type 0
Reads readers k at = Contains (slice_index_or readers k []) at

abbrev pub ReadsTerm : List (List ℕ) → ℕ → Term → Type 0
ReadsTerm readers at (term.Const z) = ⊤
ReadsTerm readers at (term.Var k) = Reads readers k at

-- the numbers rise, up to another one
pub record RiseTo (at : ℕ) (numbers : List ℕ) : Type 0 where
  pub rising : AllPairs (λ i j. i < j) numbers
  pub most : (j : ℕ) → Contains numbers j → j ≤ at

-- the last of them isn't a number
unfoldable pub IsNotLast : List ℕ → ℕ → Type 0
IsNotLast numbers at = (n : ℕ) → length numbers ≡ n + 1 → slice_index_or numbers n 0 ≢ at

-- All readers stay, and none but the propagator in a place is added; where those of each variable rise up to it, they still do.
pub record Adds (at : ℕ) (old new : List (List ℕ)) : Type 0 where
  pub count : length new ≡ length old
  pub kept : (k j : ℕ) → Reads old k j → Reads new k j
  pub only : (k j : ℕ) → Reads new k j → Reads old k j ⊎ (j ≡ at)
  pub rise : ((k : ℕ) → RiseTo at (slice_index_or old k [])) → (k : ℕ) → RiseTo at (slice_index_or new k [])

-- the propagator in a place is noted for a variable
pub record IsNoted (var at : ℕ) (old new : List (List ℕ)) : Type 0 where
  pub adds : Adds at old new
  pub made : Reads new var at

-- the propagator in a place is noted for the variables among the terms
pub record NotesAll (ts : List Term) (at : ℕ) (old new : List (List ℕ)) : Type 0 where
  pub adds : Adds at old new
  pub made : All (ReadsTerm new at) ts

unfoldable pub Notes : List Term → ℕ → List (List ℕ) → List (List ℕ) → Type 0
Notes ts at old new = NotesAll ts at old new

-- the propagator in a place is noted for the variables among the terms of tasks
pub record ReadsTask (readers : List (List ℕ)) (at : ℕ) (k : CumTask) : Type 0 where
  pub s : ReadsTerm readers at k.s
  pub d : ReadsTerm readers at k.d
  pub r : ReadsTerm readers at k.r

pub record NotesTasks (ks : List CumTask) (at : ℕ) (old new : List (List ℕ)) : Type 0 where
  pub adds : Adds at old new
  pub made : All (ReadsTask new at) ks

-- the readers that hear of an event
abbrev pub hearing : Event → Readers → List (List ℕ)
hearing event.Changed readers = readers.changed
hearing event.Fixed readers = readers.fixed

-- the propagator in a place is noted, among those that hear of an event, for the variables among the terms
unfoldable pub NotesFor : Event → List Term → ℕ → Readers → Readers → Type 0
NotesFor event.Changed ts at old new = Notes ts at old.changed new.changed × (new.fixed ≡ old.fixed)
NotesFor event.Fixed ts at old new = (new.changed ≡ old.changed) × Notes ts at old.fixed new.fixed

-- Each of the first propagators is, among those that hear of the event of its constraint, one of the readers of the variables that
-- it names; no further one is, and none twice.
pub record AreRead (cs : List Con) (count : ℕ) (readers : Readers) : Type 0 where
  pub each : (j : ℕ) (d : Con) → j < count → All (ReadsTerm (hearing (con_event (slice_index_or cs j d)) readers) j) (con_terms (slice_index_or cs j d))
  pub below : (e : Event) (k j : ℕ) → Reads (hearing e readers) k j → j < count
  pub rising : (e : Event) (k : ℕ) → AllPairs (λ i j. i < j) (slice_index_or (hearing e readers) k [])

-- a task over n variables
pub record TaskIn (n : ℕ) (k : CumTask) : Type 0 where
  pub s : TermIn n k.s
  pub d : TermIn n k.d
  pub r : TermIn n k.r
