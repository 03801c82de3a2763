-- Propagators that wait for a run.
use Rattle.std.specs.Prelude.{◌≡◌, ◌≢◌, ℕ, ◌<◌, ◌≤◌, ◌⊎◌, Bool, List, length, slice_index_or, ℤ, Contains, All, ⊤, IsTrue}
use Rattle.mark_set.specs.Marks.{IsUnmarked}
use Rattle.fzn_model.specs.declared.con.Con.{Con}
use Rattle.fzn_model.specs.declared.term.Term.{Term}
use Rattle.fzn_model.specs.declared.term.Term.TheVariants as term
use Rattle.fzn_model.specs.Named.{con_terms}
use Rattle.dom_store.specs.declared.entry.Entry.{Entry}
use Rattle.dom_store.specs.Stores.{Stored, box_size}
use Rattle.dom_store.specs.Narrowing.{HasNone}
use Rattle.dom_store.specs.Trails.{Names}
use Rattle.dom_store.specs.Propagation.{FallsFar}
use Rattle.dom_store.specs.Strength.{IsStrong}
use Rattle.prop_engine.specs.declared.queue.Turned.{Turned}
use Rattle.prop_engine.specs.declared.queue.Turned.TheVariants as turned
use Rattle.prop_engine.specs.declared.queue.Ended.{Ended}
use Rattle.prop_engine.specs.declared.queue.Ended.TheVariants as ended
use Rattle.prop_engine.specs.Fixing.{MeetsEach}
use Rattle.prop_engine.specs.Plans.{CanHold}
use Rattle.prop_engine.specs.declared.event.Event.{Event}
use Rattle.prop_engine.specs.declared.event.Event.TheVariants as event
use Rattle.prop_engine.specs.declared.readers.Readers.{Readers}
use Rattle.prop_engine.specs.Events.{con_event, IsMinor}
use Rattle.prop_engine.specs.Readers.{AreRead, Reads, hearing}

-- A term of which a constraint that hears of an event has nothing to hear: a constant, a variable without a mark, and, where it
-- hears of fixed variables alone, one whose change is minor since all domains together had so many values.
abbrev pub IsIdle : Event → ℕ → Stored → Term → Type 0
IsIdle e before s (term.Const z) = ⊤
IsIdle event.Changed before s (term.Var k) = IsUnmarked s.touched k
IsIdle event.Fixed before s (term.Var k) = IsUnmarked s.touched k ⊎ IsMinor before s.box k

-- where it has nothing to hear of its variables, the constraint has its strength
unfoldable pub IsStrongIdle : ℕ → Stored → Con → Type 0
IsStrongIdle before s c = All (IsIdle (con_event c) before s) (con_terms c) → IsStrong s.box c

-- the propagators of a list wait, but for one, and those that did before
unfoldable pub Wakes : ℕ → List ℕ → List Bool → List Bool → Type 0
Wakes but numbers old new = (j : ℕ) → IsUnmarked new j → IsUnmarked old j × (Contains numbers j → j ≡ but)

-- so do those that read a variable, whatever they hear of
unfoldable pub WakesReaders : ℕ → Readers → ℕ → List Bool → List Bool → Type 0
WakesReaders but readers k old new = (j : ℕ) → IsUnmarked new j → IsUnmarked old j × ((e : Event) → Reads (hearing e readers) k j → j ≡ but)

-- so do those that have to hear of its change: all, or where it is minor those that hear of each change
unfoldable pub WakesHearing : ℕ → Readers → ℕ → Bool → List Bool → List Bool → Type 0
WakesHearing but readers k minor old new = (j : ℕ) → IsUnmarked new j → IsUnmarked old j × ((e : Event) → Reads (hearing e readers) k j → (j ≡ but) ⊎ ((e ≡ event.Fixed) × IsTrue minor))

-- so do those that read a variable of the entries
unfoldable pub WakesNamed : ℕ → Readers → List Entry → List Bool → List Bool → Type 0
WakesNamed but readers entries old new = (j : ℕ) → IsUnmarked new j → IsUnmarked old j × ((e : Event) (k : ℕ) → Names k entries → Reads (hearing e readers) k j → j ≡ but)

-- one constraint, if its propagator doesn't wait, has its strength
unfoldable pub IsDone : ℕ → List Con → List Bool → List (List ℤ) → Type 0
IsDone at cs waits box = (d : Con) → at < length cs → IsUnmarked waits at → IsStrong box (slice_index_or cs at d)

-- each constraint whose propagator doesn't wait has its strength, where it has nothing to hear of its variables
unfoldable pub AreKnown : ℕ → List Con → List Bool → Stored → Type 0
AreKnown before cs waits s = (j : ℕ) (d : Con) → j < length cs → IsUnmarked waits j → IsStrongIdle before s (slice_index_or cs j d)

-- each constraint whose propagator doesn't wait has its strength
unfoldable pub AreStrong : List Con → List Bool → List (List ℤ) → Type 0
AreStrong cs waits box = (j : ℕ) (d : Con) → j < length cs → IsUnmarked waits j → IsStrong box (slice_index_or cs j d)

-- that in one place may not
unfoldable pub AreStrongBut : ℕ → List Con → List Bool → List (List ℤ) → Type 0
AreStrongBut at cs waits box = (j : ℕ) (d : Con) → j < length cs → j ≢ at → IsUnmarked waits j → IsStrong box (slice_index_or cs j d)

-- what a run, after which the readers of what changed wait, says
unfoldable pub Turns : List Con → List Bool → List Bool → List (List ℤ) → List (List ℤ) → Turned → Type 0
Turns cs was waits old new turned.Quiet = (new ≡ old) × (waits ≡ was) × AreStrong cs waits new
Turns cs was waits old new turned.Fell = (box_size new < box_size old) × AreStrong cs waits new
Turns cs was waits old new turned.Empty = HasNone (MeetsEach cs) old

-- what all runs say
unfoldable pub Ends : List Con → List (List ℤ) → List (List ℤ) → Ended → Type 0
Ends cs old new ended.Kept = All (IsStrong new) cs
Ends cs old new ended.Empty = HasNone (MeetsEach cs) old
Ends cs old new ended.EarlyStop = FallsFar old new

-- what an engine keeps of its constraints
pub record IsEngine (cs : List Con) (readers : Readers) (waits : List Bool) : Type 0 where
  pub can_hold : All CanHold cs
  pub read : AreRead cs (length cs) readers
  pub room : length waits ≡ length cs
  pub few : length cs ≤ 4000000000
