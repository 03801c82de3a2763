-- How the search of a path begins and ends. It is this project's own.
use Rattle.std.specs.Prelude.{◌≡◌, ◌+◌, ◌≤◌, List, [], ◌∷◌, ℤ, Result, Ok, Err}
use Rattle.fzn_model.specs.Parts.{Parts}
use Rattle.dom_store.specs.Views.{box_of}
use Rattle.prop_engine.specs.Plans.{plan_of}
use Rattle.search_core.specs.declared.decision.Decision.{Decision}
use Rattle.explorer.specs.Works.{IsCause, Counted, CountedAt}
use Rattle.explorer.specs.Frames.{Levels, weight}
use Rattle.explorer.specs.Explored.{Closes}
use Rattle.run_log.specs.Journals.{Noted}
use Rattle.explorer.specs.Going.{Aim, State, Working}
use Rattle.explorer.specs.Logged.{Logged}
use Rattle.explorer.specs.declared.bench.Bench.{Bench}
use Rattle.explorer.specs.declared.frame.Stop.{Stop}
use Rattle.explorer.specs.declared.frame.Stop.TheVariants as stop
use Rattle.explorer.specs.declared.subtree.Explored.{Explored}
use Rattle.explorer.specs.declared.subtree.Explored.TheVariants as explored

-- at the path, with the model's domains and one level below them
pub record IsStart (m : Parts) (p : List Decision) (b : Bench) : Type 0 where
  pub domains : b.store.box ≡ box_of m.doms
  pub one_level : b.store.saved ≡ box_of m.doms ∷ []
  pub plan : b.engine ≡ plan_of m
  pub path : b.here ≡ p
  pub no_frame : b.frames ≡ []

-- what every search keeps
pub record Ran (a : Aim) (s z : State) : Type 0 where
  pub works : Working a s z
  pub weight_left : z.pass.credits ≤ s.pass.credits + weight a.model a.path
  pub closed : z.meter.closed ≡ s.meter.closed
  pub plan : z.bench.engine ≡ s.bench.engine

-- the path is settled
pub record Succeeds (a : Aim) (b : ℤ) (s z : State) : Type 0 where
  pub closes : Closes a.model a.path b z.pass s.local z.local
  pub counts : Counted s.local z.local s.pass z.pass

-- it is not
pub record Stopped (why : Stop) (s z : State) : Type 0 where
  pub counts : CountedAt why s.local z.local s.pass z.pass
  pub cause : IsCause why s.pass z.pass

unfoldable pub HasRun : Aim → State → State → Type 0
HasRun a s z = Ran a s z

unfoldable pub HasClosed : Aim → ℤ → State → State → Type 0
HasClosed a b s z = Succeeds a b s z

unfoldable pub HasStopped : Stop → State → State → Type 0
HasStopped why s z = Stopped why s z

-- each frame has a level, above this one
unfoldable pub HasLevels : Bench → List (List ℤ) → Type 0
HasLevels b area = Levels b.frames b.store.saved (area ∷ [])

-- what a search says to its caller
abbrev pub answer_of : Result ℤ Stop → Explored
answer_of (Ok b) = explored.Settled b
answer_of (Err stop.Dry) = explored.Dry
answer_of (Err (stop.Told why)) = explored.Told why
answer_of (Err stop.NoMemory) = explored.NoMemory

-- what it notes
unfoldable pub HasLogged : Aim → Result ℤ Stop → State → Noted → State → Noted → Type 0
HasLogged a ended s j z k = Logged a.model a.path a.limit (answer_of ended) s.pass z.pass s.reader z.reader s.meter z.meter j k
