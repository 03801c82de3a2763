-- What the search of a path answers. It is this project's own.
use Rattle.std.specs.Prelude.{◌≡◌, ℕ, List, ℤ, ⊤}
use Rattle.fzn_model.specs.Parts.{Parts}
use Rattle.incumbent_board.specs.Passes.{Held}
use Rattle.search_core.specs.declared.decision.Decision.{Decision}
use Rattle.search_core.specs.Paths.{Settled}
use Rattle.search_core.specs.Locals.{LocalParts}
use Rattle.explorer.specs.Holding.{LetsGo}
use Rattle.explorer.specs.Works.{IsCause, Counted, CountedAt}
use Rattle.explorer.specs.declared.subtree.Explored.{Explored}
use Rattle.explorer.specs.declared.subtree.Explored.TheVariants as explored
use Rattle.explorer.specs.declared.frame.Stop.TheVariants as stop

-- the path is settled at the bound that the pass saw last, and the worker holds its other paths as before
pub record Closes (m : Parts) (p : List Decision) (b : ℤ) (y : Held) (l k : LocalParts) : Type 0 where
  pub settled : Settled m p b
  pub seen : b ≡ y.seen
  pub held : LetsGo p l k

abbrev pub IfSettled : Explored → (ℤ → Type 0) → Type 0
IfSettled (explored.Settled b) P = P b
IfSettled explored.Dry P = ⊤
IfSettled (explored.Told why) P = ⊤
IfSettled explored.NoMemory P = ⊤

-- how many paths an answer settles
abbrev pub closings : Explored → ℕ
closings (explored.Settled b) = 1
closings explored.Dry = 0
closings (explored.Told why) = 0
closings explored.NoMemory = 0

-- why a search ended before its path was settled
abbrev pub IsCauseOf : Explored → Held → Held → Type 0
IsCauseOf (explored.Settled b) x y = ⊤
IsCauseOf explored.Dry x y = IsCause stop.Dry x y
IsCauseOf (explored.Told why) x y = IsCause (stop.Told why) x y
IsCauseOf explored.NoMemory x y = ⊤

-- the worker's part counted each expansion, but perhaps the last one where memory was wanting
abbrev pub CountedBy : Explored → LocalParts → LocalParts → Held → Held → Type 0
CountedBy (explored.Settled b) l k x y = Counted l k x y
CountedBy explored.Dry l k x y = Counted l k x y
CountedBy (explored.Told why) l k x y = Counted l k x y
CountedBy explored.NoMemory l k x y = CountedAt stop.NoMemory l k x y
