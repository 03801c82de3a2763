-- The open expansions of a search, the deepest first, and what each promises. They are this project's own.
use Rattle.std.specs.Prelude.{◌≡◌, ℕ, ◌+◌, ◌-◌, ◌<◌, true, List, [], ◌∷◌, ◌++◌, length, ℤ, ◌≤ℤ◌, Some, None, ⊤}
use Rattle.std.specs.declared.option.Option.{Option}
use Rattle.fzn_model.specs.Parts.{Parts}
use Rattle.fzn_model.specs.Limits.{IsValue}
use Rattle.fzn_model.specs.Boxes.{InBox}
use Rattle.fzn_model.specs.Rests.{IsRestOf}
use Rattle.rest_global.specs.Projected.{IsOffset}
use Rattle.search_core.specs.declared.decision.Decision.{Decision}
use Rattle.search_core.specs.Paths.{obeys, opposite, Meets, Settled}
use Rattle.search_core.specs.Sizes.{size}
use Rattle.search_core.specs.Locals.{LocalParts}
use Rattle.explorer.specs.Nodes.{IsNode}
use Rattle.explorer.specs.Holding.{HasSettled}
use Rattle.explorer.specs.declared.frame.Frame.{Frame}
use Rattle.explorer.specs.declared.frame.Whole.{Whole}
use Rattle.explorer.specs.declared.frame.Side.{Side}
use Rattle.explorer.specs.declared.frame.Side.TheVariants as side

abbrev pub open_side : Side → Decision → Decision
open_side side.First d = d
open_side side.Second d = opposite d

-- the path of the node that is looked at
unfoldable pub path_of : List Decision → List Frame → List Decision
path_of p [] = p
path_of p (f ∷ fs) = path_of p fs ++ open_side f.side f.cut ∷ []

-- an assignment of the box is on this side
pub record HasSide (box : List (List ℤ)) (d : Decision) : Type 0 where
  pub within : d.var < length box
  pub value : IsValue d.at
  pub some : (θ : List ℤ) × InBox box θ × (obeys d θ ≡ true)

-- both sides of the cut have one
unfoldable pub HasBoth : List (List ℤ) → Decision → Type 0
HasBoth box d = HasSide box d × HasSide box (opposite d)

-- the first side is settled, once the second is open
abbrev pub FirstDone : Parts → List Decision → Side → Decision → ℤ → Type 0
FirstDone m p side.First d b = ⊤
FirstDone m p side.Second d b = Settled m (p ++ d ∷ []) b

-- the residual problem is a rest of what meets the path
unfoldable pub RestFact : Parts → List Decision → Option Whole → ℤ → Type 0
RestFact m p None seen = ⊤
RestFact m p (Some w) seen = IsRestOf (Meets p) m seen w.rest w.offset × IsOffset w.offset

-- What an open expansion promises, at the bound that is seen now.
pub record IsOpen (m : Parts) (p : List Decision) (f : Frame) (box : List (List ℤ)) (b : ℤ) : Type 0 where
  pub node : IsNode m p box b
  pub sides : HasBoth box f.cut
  pub first : FirstDone m p f.side f.cut b
  pub rest : RestFact m p f.whole f.seen
  pub opened : b ≤ℤ f.seen

unfoldable pub AreOpen : Parts → List Decision → List Frame → List (List (List ℤ)) → ℤ → Type 0
AreOpen m p [] saved b = ⊤
AreOpen m p (f ∷ fs) [] b = ⊥
AreOpen m p (f ∷ fs) (box ∷ saved) b = IsOpen m (path_of p fs) f box b × AreOpen m p fs saved b

-- what the frames saved stands on this
unfoldable pub Levels : List Frame → List (List (List ℤ)) → List (List (List ℤ)) → Type 0
Levels [] saved root = saved ≡ root
Levels (f ∷ fs) [] root = ⊥
Levels (f ∷ fs) (box ∷ saved) root = Levels fs saved root

-- how many expansions a path can take: one less than its assignments
unfoldable pub weight : Parts → List Decision → ℕ
weight m p = size m p - 1

abbrev pub side_weight : Parts → List Decision → Side → Decision → ℕ
side_weight m p side.First d = weight m (p ++ opposite d ∷ [])
side_weight m p side.Second d = 0

-- the weights of the sides that wait
unfoldable pub waiting_weight : Parts → List Decision → List Frame → ℕ
waiting_weight m p [] = 0
waiting_weight m p (f ∷ fs) = side_weight m (path_of p fs) f.side f.cut + waiting_weight m p fs

abbrev pub waits : List Decision → Side → Decision → List (List Decision) → List (List Decision)
waits p side.First d ps = (p ++ opposite d ∷ []) ∷ ps
waits p side.Second d ps = ps

-- the sides that wait, which are held
unfoldable pub waiting : List Decision → List Frame → List (List Decision)
waiting p [] = []
waiting p (f ∷ fs) = waits (path_of p fs) f.side f.cut (waiting p fs)

abbrev pub IsDone : List Decision → Side → Decision → LocalParts → Type 0
IsDone p side.First d l = ⊤
IsDone p side.Second d l = HasSettled (p ++ d ∷ []) l

-- the first sides that are settled
unfoldable pub AreDone : List Decision → List Frame → LocalParts → Type 0
AreDone p [] l = ⊤
AreDone p (f ∷ fs) l = IsDone (path_of p fs) f.side f.cut l × AreDone p fs l

unfoldable pub IsSecond : Side → Type 0
IsSecond side.First = ⊥
IsSecond side.Second = ⊤
