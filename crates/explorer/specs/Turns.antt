-- Where a search stands between two steps. It is this project's own.
use Rattle.std.specs.Prelude.{◌≡◌, ℕ, ◌+◌, ◌*◌, List, [], ◌∷◌, ◌++◌, ℤ, ⊤}
use Rattle.fzn_model.specs.Parts.{Parts}
use Rattle.search_core.specs.declared.decision.Decision.{Decision}
use Rattle.search_core.specs.Paths.{Settled}
use Rattle.search_core.specs.Locals.{LocalParts}
use Rattle.explorer.specs.Nodes.{IsNode}
use Rattle.explorer.specs.Holding.{HasSettled}
use Rattle.explorer.specs.Frames.{path_of, IsOpen, open_side, AreOpen, weight, side_weight, waiting_weight, waiting, waits, AreDone, IsDone}
use Rattle.explorer.specs.declared.bench.Bench.{Bench}
use Rattle.explorer.specs.declared.frame.Frame.{Frame}
use Rattle.explorer.specs.declared.frame.Side.{Side}
use Rattle.explorer.specs.declared.frame.Side.TheVariants as side
use Rattle.explorer.specs.declared.frame.Turn.{Turn}
use Rattle.explorer.specs.declared.frame.Turn.TheVariants as turn

-- a node is to be looked at
pub record IsDown (m : Parts) (p : List Decision) (t : Bench) (b : ℤ) : Type 0 where
  pub path : t.here ≡ path_of p t.frames
  pub opens : AreOpen m p t.frames t.store.saved b
  pub node : IsNode m t.here t.store.box b

-- a node is settled
pub record IsUp (m : Parts) (p : List Decision) (t : Bench) (b : ℤ) : Type 0 where
  pub path : t.here ≡ path_of p t.frames
  pub opens : AreOpen m p t.frames t.store.saved b
  pub closed : Settled m t.here b

-- back at an expansion, whose open side is settled
pub record IsBack (m : Parts) (p : List Decision) (f : Frame) (t : Bench) (b : ℤ) : Type 0 where
  pub path : t.here ≡ path_of p t.frames
  pub open_here : IsOpen m t.here f t.store.box b
  pub opens : AreOpen m p t.frames t.store.saved b
  pub closed : Settled m (t.here ++ open_side f.side f.cut ∷ []) b

abbrev pub IsAt : Parts → List Decision → Turn → Bench → ℤ → Type 0
IsAt m p turn.Down t b = IsDown m p t b
IsAt m p (turn.Up c) t b = IsUp m p t b × (c.bound ≡ b)
IsAt m p (turn.Back f c) t b = IsBack m p f t b × (c.bound ≡ b)
IsAt m p (turn.Done c) t b = Settled m p b × (t.frames ≡ []) × (c.bound ≡ b)

-- the paths under the call's that are held
abbrev pub held_at : List Decision → Turn → Bench → List (List Decision)
held_at p turn.Down t = t.here ∷ waiting p t.frames
held_at p (turn.Up c) t = waiting p t.frames
held_at p (turn.Back f c) t = waits t.here f.side f.cut (waiting p t.frames)
held_at p (turn.Done c) t = []

-- the sides that are settled
abbrev pub DoneAt : List Decision → Turn → Bench → LocalParts → Type 0
DoneAt p turn.Down t l = AreDone p t.frames l
DoneAt p (turn.Up c) t l = HasSettled t.here l × AreDone p t.frames l
DoneAt p (turn.Back f c) t l = HasSettled (t.here ++ open_side f.side f.cut ∷ []) l × IsDone t.here f.side f.cut l × AreDone p t.frames l
DoneAt p (turn.Done c) t l = ⊤

-- how many credits the open paths may still draw
abbrev pub open_weight : Parts → List Decision → Turn → Bench → ℕ
open_weight m p turn.Down t = weight m t.here + waiting_weight m p t.frames
open_weight m p (turn.Up c) t = waiting_weight m p t.frames
open_weight m p (turn.Back f c) t = side_weight m t.here f.side f.cut + waiting_weight m p t.frames
open_weight m p (turn.Done c) t = 0

abbrev pub side_turns : Side → ℕ
side_turns side.First = 3
side_turns side.Second = 0

unfoldable pub waiting_turns : List Frame → ℕ
waiting_turns [] = 0
waiting_turns (f ∷ fs) = (2 + side_turns f.side) + waiting_turns fs

abbrev pub last_turns : Turn → ℕ
last_turns turn.Down = 2
last_turns (turn.Up c) = 1
last_turns (turn.Back f c) = 2 + side_turns f.side
last_turns (turn.Done c) = 0

-- what each step lessens
unfoldable pub turns_left : Parts → List Decision → Turn → Bench → ℕ
turns_left m p u t = 6 * open_weight m p u t + waiting_turns t.frames + last_turns u

unfoldable pub IsGoing : Turn → Type 0
IsGoing turn.Down = ⊤
IsGoing (turn.Up c) = ⊤
IsGoing (turn.Back f c) = ⊤
IsGoing (turn.Done c) = ⊥
