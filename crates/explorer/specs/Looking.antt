-- What is found out about one node. It is this project's own.
use Rattle.std.specs.Prelude.{◌≡◌, List, map, ℤ, ◌≤ℤ◌, ◌<ℤ◌, All, ⊤}
use Rattle.std.specs.declared.option.Option.{Option}
use Rattle.fzn_model.specs.Parts.{Parts}
use Rattle.fzn_model.specs.Solutions.{Solves, cost}
use Rattle.fzn_model.specs.Boxes.{low_value}
use Rattle.incumbent_board.specs.Passes.{Held, SamePass, IsAlone}
use Rattle.search_core.specs.declared.decision.Decision.{Decision}
use Rattle.search_core.specs.Paths.{Meets, Settled}
use Rattle.run_log.specs.Journals.{Noted, Notes}
use Rattle.explorer.specs.Offers.{Kept, IsOffer, least_with, known_after, kept_after}
use Rattle.explorer.specs.Nodes.{IsNode}
use Rattle.explorer.specs.Frames.{HasBoth}
use Rattle.explorer.specs.Trees.{leaf, solution_lines}
use Rattle.explorer.specs.RightLogs.{IfFound, IsPropagated, least_after}
use Rattle.explorer.specs.Recording.{known_in}
use Rattle.explorer.specs.declared.bench.Bench.{Bench}
use Rattle.explorer.specs.declared.meter.Meter.{Meter}
use Rattle.explorer.specs.declared.node.Node.{Node}
use Rattle.explorer.specs.declared.node.Node.TheVariants as node

-- nothing but what was seen and heard changed
pub record Listened (x y : Held) : Type 0 where
  pub same : SamePass x y
  pub credits : y.credits ≡ x.credits
  pub least : y.least ≡ x.least
  pub falls : y.seen ≤ℤ x.seen
  pub floor : IsAlone x → x.least ≤ℤ x.seen → y.least ≤ℤ y.seen
  pub for_budget : y.stops_budget ≡ x.stops_budget
  pub for_memory : y.stops_memory ≡ x.stops_memory

-- solutions were offered, and nothing else was done
pub record Finds (m : Parts) (x y : Held) (a b : Meter) (f g : Kept) : Type 0 where
  pub offers : List (List ℤ × ℤ)
  pub solved : All (IsOffer m) offers
  pub credits : y.credits ≡ x.credits
  pub count : b.count ≡ a.count
  pub closed : b.closed ≡ a.closed
  pub least : y.least ≡ least_with x.least offers
  pub known : b.least ≡ known_after a.least offers
  pub kept : g.best ≡ kept_after f.best offers
  pub room : g.count ≡ f.count
  pub falls : y.seen ≤ℤ x.seen
  pub floor : IsAlone x → x.least ≤ℤ x.seen → y.least ≤ℤ y.seen
  pub same : SamePass x y
  pub for_budget : y.stops_budget ≡ x.stops_budget
  pub for_memory : y.stops_memory ≡ x.stops_memory

-- nothing was found
pub record FindsNone (x y : Held) (a b : Meter) (f g : Kept) : Type 0 where
  pub pass : y ≡ x
  pub meter : b ≡ a
  pub found : g ≡ f

-- at most one solution on the path was found, which was offered and noted
pub record NotesFound (m : Parts) (p : List Decision) (x y : Held) (a b : Meter) (j k : Noted) : Type 0 where
  pub solution : Option (ℤ × List ℤ)
  pub found : IfFound m p solution
  pub notes : Notes j k (solution_lines solution)
  pub least : y.least ≡ least_after (leaf solution y.seen) x.least
  pub seen : y.seen ≡ least_after (leaf solution y.seen) x.seen
  pub known : b.least ≡ known_in a.least (solution_lines solution)

-- only the domains changed, and the room for values
pub record StaysAt (t k : Bench) : Type 0 where
  pub here : k.here ≡ t.here
  pub frames : k.frames ≡ t.frames
  pub saved : k.store.saved ≡ t.store.saved
  pub plan : k.engine ≡ t.engine

-- the least value of each variable
unfoldable pub AreLeast : List (List ℤ) → List ℤ → Type 0
AreLeast box θ = θ ≡ map low_value box

-- what is cheaper on the path can only be these values
unfoldable pub IsOnly : Parts → List Decision → List ℤ → ℤ → Type 0
IsOnly m p φ b = (θ : List ℤ) → Solves m θ → Meets p θ → cost m θ <ℤ b → θ ≡ φ

-- what a look says: the node is settled, or it has a cut
unfoldable pub IsLooked : Parts → Bench → ℤ → Node → Type 0
IsLooked m t b (node.Closed z) = Settled m t.here b × (z ≡ b)
IsLooked m t b (node.Open d) = IsNode m t.here t.store.box b × HasBoth t.store.box d

-- a node that is to be cut has the box that propagation left
unfoldable pub IsReached : Parts → Bench → ℤ → Node → Type 0
IsReached m t b (node.Closed z) = ⊤
IsReached m t b (node.Open d) = IsPropagated m t.here b t.store.box

unfoldable pub IsOpenNode : Node → Type 0
IsOpenNode (node.Closed z) = ⊥
IsOpenNode (node.Open d) = ⊤
