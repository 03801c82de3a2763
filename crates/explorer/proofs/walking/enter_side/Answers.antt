use Rattle.std.proofs.Common.{List, ℤ, subst, ap}
use Rattle.dom_store.specs.Stores.{Stored}
use Rattle.explorer.specs.Walking.{NoneObeys}
use Rattle.explorer.proofs.Cutting.{some_obeys}
use Rattle.explorer.proofs.walking.enter_side.Goals as goal

pub unreachable-requires : goal.unreachable-requires
unreachable-requires c = some_obeys c.args.side.now c.args.store.now.box c.requires (subst (λ (box : List (List ℤ)). NoneObeys c.args.side.now box) (ap (λ (s : Stored). s.box) c.in_ok-push_level.ensures.ok) (c.cut.ensures.none c.in-Empty.is))
