use Rattle.std.proofs.Common.{arith, sym, subst}
use Rattle.alldiff_prop.specs.Rising.{Rises, IsRising}
use Rattle.alldiff_prop.proofs.Free.{free_is}
use Rattle.alldiff_prop.proofs.taken.Taken.free_between.Goals as goal

pub count_within-requires-clause-rises : goal.count_within-requires-clause-rises
count_within-requires-clause-rises c = subst Rises (sym c.as_slice.ensures.value) c.self.invariant.rises

pub overflow_sub-result : goal.overflow_sub-result
overflow_sub-result c =
    let copy : IsRising c.args.self.now c.as_slice.result.now = subst (λ g. IsRising g c.as_slice.result.now) c.self.view_is (subst (IsRising c.self.inside.given) (sym c.as_slice.ensures.value) c.self.invariant) in
    let all = free_is _ _ _ _ _ copy c.requires.order c.size.ensures in
    omega (arith, all)

pub returns : goal.returns
returns c =
    let copy : IsRising c.args.self.now c.as_slice.result.now = subst (λ g. IsRising g c.as_slice.result.now) c.self.view_is (subst (IsRising c.self.inside.given) (sym c.as_slice.ensures.value) c.self.invariant) in
    let all = free_is _ _ _ _ _ copy c.requires.order c.size.ensures in
    omega (arith, all)
