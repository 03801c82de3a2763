use Rattle.std.proofs.Common.{true, rules, FitsSigned, arith}
use Rattle.std.specs.Int.{w64, w128}
use Rattle.std.proofs.lemmas.Int.{ints, to_z-of_z}
use Rattle.lin_prop.proofs.Capping.{reach_exceeds, ample_low, reach_leaves}
use Rattle.lin_prop.proofs.Relating.{equal_over, equal_up}
use Rattle.lin_prop.proofs.lin_prop.cap_by.Goals as goal

pub returns-in-Over : goal.returns-in-Over
returns-in-Over c =
    let f : FitsSigned w128 c.negative-other.result = search rules in
    equal_over c.args.terms.now c.args.r.now c.negative-other.result c.args.store.now c.args.store.now c.negative-other.ensures.value
    (reach_exceeds true c.args.store.now c.args.terms.now c.args.reach.now c.negative-other.result c.requires.well_formed c.requires.limits c.requires.reach (simp to_z-of_z at c.in-Over.ensures))

pub returns-in-Ample : goal.returns-in-Ample
returns-in-Ample c =
    let f : FitsSigned w128 c.negative-other.result = search rules in
    equal_up c.args.terms.now c.args.r.now c.negative-other.result c.args.store.now c.cap_terms.new.store c.cap_terms.result c.negative-other.ensures.value c.requires.limits
    (ample_low true c.args.store.now.box c.args.terms.now c.args.reach.now c.negative-other.result c.requires.reach (simp to_z-of_z at c.in-Ample.ensures))
    c.cap_terms.ensures

pub cap_both-requires-clause-below : goal.cap_both-requires-clause-below
cap_both-requires-clause-below c =
    let f : FitsSigned w128 c.negative-other.result = search rules in
    let g : FitsSigned w64 c.in-Scarce.down = search rules in
    let sum = reach_leaves true c.args.store.now.box c.args.terms.now c.args.reach.now c.negative-other.result c.in-Scarce.down c.requires.reach (simp to_z-of_z at c.in-Scarce.ensures) in
    simp to_z-of_z (omega (arith, ints, sum, c.negative-other.ensures.value))
