use Rattle.std.proofs.Common.{false, rules, FitsSigned}
use Rattle.std.specs.Int.{w64, w128}
use Rattle.std.proofs.lemmas.Int.{to_z-of_z}
use Rattle.lin_prop.proofs.Capping.{reach_exceeds, reach_ample, reach_leaves}
use Rattle.lin_prop.proofs.Relating.{equal_none, equal_step}
use Rattle.lin_prop.proofs.lin_prop.pass_equal.Goals as goal

pub returns-in-Over : goal.returns-in-Over
returns-in-Over c = equal_none c.args.terms.now c.args.r.now c.args.store.now c.args.store.now
    (reach_exceeds false c.args.store.now c.args.terms.now c.reach_of-reach.result c.args.r.now c.recall_domains.ensures.domains c.requires.limits c.reach_of-reach.ensures c.in-Over.ensures)

pub returns-in-Ample : goal.returns-in-Ample
returns-in-Ample c =
    let f : FitsSigned w128 c.negative.result = search rules in
    let first = reach_ample false c.args.store.now c.args.terms.now c.reach_of-reach.result c.args.r.now c.recall_domains.ensures.domains c.reach_of-reach.ensures c.in-Ample.ensures in
    equal_step c.args.terms.now c.args.r.now c.negative.result c.args.store.now c.args.store.now c.cap_within.new.store c.cap_within.result c.negative.ensures.value c.requires.limits first (simp to_z-of_z at c.cap_within.ensures)

pub cap_by-requires-clause-above : goal.cap_by-requires-clause-above
cap_by-requires-clause-above c =
    let f : FitsSigned w64 c.in-Scarce.up = search rules in
    simp to_z-of_z (reach_leaves false c.args.store.now.box c.args.terms.now c.reach_of-reach.result c.args.r.now c.in-Scarce.up c.reach_of-reach.ensures c.in-Scarce.ensures)
