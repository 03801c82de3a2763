use Rattle.std.proofs.Common.{FitsSigned, w64, rules, arith, ◌∙◌}
use Rattle.std.proofs.lemmas.Int.{to_z-of_z}
use Rattle.explorer.proofs.Leaves.{least_more, least_all}
use Rattle.explorer.proofs.node.read_values.Goals as goal

pub loop-var-preserved : goal.loop-var-preserved
loop-var-preserved c =
    let fits : FitsSigned w64 c.low.result = search rules in
    least_more c.args.store.now.box c.loop-var.var _ c.loop-var.values.items c.push.new.self.items (omega arith) c.loop-var.invariant (to_z-of_z w64 c.low.result fits ∙ c.low.ensures.value) c.in_ok-push.ensures.items

pub returns : goal.returns
returns c = least_all c.args.store.now.box c.loop-var.var c.loop-var.values.items (omega arith) c.loop-var.invariant
