use Rattle.std.proofs.Common.{pos, length, arith}
use Rattle.fzn_model.specs.declared.cumulative.Used.{Used}
use Rattle.cumul_prop.proofs.Profiling.{ends_more}
use Rattle.cumul_prop.proofs.profile.add_ends.Goals as goal

pub loop-at-preserved : goal.loop-at-preserved
loop-at-preserved c = let none : Used = record { from = pos 0; to = pos 0; amount = pos 0 } in ends_more c.args.all.now c.loop-at.profile.items c.add_moment.new.profile.items c.in_ok-add_moment.ensures.each c.in_ok-add_moment.ensures.keeps (length c.args.all.now) c.loop-at.at none (omega arith) c.loop-at.invariant c.in_ok-add_moment.ensures.has
