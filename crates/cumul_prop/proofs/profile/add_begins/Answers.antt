use Rattle.std.proofs.Common.{pos}
use Rattle.fzn_model.specs.declared.cumulative.Used.{Used}
use Rattle.cumul_prop.proofs.Profiling.{begins_more}
use Rattle.cumul_prop.proofs.profile.add_begins.Goals as goal

pub loop-at-preserved : goal.loop-at-preserved
loop-at-preserved c = let none : Used = record { from = pos 0; to = pos 0; amount = pos 0 } in begins_more c.args.all.now c.loop-at.profile.items c.add_moment.new.profile.items c.in_ok-add_moment.ensures.each c.in_ok-add_moment.ensures.keeps c.loop-at.at none c.loop-at-test.true c.loop-at.invariant c.in_ok-add_moment.ensures.has
