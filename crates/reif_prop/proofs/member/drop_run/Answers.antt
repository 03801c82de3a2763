use Rattle.reif_prop.proofs.Members.{low_end, high_end, run_steps}
use Rattle.reif_prop.proofs.member.drop_run.Goals as goal

pub returns-in-Empty : goal.returns-in-Empty
returns-in-Empty c = low_end c.args.x c.args.run.now c.args.store.now c.leave_at.new.store c.in-Empty.ensures

pub returns-in-Empty-leave_at : goal.returns-in-Empty-leave_at
returns-in-Empty-leave_at c = high_end c.args.x c.args.run.now c.args.store.now c.leave_at.new.store c.leave_at-2.new.store c.in-Done.ensures c.in-Empty-leave_at.ensures

pub returns : goal.returns
returns c = run_steps c.args.x c.args.run.now c.args.store.now c.leave_at.new.store c.leave_at-2.new.store c.drop_each.new.store c.drop_each.result c.in-Done.ensures c.in-Done-leave_at.ensures c.drop_each.ensures
