use Rattle.std.proofs.Common.{pos, ◌<◌, length, rules}
use Rattle.fzn_model.specs.declared.term.Term.TheVariants as term
use Rattle.fzn_model.specs.declared.cumulative.CumTask.{CumTask}
use Rattle.cumul_prop.proofs.Fitting.{limits_more}
use Rattle.cumul_prop.proofs.limits.put_limits.Goals as goal

pub loop-at-preserved : goal.loop-at-preserved
loop-at-preserved c =
    let none : CumTask = record { s = term.Const (pos 0); d = term.Const (pos 0); r = term.Const (pos 0) } in
    let inside : c.loop-at.at < length c.args.tasks.now = search rules in
    record {
      limits = limits_more c.args.store.now.box c.args.tasks.now c.args.used.now c.args.capacity c.loop-at.at none c.loop-at.limits.items c.push.new.self.items c.limit_of.result inside
          c.loop-at.invariant.limits c.in_ok-push.ensures.items c.limit_of.ensures;
    }
