use Rattle.std.proofs.Common.{pos, get_or, subst, ℤ}
use Rattle.fzn_model.specs.declared.term.Term.TheVariants as term
use Rattle.fzn_model.specs.declared.cumulative.CumTask.{CumTask}
use Rattle.dom_store.specs.Steps.{NarrowsTerm, LowIs, IsAtLeast}
use Rattle.cumul_prop.proofs.Limiting.{limited_then, limited_never}
use Rattle.cumul_prop.proofs.starts.limit_start.Goals as goal

none : CumTask
none = record { s = term.Const (pos 0); d = term.Const (pos 0); r = term.Const (pos 0) }

zeros : ℤ × ℤ
zeros = (pos 0, pos 0)

pub returns-in-Empty : goal.returns-in-Empty
unfolding none zeros
returns-in-Empty c =
    let t = (get_or c.args.tasks.now c.args.at none).s in
    let low = (get_or c.args.limits.now c.args.at zeros).0 in
    limited_never c.args.tasks.now c.args.used.now c.args.capacity c.args.limits.now c.args.at none zeros c.args.store.now c.cut_below.new.store c.requires.bounded
    (subst (NarrowsTerm (IsAtLeast low) (LowIs t low) t c.args.store.now c.cut_below.new.store) c.in-Empty.is c.cut_below.ensures.narrows)

pub returns : goal.returns
unfolding none zeros
returns c =
    let t = (get_or c.args.tasks.now c.args.at none).s in
    let low = (get_or c.args.limits.now c.args.at zeros).0 in
    limited_then c.args.tasks.now c.args.used.now c.args.capacity c.args.limits.now c.args.at none zeros c.args.store.now c.cut_below.new.store c.cut_above.new.store c.cut_above.result c.requires.at c.requires.count c.requires.bounded
    (subst (NarrowsTerm (IsAtLeast low) (LowIs t low) t c.args.store.now c.cut_below.new.store) c.in-Done.is c.cut_below.ensures.narrows) c.cut_above.ensures.narrows
