use Rattle.std.proofs.Common.{pos, get_or, subst}
use Rattle.fzn_model.specs.declared.term.Term.TheVariants as term
use Rattle.fzn_model.specs.declared.cumulative.CumTask.{CumTask}
use Rattle.dom_store.specs.Steps.{NarrowsTerm, LowIs, IsAtLeast}
use Rattle.cumul_prop.proofs.Signing.{signed_then, signed_never}
use Rattle.cumul_prop.proofs.signs.sign_task.Goals as goal

none : CumTask
none = record { s = term.Const (pos 0); d = term.Const (pos 0); r = term.Const (pos 0) }

pub returns-in-Empty : goal.returns-in-Empty
unfolding none
returns-in-Empty c =
    let t = (get_or c.args.tasks.now c.args.at none).d in
    signed_never c.args.tasks.now c.args.used.now c.args.capacity c.args.at none c.args.store.now c.cut_below.new.store c.requires.at
    (subst (NarrowsTerm (IsAtLeast (pos 0)) (LowIs t (pos 0)) t c.args.store.now c.cut_below.new.store) c.in-Empty.is c.cut_below.ensures.narrows)

pub returns : goal.returns
unfolding none
returns c =
    let t = (get_or c.args.tasks.now c.args.at none).d in
    signed_then c.args.tasks.now c.args.used.now c.args.capacity c.args.at none c.args.store.now c.cut_below.new.store c.cut_below-2.new.store c.cut_below-2.result c.requires.at
    (subst (NarrowsTerm (IsAtLeast (pos 0)) (LowIs t (pos 0)) t c.args.store.now c.cut_below.new.store) c.in-Done.is c.cut_below.ensures.narrows) c.cut_below-2.ensures.narrows
