use Rattle.std.specs.Prelude.{pos}
use Rattle.fzn_model.specs.declared.term.Term.TheVariants as term
use Rattle.fzn_model.specs.declared.cumulative.CumTask.{CumTask}
use Rattle.rest_forms.proofs.Tasks.{with_none, none_amount, with_more, use_not_negative, all_are, all_amounts}
use Rattle.rest_forms.proofs.cumulative.all_used.Goals as goal

none : CumTask
none = record { s = term.Const (pos 0); d = term.Const (pos 0); r = term.Const (pos 0) }

pub loop-task-init : goal.loop-task-init
loop-task-init g c = record {
  value = with_none (g.V.BoxView.shape c.args.view.now) c.args.used.now c.in_ok-all.all.items c.in_ok-all.ensures.items;
  amounts = none_amount c.args.used.now c.in_ok-all.all.items c.requires.used c.in_ok-all.ensures.items;
}

pub add_fixed-requires : goal.add_fixed-requires
unfolding none
add_fixed-requires g c = record {
  terms = c.requires.tasks.terms c.loop-task.task-index none c.loop-task-test.true;
  some = use_not_negative (g.V.BoxView.shape c.args.view.now) c.args.tasks.now c.loop-task.task-index none c.requires.none c.loop-task-test.true;
}

pub loop-task-preserved : goal.loop-task-preserved
unfolding none
loop-task-preserved g c = record {
  value = with_more (g.V.BoxView.shape c.args.view.now) c.args.tasks.now c.args.used.now c.loop-task.all.items c.add_fixed.new.all.items c.loop-task.task-index none c.loop-task-test.true c.loop-task.invariant.value c.in_ok-add_fixed.ensures.items;
  amounts = c.in_ok-add_fixed.ensures.amounts c.loop-task.invariant.amounts;
}

pub returns-clause-value : goal.returns-clause-value
returns-clause-value g c = all_are (g.V.BoxView.shape c.args.view.now) c.args.tasks.now c.args.used.now c.loop-task.all.items c.loop-task.task-index c.loop-task-test.false c.loop-task.invariant.value

pub returns-clause-amounts : goal.returns-clause-amounts
returns-clause-amounts g c =
    let box = g.V.BoxView.shape c.args.view.now in
    all_amounts box c.args.tasks.now c.args.used.now c.loop-task.all.items c.requires.used c.requires.tasks (all_are box c.args.tasks.now c.args.used.now c.loop-task.all.items c.loop-task.task-index c.loop-task-test.false c.loop-task.invariant.value) c.loop-task.invariant.amounts
