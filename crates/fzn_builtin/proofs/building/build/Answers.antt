use Rattle.fzn_builtin.specs.Reading.{HasArguments}
use Rattle.fzn_builtin.proofs.ArgumentsRead.{has_arguments}
use Rattle.fzn_builtin.proofs.Keeping.{answer_kept, answer_true}
use Rattle.fzn_builtin.proofs.building.build.Goals as goal

pub constraint_of-requires : goal.constraint_of-requires
constraint_of-requires c =
    rw c.shape.ensures.value (has_arguments c.args.builtin c.args.args.now c.shape.ensures.below c.requires.fit c.requires.whole)

pub returns-clause-kept : goal.returns-clause-kept
returns-clause-kept c = answer_kept c.shape.result c.args.args.now c.constraint_of.result c.constraint_of.ensures

pub returns-clause-truths : goal.returns-clause-truths
returns-clause-truths c =
    let there : HasArguments c.shape.result c.args.args.now = rw c.shape.ensures.value (has_arguments c.args.builtin c.args.args.now c.shape.ensures.below c.requires.fit c.requires.whole) in
    answer_true c.shape.result c.args.args.now c.constraint_of.result there c.constraint_of.ensures
