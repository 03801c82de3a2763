use Rattle.std.specs.Prelude.{◌++◌, codes}
use Rattle.std.specs.Fmt.{signed_decimal}
use Rattle.solution_out.proofs.Writing.{wrote_then, wrote_front}
use Rattle.solution_out.specs.Sums.{goal_value}
use Rattle.solution_out.proofs.sums.put_optimum.Goals as goal

pub returns-in_err-put-clause-text : goal.returns-in_err-put-clause-text
returns-in_err-put-clause-text g c = wrote_front _ _ (codes "verdict optimal\noptimum ") (signed_decimal (goal_value c.args.goal c.args.values.now) ++ codes "\n") _ _ c.from_residual.ensures.0 c.in_err-put.ensures.text

pub returns-in_err-put_goal_value-clause-text : goal.returns-in_err-put_goal_value-clause-text
returns-in_err-put_goal_value-clause-text g c =
    wrote_front _ _ (codes "verdict optimal\noptimum " ++ signed_decimal (goal_value c.args.goal c.args.values.now)) (codes "\n") _ _ c.from_residual-in_err-put_goal_value.ensures.0
    (wrote_then _ _ _ (codes "verdict optimal\noptimum ") _ _ c.in_ok-put.ensures.text c.in_err-put_goal_value.ensures.text)

pub returns-clause-text : goal.returns-clause-text
returns-clause-text g c =
    wrote_then _ _ _ (codes "verdict optimal\noptimum " ++ signed_decimal (goal_value c.args.goal c.args.values.now)) _ _
    (wrote_then _ _ _ (codes "verdict optimal\noptimum ") _ _ c.in_ok-put.ensures.text c.in_ok-put_goal_value.ensures.text)
    c.put-2.ensures.text
