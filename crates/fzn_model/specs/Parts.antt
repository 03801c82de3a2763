use Rattle.std.specs.Prelude.{List, ℤ}
use Rattle.fzn_model.specs.declared.con.Con.{Con}
use Rattle.fzn_model.specs.declared.goal.Goal.{Goal}
use Rattle.fzn_model.specs.declared.out.Out.{Out}
use Rattle.fzn_model.specs.declared.pick.Pick.{Pick}

-- What a model is made of: a domain for each variable, constraints, a goal, outputs and search annotations.
pub record Parts : Type 0 where
  pub doms : List (List (ℤ × ℤ))
  pub cons : List Con
  pub goal : Goal
  pub outs : List Out
  pub order : List Pick
