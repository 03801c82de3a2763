-- A store and an engine of one model are for each other.
use Rattle.std.proofs.Common.{sym, subst}
use Rattle.fzn_model.specs.Parts.{Parts}
use Rattle.fzn_model.specs.Limits.{GoalInLimits, IsModel}
use Rattle.dom_store.specs.Views.{box_of, box_count}
use Rattle.dom_store.proofs.Made.{model_fits}
use Rattle.prop_engine.specs.Plans.{IsFor, plan_of}

pub same_model : (m : Parts) → IsModel m → IsFor (box_of m.doms) (plan_of m)
same_model m model = record {
  cons = model_fits m model;
  goal = subst (λ n. GoalInLimits n m.goal) (sym (box_count m.doms)) model.goal;
}
