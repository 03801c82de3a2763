use Rattle.std.proofs.Common.{rules, arith, ℤ, pos, ◌≡◌, ℕ, ◌<◌, List, [], ◌∷◌, length, sym, ap, subst, ◌∙◌}
use Rattle.std.specs.Prelude.{All, AllPairs}
use Rattle.fzn_model.specs.Limits.{ConInLimits, of_call}
use Rattle.fzn_model.specs.Rests.{CostInLimits}
use Rattle.search_tests.proofs.Least.{least_true}
use Rattle.search_tests.proofs.tests.problems.rest_of.Goals as goal

one_rises : (labels : List ℕ) → labels ≡ 0 ∷ [] → AllPairs (λ a b. a < b) labels
one_rises labels is = rw is (search rules)

pub invariant_of-result : goal.invariant_of-result
invariant_of-result c = record {
  variables = rw c.in_ok-doms.ensures.count (omega arith);
  domains = c.in_ok-doms.ensures.limits;
  constraints = rw c.in_ok-cons.ensures.count (omega arith);
  cons = subst (λ n. All (ConInLimits of_call n) c.in_ok-cons.cons) (sym c.in_ok-doms.ensures.count) c.in_ok-cons.ensures.limits;
  truths = c.in_ok-cons.ensures.truths c.in_ok-doms.doms;
  cost = subst (λ n. CostInLimits n c.in_ok-cost.cost) (sym c.in_ok-doms.ensures.count) c.in_ok-cost.ensures.limits;
  labelled = ap length c.in_ok-labels.ensures ∙ sym c.in_ok-cons.ensures.count;
  rising = one_rises c.in_ok-labels.labels c.in_ok-labels.ensures;
}

pub returns : goal.returns
returns c = least_true (record { doms = c.in_ok-doms.doms; cost = c.in_ok-cost.cost; cons = c.in_ok-cons.cons; labels = c.in_ok-labels.labels }) c.args.run.now.0 c.args.run.now.1 (((pos 0, pos 9) ∷ []) ∷ []) c.in_ok-doms.ensures.domains c.in_ok-cost.ensures.cost
