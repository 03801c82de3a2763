use Rattle.std.proofs.Common.{arith, ◌∙◌}
use Rattle.model_gen.proofs.Fitting.{sum_small, model_fits}
use Rattle.model_gen.proofs.knapsack.knapsack_of.Goals as goal

pub total-requires : goal.total-requires
total-requires c = omega (arith, sum_small c.args.values.now c.requires.values_count c.requires.values_small)

pub weight_limit-requires-clause-small : goal.weight_limit-requires-clause-small
weight_limit-requires-clause-small c = omega (arith, sum_small c.args.weights.now c.requires.weights_count c.requires.weights_small)

pub invariant_of-result : goal.invariant_of-result
invariant_of-result c = model_fits c.args.weights.now c.args.values.now c.total.result c.from_vec.result c.in_ok-limit.limit c.in_ok-worth.worth c.from_vec-2.result c.new.result c.new-2.result c.total.ensures (c.from_vec.ensures ∙ c.in_ok-domains.ensures) c.in_ok-limit.ensures c.in_ok-worth.ensures (c.from_vec-2.ensures ∙ c.in_ok-constraints.ensures) c.new.ensures c.new-2.ensures c.requires.weights_count c.requires.weights_small c.requires.values_count c.requires.values_small
