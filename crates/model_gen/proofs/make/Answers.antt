use Rattle.std.proofs.Common.{ℕ, ◌∙◌}
use Rattle.model_gen.proofs.Drawing.{numbers_count, numbers_small}
use Rattle.model_gen.proofs.make.Goals as goal

pub knapsack_of-requires : goal.knapsack_of-requires
knapsack_of-requires c = record {
  weights_count = numbers_count (λ (i : ℕ × ℕ). i.0) c.args.start _ (c.as_slice.ensures.value ∙ c.in_ok-drawn.ensures.weights);
  weights_small = numbers_small (λ (i : ℕ × ℕ). i.0) (λ w v heavy worth. heavy) c.args.start _ (c.as_slice.ensures.value ∙ c.in_ok-drawn.ensures.weights);
  values_count = numbers_count (λ (i : ℕ × ℕ). i.1) c.args.start _ (c.as_slice-2.ensures.value ∙ c.in_ok-drawn.ensures.values);
  values_small = numbers_small (λ (i : ℕ × ℕ). i.1) (λ w v heavy worth. worth) c.args.start _ (c.as_slice-2.ensures.value ∙ c.in_ok-drawn.ensures.values);
}
