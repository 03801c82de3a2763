use Rattle.std.proofs.Common.{ℕ, ◌-◌}
use Rattle.model_gen.proofs.Drawing.{AreDrawn}
use Rattle.model_gen.proofs.items.draw_items.Given as goal

abbrev pub invariant-loop : goal.invariant-loop
invariant-loop l = record {
  weights : AreDrawn (λ (i : ℕ × ℕ). i.0) l.fn.start (32 - l.counter) l.generator.state l.weights.items;
  values : AreDrawn (λ (i : ℕ × ℕ). i.1) l.fn.start (32 - l.counter) l.generator.state l.values.items;
}
