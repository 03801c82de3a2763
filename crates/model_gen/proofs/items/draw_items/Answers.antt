use Rattle.std.proofs.Common.{rules, ◌+◌, ◌-◌, ℕ, arith}
use Rattle.model_gen.proofs.Drawing.{IsItem, drawn_more, all_drawn}
use Rattle.model_gen.proofs.items.draw_items.Goals as goal

pub loop-preserved : goal.loop-preserved
loop-preserved c =
    let item : IsItem c.loop.generator.state c.draw_weight.new.generator.state c.draw_value.new.generator.state c.draw_weight.result c.draw_value.result = record { first = c.draw_weight.ensures.stepped; second = c.draw_value.ensures.stepped; weight_is = c.draw_weight.ensures.weight; value_is = search rules } in
    record {
      weights = drawn_more (λ (i : ℕ × ℕ). i.0) c.args.start (32 - c.loop.counter) (32 - (c.loop.counter + 1)) _ _ _ c.draw_weight.result c.draw_value.result c.loop.weights.items _ (omega arith) item (search rules) c.loop.invariant.weights;
      values = drawn_more (λ (i : ℕ × ℕ). i.1) c.args.start (32 - c.loop.counter) (32 - (c.loop.counter + 1)) _ _ _ c.draw_weight.result c.draw_value.result c.loop.values.items _ (omega arith) item (search rules) c.loop.invariant.values;
    }

pub returns-clause-weights : goal.returns-clause-weights
returns-clause-weights c = all_drawn (λ (i : ℕ × ℕ). i.0) c.args.start (32 - c.loop.counter) c.loop.generator.state c.loop.weights.items (omega arith) c.loop.invariant.weights

pub returns-clause-values : goal.returns-clause-values
returns-clause-values c = all_drawn (λ (i : ℕ × ℕ). i.1) c.args.start (32 - c.loop.counter) c.loop.generator.state c.loop.values.items (omega arith) c.loop.invariant.values
