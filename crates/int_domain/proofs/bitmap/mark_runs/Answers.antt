use Rattle.std.proofs.Common.{arith, ◌∙◌, pos}
use Rattle.std.proofs.lemmas.Int.{ints}
use Rattle.int_domain.specs.Values.{is_in_runs}
use Rattle.int_domain.specs.Bits.{marks, Covers}
use Rattle.int_domain.proofs.Runs.{marks_more}
use Rattle.int_domain.proofs.bitmap.mark_runs.Goals as goal

pub loop-run-init : goal.loop-run-init
unfolding is_in_runs
loop-run-init c = record {
  base = c.none_marked-bitmap.ensures.base;
  marked = λ v covered. c.none_marked-bitmap.ensures.none v covered;
}

pub mark_run-requires-clause-covered : goal.mark_run-requires-clause-covered
mark_run-requires-clause-covered c =
    let lie = c.requires.runs.each c.loop-run.run-index (pos 0, pos 0) (omega arith) in
    let base = c.loop-run.invariant.base in
    record { from = omega (arith, ints, lie.0, lie.1, lie.2, base); to = omega (arith, ints, lie.0, lie.1, lie.2, base) }

pub loop-run-preserved : goal.loop-run-preserved
loop-run-preserved c =
    let lie = c.requires.runs.each c.loop-run.run-index (pos 0, pos 0) (omega arith) in
    record {
      base = c.mark_run.ensures.base ∙ c.loop-run.invariant.base;
      marked = λ v covered.
          let before : Covers c.loop-run.bitmap v v = record { from = omega (arith, ints, c.mark_run.ensures.base, covered.from); to = omega (arith, ints, c.mark_run.ensures.base, covered.to) } in
          marks_more c.args.runs.now c.loop-run.run-index (pos 0, pos 0) v (marks c.loop-run.bitmap v) (marks c.mark_run.new.bitmap v) (omega arith)
          (c.loop-run.invariant.marked v before)
          (λ p q. c.mark_run.ensures.inside v (omega (arith, ints, p, lie.0, lie.1, lie.2)) (omega (arith, ints, q, lie.0, lie.1, lie.2)))
          (λ p. c.mark_run.ensures.below v before (omega (arith, ints, p, lie.0, lie.1, lie.2)))
          (λ p. c.mark_run.ensures.above v before (omega (arith, ints, p, lie.0, lie.1, lie.2)));
    }
