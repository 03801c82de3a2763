use Rattle.std.proofs.Common.{rules, arith, ap, length, ◌+◌}
use Rattle.std.proofs.lemmas.List.{length-drop}
use Rattle.fzn_lexer.proofs.Gap.{on_newline, on_white, on_comment}
use Rattle.fzn_lexer.proofs.lexer.past_gap.Goals as goal

pub loop-at-preserved-then-bytes-at-eq10 : goal.loop-at-preserved-then-bytes-at-eq10
loop-at-preserved-then-bytes-at-eq10 c = record { same = on_newline c.args.bytes.now c.loop-at.line c.loop-at.at _ c.loop-at-test.true c.if-bytes-at-eq10.true c.loop-at.invariant.same; within = omega arith; lines = omega arith }

pub loop-at-preserved-then-is_white : goal.loop-at-preserved-then-is_white
loop-at-preserved-then-is_white c = record { same = on_white c.args.bytes.now c.loop-at.line c.loop-at.at _ c.loop-at-test.true c.if-bytes-at-eq10.false (search rules) c.loop-at.invariant.same; within = omega arith; lines = omega arith }

pub loop-at-preserved : goal.loop-at-preserved
loop-at-preserved c = record { same = on_comment c.args.bytes.now c.loop-at.line c.loop-at.at c.line_rest.result _ c.loop-at-test.true c.if-bytes-at-eq37.true (search rules) c.loop-at.invariant.same; within = omega (arith, c.line_rest.ensures.within, ap length c.from.ensures, length-drop (c.loop-at.at + 1) c.args.bytes.now); lines = omega arith }
