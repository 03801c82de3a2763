use Rattle.std.proofs.Common.{◌∙◌}
use Rattle.fzn_lexer.proofs.Closing.{ended, broke, closed, on_skip, on_escape, on_plain}
use Rattle.fzn_lexer.proofs.longest.quoted_len.Goals as goal
use Rattle.fzn_lexer.proofs.longest.quoted_len.Goals.{then-escaped, else-escaped+then-c-eq92, else-escaped+else-c-eq92+else-c-eq34}

pub returns-then-c-eq10-clause-value : goal.returns-then-c-eq10-clause-value
returns-then-c-eq10-clause-value c = broke c.args.bytes.now c.loop-i.i _ c.loop-i.escaped c.loop-i-test.true c.if-c-eq10.true c.loop-i.invariant

pub returns-then-c-eq34-clause-value : goal.returns-then-c-eq34-clause-value
returns-then-c-eq34-clause-value c = closed c.args.bytes.now c.loop-i.i _ c.loop-i.escaped c.loop-i-test.true c.if-escaped.false c.if-c-eq34.true c.loop-i.invariant

pub loop-i-preserved : goal.loop-i-preserved
loop-i-preserved c =
    let bs = c.args.bytes.now in
    let i = c.loop-i.i in
    let e = c.loop-i.escaped in
    let f = c.if-escaped.escaped in
    elim c.if-escaped.branch [
      | then-escaped w ↦ on_skip bs i _ e f c.loop-i-test.true w.if-escaped.true w.escaped-is c.if-c-eq10.false c.loop-i.invariant
      | else-escaped+then-c-eq92 w ↦ on_escape bs i _ e f c.loop-i-test.true w.if-escaped.false w.escaped-is w.if-c-eq92.true c.loop-i.invariant
      | else-escaped+else-c-eq92+else-c-eq34 w ↦ on_plain bs i _ e f c.loop-i-test.true w.if-escaped.false (w.escaped-is ∙ w.if-escaped.false) c.if-c-eq10.false w.if-c-eq92.false w.if-c-eq34.false c.loop-i.invariant
    ]

pub returns-clause-value : goal.returns-clause-value
returns-clause-value c = ended c.args.bytes.now c.loop-i.i _ c.loop-i.escaped c.loop-i-test.false c.loop-i.invariant
