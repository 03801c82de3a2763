use Rattle.std.proofs.Common.{rules, pos}
use Rattle.run_log.specs.Texts.{number_text}
use Rattle.run_log.proofs.Buffering.{each_more, each_fault}
use Rattle.run_log.proofs.pieces.put_numbers.Goals as goal

pub returns-in_err-put_number-clause-text : goal.returns-in_err-put_number-clause-text
returns-in_err-put_number-clause-text g c = each_fault number_text _ _ _ c.args.numbers.now c.loop-number.number-index (pos 0) _ _ c.from_residual.ensures.0 c.loop-number-test.true c.loop-number.invariant.told c.in_err-put_number.ensures.text

pub loop-number-preserved : goal.loop-number-preserved
loop-number-preserved g c = record {
  told = each_more number_text _ _ _ c.args.numbers.now c.loop-number.number-index (pos 0) c.loop-number-test.true c.loop-number.invariant.told c.in_ok-put_number.ensures.text;
  faults = search rules;
}
