use Rattle.std.proofs.Common.{take}
use Rattle.run_log.specs.Steps.{AreValues}
use Rattle.run_log.proofs.fields.values.Given as goal

abbrev pub invariant-loop-number : goal.invariant-loop-number
invariant-loop-number l = AreValues (take l.number-index l.numbers) l.values
