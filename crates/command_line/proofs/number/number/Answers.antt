use Rattle.command_line.proofs.Numbers.{reads}
use Rattle.std.proofs.Common.{rules, ◌∙◌, arith}
use Rattle.command_line.proofs.number.number.Goals as goal

pub returns : goal.returns
returns c = c.ok.ensures.value ∙ reads c.args.text.now c.parse.result (search rules) (search rules) c.parse.ensures.value.0
