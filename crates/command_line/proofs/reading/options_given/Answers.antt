use Rattle.std.proofs.Common.{rules}
use Rattle.clap.specs.Words.{found_of, rows_of}
use Rattle.command_line.proofs.Lines.{options_good}
use Rattle.command_line.proofs.reading.options_given.Goals as goal

pub returns : goal.returns
returns c = options_good (rows_of (found_of c.args.matches.now)) c.in_ok-workers.workers c.in_ok-ways.ways c.in_ok-key_words.key_words c.in_ok-nodes.nodes c.options_within.result (search rules) (search rules) (search rules) (search rules) c.options_within.ensures
