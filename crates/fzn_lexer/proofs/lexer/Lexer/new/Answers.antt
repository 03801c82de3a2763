use Rattle.fzn_lexer.proofs.Law.{spots_stand, only_spots}
use Rattle.fzn_lexer.specs.Passes.{spots_of}
use Rattle.fzn_lexer.proofs.PlacedLaw.{placed}
use Rattle.fzn_lexer.proofs.lexer.Lexer.new.Goals as goal

pub returns-clause-tokens : goal.returns-clause-tokens
returns-clause-tokens c = spots_stand 1 0 c.args.bytes.now

pub returns-clause-only : goal.returns-clause-only
returns-clause-only c = λ ss h. only_spots h

pub returns-clause-placed : goal.returns-clause-placed
returns-clause-placed c = placed c.args.bytes.now (spots_of c.args.bytes.now) (spots_stand 1 0 c.args.bytes.now)
