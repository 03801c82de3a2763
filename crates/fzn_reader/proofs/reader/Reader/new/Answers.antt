use Rattle.std.proofs.Common.{◌∙◌}
use Rattle.fzn_lexer.specs.Spots.{spot_of}
use Rattle.fzn_reader.proofs.InHand.{taken_in_hand}
use Rattle.fzn_reader.proofs.reader.Reader.new.Goals as goal

pub returns : goal.returns
returns c = taken_in_hand (spot_of c.spot-here.result) c.new-lexer.result c.spot-here.new.self c.spot-here.ensures.whole c.spot-here.ensures.value c.spot-here.ensures.moved ∙ c.new-lexer.ensures.spots
