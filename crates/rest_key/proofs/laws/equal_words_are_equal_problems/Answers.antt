use Rattle.rest_key.proofs.EqualWords.{equal_words}
use Rattle.rest_key.proofs.laws.equal_words_are_equal_problems.Goals as goal

pub returns : goal.returns
returns c = equal_words
