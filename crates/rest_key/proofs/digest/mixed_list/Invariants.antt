use Rattle.std.proofs.Common.{◌≡◌, drop}
use Rattle.std.specs.Prelude.{fold}
use Rattle.std.specs.List.{flat_map}
use Rattle.rest_key.specs.Words.{list_words}
use Rattle.rest_key.specs.Digest.{mixed}
use Rattle.rest_key.proofs.digest.mixed_list.Given as goal

abbrev pub invariant-loop-member : goal.invariant-loop-member
invariant-loop-member g l = fold mixed l.digest (flat_map g.W.HasWords.words (drop l.member-index l.list)) ≡ fold mixed l.fn.digest (list_words g.W.HasWords.words l.list)
