use Rattle.std.proofs.Common.{◌≡◌, ◌-◌}
use Rattle.fzn_reader.specs.Annotations.{passing}
use Rattle.fzn_reader.specs.Reading.{token_at, ends_item}
use Rattle.fzn_reader.specs.Refusals.{repeat, most}
use Rattle.fzn_reader.proofs.file.tokens.Given as goal

abbrev pub invariant-loop-turn : goal.invariant-loop-turn
invariant-loop-turn l = repeat ends_item (passing token_at) (67108865 - l._turn) tt l.reader ≡ repeat ends_item (passing token_at) most tt l.fn.reader
