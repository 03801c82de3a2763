use Rattle.std.proofs.Common.{◌≡◌, ◌-◌}
use Rattle.fzn_reader.specs.Reading.{is_end, one_item}
use Rattle.fzn_reader.specs.Drafts.{nothing}
use Rattle.fzn_reader.specs.Refusals.{repeat, most}
use Rattle.fzn_reader.proofs.file.items.Given as goal

abbrev pub invariant-loop-turn : goal.invariant-loop-turn
invariant-loop-turn l = repeat is_end one_item (67108865 - l._turn) l.draft l.reader ≡ repeat is_end one_item most nothing l.fn.reader
