use Rattle.std.proofs.Common.{◌≡◌, ◌-◌}
use Rattle.fzn_reader.specs.Annotations.{ann_at, passing, no_annotation, annotation_at}
use Rattle.fzn_reader.specs.Refusals.{repeat, most}
use Rattle.fzn_reader.proofs.annotations.annotations.Given as goal

abbrev pub invariant-loop-turn : goal.invariant-loop-turn
invariant-loop-turn l = repeat no_annotation (annotation_at (passing ann_at)) (67108865 - l._turn) tt l.reader ≡ repeat no_annotation (annotation_at (passing ann_at)) most tt l.fn.reader
