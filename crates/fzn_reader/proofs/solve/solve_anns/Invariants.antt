use Rattle.std.proofs.Common.{◌≡◌, ◌-◌, None}
use Rattle.fzn_reader.specs.Annotations.{no_annotation, annotation_at}
use Rattle.fzn_reader.specs.Solving.{solve_ann}
use Rattle.fzn_reader.specs.Refusals.{repeat, most}
use Rattle.fzn_reader.proofs.solve.solve_anns.Given as goal

abbrev pub invariant-loop-turn : goal.invariant-loop-turn
invariant-loop-turn l = repeat no_annotation (annotation_at solve_ann) (67108865 - l._turn) l.found l.reader ≡ repeat no_annotation (annotation_at solve_ann) most None l.fn.reader
