use Rattle.std.proofs.Common.{◌≡◌, ◌-◌, false}
use Rattle.fzn_reader.specs.Annotations.{no_annotation, annotation_at}
use Rattle.fzn_reader.specs.Outputs.{variable_ann}
use Rattle.fzn_reader.specs.Refusals.{repeat, most}
use Rattle.fzn_reader.proofs.outputs.variable_anns.Given as goal

abbrev pub invariant-loop-turn : goal.invariant-loop-turn
invariant-loop-turn l = repeat no_annotation (annotation_at variable_ann) (67108865 - l._turn) l.output l.reader ≡ repeat no_annotation (annotation_at variable_ann) most false l.fn.reader
