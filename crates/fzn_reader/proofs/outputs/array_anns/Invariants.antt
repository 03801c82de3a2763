use Rattle.std.proofs.Common.{◌≡◌, ◌-◌, None}
use Rattle.std.specs.Prelude.{IfSome}
use Rattle.fzn_reader.specs.Annotations.{no_annotation, annotation_at}
use Rattle.fzn_reader.specs.Outputs.{array_ann}
use Rattle.fzn_reader.specs.Refusals.{repeat, most}
use Rattle.fzn_reader.specs.Invariants.{AreRanges}
use Rattle.fzn_reader.proofs.outputs.array_anns.Given as goal

abbrev pub invariant-loop-turn : goal.invariant-loop-turn
invariant-loop-turn l = record {
  told : repeat no_annotation (annotation_at (array_ann l.count)) (67108865 - l._turn) l.made l.reader ≡ repeat no_annotation (annotation_at (array_ann l.count)) most None l.fn.reader;
  kept : IfSome l.made (AreRanges l.count);
}
