use Rattle.std.proofs.Common.{◌≡◌, drop}
use Rattle.std.specs.Prelude.{fold}
use Rattle.rest_key.specs.Words.{labelled}
use Rattle.rest_key.specs.WordsLeft.{detail_parts}
use Rattle.rest_key.specs.Digest.{mixed}
use Rattle.rest_key.proofs.digest.mixed_constraints.Given as goal

abbrev pub invariant-loop-at : goal.invariant-loop-at
invariant-loop-at l = fold mixed l.digest (labelled (detail_parts l.detail) (drop l.at l.cons) (drop l.at l.labels)) ≡ fold mixed l.fn.digest (labelled (detail_parts l.detail) l.cons l.labels)
