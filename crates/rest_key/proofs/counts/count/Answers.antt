use Rattle.std.proofs.Common.{sym, subst}
use Rattle.std.specs.Prelude.{All}
use Rattle.rest_key.specs.Counts.{IsShort}
use Rattle.rest_key.proofs.WordCounts.{cons_short}
use Rattle.rest_key.proofs.counts.count.Goals as goal

pub cons_count-requires-clause-short : goal.cons_count-requires-clause-short
cons_count-requires-clause-short c = subst (All IsShort) (sym c.as_slice-3.ensures) (cons_short _ _ c.rest.invariant.cons)
