use Rattle.cumul_prop.specs.Limits.{EndsFirst}
use Rattle.cumul_prop.proofs.fits.first_end.Given as goal

abbrev pub invariant-loop-at : goal.invariant-loop-at
invariant-loop-at l = record { first : EndsFirst l.all l.moment l.at l.first }
