use Rattle.table_prop.specs.Among.{IsFirstTo}
use Rattle.table_prop.proofs.among.first_place.Given as goal

abbrev pub invariant-loop-at : goal.invariant-loop-at
invariant-loop-at l = IsFirstTo l.values l.at l.place
