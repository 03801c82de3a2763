use Rattle.table_prop.specs.Among.{IsLastTo}
use Rattle.table_prop.proofs.among.last_place.Given as goal

abbrev pub invariant-loop-at : goal.invariant-loop-at
invariant-loop-at l = IsLastTo l.values l.at l.place
