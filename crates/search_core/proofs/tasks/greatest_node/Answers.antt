use Rattle.std.proofs.Common.{arith}
use Rattle.search_core.specs.declared.stand.Stand.TheVariants as stand
use Rattle.search_core.specs.declared.tasks.Entry.{Entry}
use Rattle.search_core.proofs.Keeping.{greatest_more, greatest_all}
use Rattle.search_core.proofs.tasks.greatest_node.Goals as goal
use Rattle.search_core.proofs.tasks.greatest_node.Goals.{then-entry-greatest, else-entry-greatest}

abbrev spare : Entry
spare = record { node = 0; stand = stand.Open }

pub loop-entry-preserved : goal.loop-entry-preserved
loop-entry-preserved c = elim c.if-entry-greatest.branch [
  | then-entry-greatest w ↦ greatest_more _ _ _ _ spare c.loop-entry.invariant c.loop-entry-test.true (omega arith) (omega arith)
  | else-entry-greatest w ↦ greatest_more _ _ _ _ spare c.loop-entry.invariant c.loop-entry-test.true (omega arith) (omega arith)
]

pub returns : goal.returns
returns c = greatest_all _ _ _ c.loop-entry.invariant c.loop-entry-test.false
