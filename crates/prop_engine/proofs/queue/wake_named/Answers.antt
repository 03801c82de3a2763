use Rattle.std.proofs.Common.{◌∙◌, sym, subst}
use Rattle.prop_engine.specs.Queues.{WakesReaders}
use Rattle.prop_engine.proofs.Waking.{names_more}
use Rattle.prop_engine.proofs.queue.wake_named.Goals as goal

pub loop-entry-preserved : goal.loop-entry-preserved
loop-entry-preserved c = record {
  length = c.wake_readers.ensures.length ∙ c.loop-entry.invariant.length;
  wakes = names_more c.args.but c.args.readers.now c.args.entries.now c.loop-entry.entry-index c.args.queue.now c.loop-entry.queue c.wake_readers.new.queue c.entry-item.result c.loop-entry-test.true (sym c.entry-item.is)
      c.loop-entry.invariant.wakes (subst (λ v. WakesReaders c.args.but c.args.readers.now v c.loop-entry.queue c.wake_readers.new.queue) c.var.ensures c.wake_readers.ensures.wakes);
}
