use Rattle.std.proofs.Common.{sym, subst, ◌∙◌, arith}
use Rattle.dom_store.specs.Stores.{Stored}
use Rattle.prop_engine.specs.Queues.{AreStrong}
use Rattle.prop_engine.proofs.Waking.{known_less, done_less, known_strong, marks_less, fewer_touched}
use Rattle.prop_engine.proofs.queue.drain.Goals as goal

pub returns-in_default-clause-strong : goal.returns-in_default-clause-strong
returns-in_default-clause-strong c =
    subst (λ (s : Stored). AreStrong c.args.propagators.now c.loop-var.queue s.box) (sym c.in_default.ensures.same)
    (known_strong c.args.before c.args.propagators.now c.loop-var.queue c.loop-var.store c.in_default.ensures.none c.loop-var.invariant.known)

pub wake_hearing-requires : goal.wake_hearing-requires
wake_hearing-requires c = λ e k j reads. let h = c.requires.read.below e k j reads in omega (arith, h, c.loop-var.invariant.room)

pub loop-var-smaller : goal.loop-var-smaller
loop-var-smaller c = fewer_touched c.in-Some.var c.loop-var.store c.take_touched.new.self c.in-Some.ensures.some

pub loop-var-preserved : goal.loop-var-preserved
loop-var-preserved c = record {
  room = c.wake_hearing.ensures.length ∙ c.loop-var.invariant.room;
  same = marks_less c.in-Some.var c.args.store.now c.loop-var.store c.take_touched.new.self c.loop-var.invariant.same c.in-Some.ensures.some;
  known = known_less c.args.before c.args.propagators.now c.args.readers.now c.requires.read c.args.but c.in-Some.var c.is_minor-minor.result c.loop-var.queue c.wake_hearing.new.queue c.loop-var.store c.take_touched.new.self c.in-Some.ensures.some c.is_minor-minor.ensures c.wake_hearing.ensures.wakes c.loop-var.invariant.done c.loop-var.invariant.known;
  done = done_less c.args.propagators.now c.args.but c.in-Some.var c.args.readers.now c.is_minor-minor.result c.loop-var.queue c.wake_hearing.new.queue c.loop-var.store c.take_touched.new.self c.in-Some.ensures.some c.wake_hearing.ensures.wakes c.loop-var.invariant.done;
}
