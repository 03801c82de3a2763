use Rattle.std.proofs.Common.{◌≡◌, length}
use Rattle.prop_engine.specs.Readers.{AreRead}
use Rattle.prop_engine.proofs.readers.note_cons.Given as goal

abbrev pub invariant-loop-at : goal.invariant-loop-at
invariant-loop-at l = record {
  changed : length l.changed ≡ length l.fn.changed;
  fixed : length l.fixed ≡ length l.fn.fixed;
  read : AreRead l.cons l.at (record { changed = l.changed; fixed = l.fixed });
}
