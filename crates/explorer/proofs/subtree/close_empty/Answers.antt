use Rattle.std.proofs.Common.{refl, FitsSigned, w64, rules, sym, ◌∙◌}
use Rattle.std.proofs.lemmas.Int.{to_z-of_z}
use Rattle.explorer.specs.Going.{aim, state}
use Rattle.explorer.proofs.Closing.{quiet_logged, empty_logged}
use Rattle.explorer.proofs.Exploring.{empty_stops, empty_halts, none_stops}
use Rattle.explorer.proofs.subtree.close_empty.Goals as goal

pub returns-in-Err-tell_leaf-clause-stopped : goal.returns-in-Err-tell_leaf-clause-stopped
returns-in-Err-tell_leaf-clause-stopped c = λ c'. empty_stops c'.args.task.now c'.args.bench.now c'.args.pass.now c'.listen.new.pass c'.args.local.now c'.listen.new.local c'.args.reader.now c'.args.meter.now c'.args.found.now c'.listen.ensures.pass c'.listen.ensures.local c'.tell_leaf.new.local c'.in-Err-tell_leaf.stop c'.in-Err-tell_leaf.ensures.memory c'.in-Err-tell_leaf.ensures.err

pub returns-in-Err-listen-clause-stopped : goal.returns-in-Err-listen-clause-stopped
returns-in-Err-listen-clause-stopped c = λ c'. empty_halts c'.args.task.now c'.args.bench.now c'.args.pass.now c'.listen.new.pass c'.args.local.now c'.listen.new.local c'.args.reader.now c'.args.meter.now c'.args.found.now c'.listen.ensures.pass c'.listen.ensures.local c'.in-Err-listen.stop c'.in-Err-listen.ensures.cause

pub returns-in-Err-tell_leaf-clause-logged : goal.returns-in-Err-tell_leaf-clause-logged
returns-in-Err-tell_leaf-clause-logged c = λ c'. quiet_logged (aim c'.args.task.now) (state c'.args.bench.now c'.args.pass.now c'.args.local.now c'.args.reader.now c'.args.meter.now c'.args.found.now) (state c'.args.bench.now c'.listen.new.pass c'.tell_leaf.new.local c'.args.reader.now c'.args.meter.now c'.args.found.now) (c.J.Journal.noted c'.args.journal.now) c'.in-Err-tell_leaf.stop c'.listen.ensures.pass.credits c'.listen.ensures.pass.least refl (λ standing st. st)

pub returns-in-Err-listen-clause-logged : goal.returns-in-Err-listen-clause-logged
returns-in-Err-listen-clause-logged c = λ c'. quiet_logged (aim c'.args.task.now) (state c'.args.bench.now c'.args.pass.now c'.args.local.now c'.args.reader.now c'.args.meter.now c'.args.found.now) (state c'.args.bench.now c'.listen.new.pass c'.listen.new.local c'.args.reader.now c'.args.meter.now c'.args.found.now) (c.J.Journal.noted c'.args.journal.now) c'.in-Err-listen.stop c'.listen.ensures.pass.credits c'.listen.ensures.pass.least refl (λ standing st. st)

pub returns-in-Err-clause-stopped : goal.returns-in-Err-clause-stopped
returns-in-Err-clause-stopped c = λ c'. rw c'.in-Err.ensures.memory (none_stops c'.args.task.now c'.args.bench.now c'.args.pass.now c'.args.local.now c'.args.reader.now c'.args.meter.now c'.args.found.now)

pub returns-in-Err-clause-logged : goal.returns-in-Err-clause-logged
returns-in-Err-clause-logged c = λ c'. quiet_logged (aim c'.args.task.now) (state c'.args.bench.now c'.args.pass.now c'.args.local.now c'.args.reader.now c'.args.meter.now c'.args.found.now) (state c'.args.bench.now c'.args.pass.now c'.args.local.now c'.args.reader.now c'.args.meter.now c'.args.found.now) (c.J.Journal.noted c'.args.journal.now) c'.in-Err.stop refl refl refl (λ standing st. st)

pub returns-in-Ok-tell_leaf-clause-logged : goal.returns-in-Ok-tell_leaf-clause-logged
returns-in-Ok-tell_leaf-clause-logged c = λ c'. let fits : FitsSigned w64 c'.in-Ok-listen.seen = search rules in empty_logged c'.args.task.now c'.args.bench.now c'.args.pass.now c'.listen.new.pass c'.args.local.now c'.tell_leaf.new.local c'.args.reader.now c'.args.meter.now c'.args.found.now (c.J.Journal.noted c'.args.journal.now) (c.J.Journal.noted c'.note_leaf.new.journal) c'.in-Ok.depth _ _ c'.requires.none c'.listen.ensures.pass c'.listen.ensures.fresh (c'.in-Ok-listen.ensures.bound ∙ sym (to_z-of_z w64 c'.in-Ok-listen.seen fits)) refl c'.in-Ok.ensures.depth c'.note_leaf.ensures.notes
