use Rattle.std.proofs.Common.{rules, List, refl, subst, FitsSigned, w64}
use Rattle.std.proofs.lemmas.Int.{to_z-of_z}
use Rattle.fzn_model.specs.Limits.{IsModel}
use Rattle.search_core.specs.declared.decision.Decision.{Decision}
use Rattle.explorer.specs.Walking.{IsBase}
use Rattle.std.specs.Prelude.{Err}
use Rattle.explorer.specs.Going.{aim, state}
use Rattle.explorer.proofs.Closing.{moved_logged, done_logged, ends_logged}
use Rattle.explorer.proofs.Leaving.{levels_same}
use Rattle.explorer.proofs.Exploring.{stops_if, start_can, done_runs, done_closes, done_levels, ends_runs, ends_stops, ends_levels}
use Rattle.explorer.proofs.subtree.search_below.Goals as goal

pub returns-then-follow-clause-stopped : goal.returns-then-follow-clause-stopped
returns-then-follow-clause-stopped c = λ c'. stops_if (aim c'.args.task.now) c'.args.bench.now (record { store = c'.follow.new.store; engine = c'.args.bench.now.engine; here = c'.args.bench.now.here; frames = c'.args.bench.now.frames; values = c'.args.bench.now.values }) (record { store = c'.follow.new.store; engine = c'.args.bench.now.engine; here = c'.args.bench.now.here; frames = c'.args.bench.now.frames; values = c'.args.bench.now.values }) (record { store = c'.follow.new.store; engine = c'.args.bench.now.engine; here = c'.args.bench.now.here; frames = c'.args.bench.now.frames; values = c'.args.bench.now.values }) c'.args.pass.now c'.close_empty.new.pass c'.args.local.now c'.close_empty.new.local c'.args.reader.now c'.args.reader.now c'.args.meter.now c'.args.meter.now c'.args.found.now c'.args.found.now c'.close_empty.result c'.close_empty.ensures.stopped

pub returns-then-follow-clause-levels : goal.returns-then-follow-clause-levels
returns-then-follow-clause-levels c = λ c' area lv. levels_same c'.args.bench.now (record { store = c'.follow.new.store; engine = c'.args.bench.now.engine; here = c'.args.bench.now.here; frames = c'.args.bench.now.frames; values = c'.args.bench.now.values }) area refl c'.follow.ensures.saved lv

pub search-requires-clause-can : goal.search-requires-clause-can
search-requires-clause-can c = λ c'. start_can c'.args.task.now c'.args.bench.now (record { store = c'.follow.new.store; engine = c'.args.bench.now.engine; here = c'.args.bench.now.here; frames = c'.args.bench.now.frames; values = c'.args.bench.now.values }) c'.args.pass.now c'.args.local.now c'.args.reader.now c'.args.meter.now c'.args.found.now c'.requires.start refl refl refl c'.follow.ensures.saved (subst (λ (q : List Decision). IsBase c'.args.task.now.model.now q c'.follow.new.store.box) c'.decisions.ensures (c'.follow.ensures.base c'.if-follow.false)) (subst IsModel c'.model.view_is c'.model.invariant) c'.out.ensures.kept c'.requires.board c'.requires.top c'.requires.cache c'.requires.held c'.requires.expands c'.requires.found c'.requires.meter

pub returns-in-Ok-clause-ran : goal.returns-in-Ok-clause-ran
returns-in-Ok-clause-ran c = λ c'. done_runs c'.args.task.now c'.args.bench.now (record { store = c'.follow.new.store; engine = c'.args.bench.now.engine; here = c'.args.bench.now.here; frames = c'.args.bench.now.frames; values = c'.args.bench.now.values }) c'.args.pass.now c'.args.local.now c'.args.reader.now c'.args.meter.now c'.args.found.now c'.requires.start refl refl refl c'.follow.ensures.saved (subst (λ (q : List Decision). IsBase c'.args.task.now.model.now q c'.follow.new.store.box) c'.decisions.ensures (c'.follow.ensures.base c'.if-follow.false)) (subst IsModel c'.model.view_is c'.model.invariant) c'.out.ensures.kept c'.requires.board c'.requires.top c'.requires.cache c'.requires.held c'.requires.expands c'.requires.found c'.requires.meter c'.search.new.bench c'.search.new.pass c'.search.new.local c'.search.new.reader c'.search.new.meter c'.search.new.found c'.in-Ok.closed c'.in-Ok.ensures.ok

pub returns-in-Ok-clause-closed : goal.returns-in-Ok-clause-closed
returns-in-Ok-clause-closed c = λ c'. let fits : FitsSigned w64 c'.in-Ok.closed.bound = search rules in done_closes c'.args.task.now c'.args.bench.now (record { store = c'.follow.new.store; engine = c'.args.bench.now.engine; here = c'.args.bench.now.here; frames = c'.args.bench.now.frames; values = c'.args.bench.now.values }) c'.args.pass.now c'.args.local.now c'.args.reader.now c'.args.meter.now c'.args.found.now c'.requires.start refl refl refl c'.follow.ensures.saved (subst (λ (q : List Decision). IsBase c'.args.task.now.model.now q c'.follow.new.store.box) c'.decisions.ensures (c'.follow.ensures.base c'.if-follow.false)) (subst IsModel c'.model.view_is c'.model.invariant) c'.out.ensures.kept c'.requires.board c'.requires.top c'.requires.cache c'.requires.held c'.requires.expands c'.requires.found c'.requires.meter c'.search.new.bench c'.search.new.pass c'.search.new.local c'.search.new.reader c'.search.new.meter c'.search.new.found c'.in-Ok.closed _ (to_z-of_z w64 c'.in-Ok.closed.bound fits) c'.in-Ok.ensures.ok

pub returns-in-Ok-clause-levels : goal.returns-in-Ok-clause-levels
returns-in-Ok-clause-levels c = λ c' area lv. done_levels c'.args.task.now c'.args.bench.now (record { store = c'.follow.new.store; engine = c'.args.bench.now.engine; here = c'.args.bench.now.here; frames = c'.args.bench.now.frames; values = c'.args.bench.now.values }) c'.args.pass.now c'.args.local.now c'.args.reader.now c'.args.meter.now c'.args.found.now c'.requires.start refl refl refl c'.follow.ensures.saved (subst (λ (q : List Decision). IsBase c'.args.task.now.model.now q c'.follow.new.store.box) c'.decisions.ensures (c'.follow.ensures.base c'.if-follow.false)) (subst IsModel c'.model.view_is c'.model.invariant) c'.out.ensures.kept c'.requires.board c'.requires.top c'.requires.cache c'.requires.held c'.requires.expands c'.requires.found c'.requires.meter c'.search.new.bench c'.search.new.pass c'.search.new.local c'.search.new.reader c'.search.new.meter c'.search.new.found c'.in-Ok.closed area c'.in-Ok.ensures.ok lv

pub returns-in-Err-clause-ran : goal.returns-in-Err-clause-ran
returns-in-Err-clause-ran c = λ c'. ends_runs c'.args.task.now c'.args.bench.now (record { store = c'.follow.new.store; engine = c'.args.bench.now.engine; here = c'.args.bench.now.here; frames = c'.args.bench.now.frames; values = c'.args.bench.now.values }) c'.args.pass.now c'.args.local.now c'.args.reader.now c'.args.meter.now c'.args.found.now c'.requires.start refl refl refl c'.follow.ensures.saved (subst (λ (q : List Decision). IsBase c'.args.task.now.model.now q c'.follow.new.store.box) c'.decisions.ensures (c'.follow.ensures.base c'.if-follow.false)) (subst IsModel c'.model.view_is c'.model.invariant) c'.out.ensures.kept c'.requires.board c'.requires.top c'.requires.cache c'.requires.held c'.requires.expands c'.requires.found c'.requires.meter c'.search.new.bench c'.search.new.pass c'.search.new.local c'.search.new.reader c'.search.new.meter c'.search.new.found c'.in-Err.stop c'.in-Err.ensures.err

pub returns-in-Err-clause-stopped : goal.returns-in-Err-clause-stopped
returns-in-Err-clause-stopped c = λ c'. ends_stops c'.args.task.now c'.args.bench.now (record { store = c'.follow.new.store; engine = c'.args.bench.now.engine; here = c'.args.bench.now.here; frames = c'.args.bench.now.frames; values = c'.args.bench.now.values }) c'.args.pass.now c'.args.local.now c'.args.reader.now c'.args.meter.now c'.args.found.now c'.requires.start refl refl refl c'.follow.ensures.saved (subst (λ (q : List Decision). IsBase c'.args.task.now.model.now q c'.follow.new.store.box) c'.decisions.ensures (c'.follow.ensures.base c'.if-follow.false)) (subst IsModel c'.model.view_is c'.model.invariant) c'.out.ensures.kept c'.requires.board c'.requires.top c'.requires.cache c'.requires.held c'.requires.expands c'.requires.found c'.requires.meter c'.search.new.bench c'.search.new.pass c'.search.new.local c'.search.new.reader c'.search.new.meter c'.search.new.found c'.in-Err.stop c'.in-Err.ensures.err

pub returns-in-Err-clause-levels : goal.returns-in-Err-clause-levels
returns-in-Err-clause-levels c = λ c' area lv. ends_levels c'.args.task.now c'.args.bench.now (record { store = c'.follow.new.store; engine = c'.args.bench.now.engine; here = c'.args.bench.now.here; frames = c'.args.bench.now.frames; values = c'.args.bench.now.values }) c'.args.pass.now c'.args.local.now c'.args.reader.now c'.args.meter.now c'.args.found.now c'.requires.start refl refl refl c'.follow.ensures.saved (subst (λ (q : List Decision). IsBase c'.args.task.now.model.now q c'.follow.new.store.box) c'.decisions.ensures (c'.follow.ensures.base c'.if-follow.false)) (subst IsModel c'.model.view_is c'.model.invariant) c'.out.ensures.kept c'.requires.board c'.requires.top c'.requires.cache c'.requires.held c'.requires.expands c'.requires.found c'.requires.meter c'.search.new.bench c'.search.new.pass c'.search.new.local c'.search.new.reader c'.search.new.meter c'.search.new.found c'.in-Err.stop area c'.in-Err.ensures.err lv

pub returns-then-follow-clause-logged : goal.returns-then-follow-clause-logged
returns-then-follow-clause-logged c = λ c'. moved_logged (aim c'.args.task.now) c'.close_empty.result (record { store = c'.follow.new.store; engine = c'.args.bench.now.engine; here = c'.args.bench.now.here; frames = c'.args.bench.now.frames; values = c'.args.bench.now.values }) (record { store = c'.follow.new.store; engine = c'.args.bench.now.engine; here = c'.args.bench.now.here; frames = c'.args.bench.now.frames; values = c'.args.bench.now.values }) c'.args.bench.now (record { store = c'.follow.new.store; engine = c'.args.bench.now.engine; here = c'.args.bench.now.here; frames = c'.args.bench.now.frames; values = c'.args.bench.now.values }) c'.args.pass.now c'.close_empty.new.pass c'.args.local.now c'.close_empty.new.local c'.args.reader.now c'.args.reader.now c'.args.meter.now c'.args.meter.now c'.args.found.now c'.args.found.now (c.J.Journal.noted c'.args.journal.now) (c.J.Journal.noted c'.close_empty.new.journal) c'.close_empty.ensures.logged

pub returns-in-Ok-clause-logged : goal.returns-in-Ok-clause-logged
returns-in-Ok-clause-logged c = λ c'. let fits : FitsSigned w64 c'.in-Ok.closed.bound = search rules in moved_logged (aim c'.args.task.now) _ (record { store = c'.follow.new.store; engine = c'.args.bench.now.engine; here = c'.args.bench.now.here; frames = c'.args.bench.now.frames; values = c'.args.bench.now.values }) c'.search.new.bench c'.args.bench.now c'.search.new.bench c'.args.pass.now c'.search.new.pass c'.args.local.now c'.search.new.local c'.args.reader.now c'.search.new.reader c'.args.meter.now c'.search.new.meter c'.args.found.now c'.search.new.found (c.J.Journal.noted c'.args.journal.now) (c.J.Journal.noted c'.search.new.journal) (done_logged (aim c'.args.task.now) (state (record { store = c'.follow.new.store; engine = c'.args.bench.now.engine; here = c'.args.bench.now.here; frames = c'.args.bench.now.frames; values = c'.args.bench.now.values }) c'.args.pass.now c'.args.local.now c'.args.reader.now c'.args.meter.now c'.args.found.now) (state c'.search.new.bench c'.search.new.pass c'.search.new.local c'.search.new.reader c'.search.new.meter c'.search.new.found) (c.J.Journal.noted c'.args.journal.now) (c.J.Journal.noted c'.search.new.journal) c'.requires.start.no_frame c'.requires.cache c'.in-Ok.closed _ (to_z-of_z w64 c'.in-Ok.closed.bound fits) c'.in-Ok.ensures.records)

pub returns-in-Err-clause-logged : goal.returns-in-Err-clause-logged
returns-in-Err-clause-logged c = λ c'. moved_logged (aim c'.args.task.now) (Err c'.in-Err.stop) (record { store = c'.follow.new.store; engine = c'.args.bench.now.engine; here = c'.args.bench.now.here; frames = c'.args.bench.now.frames; values = c'.args.bench.now.values }) c'.search.new.bench c'.args.bench.now c'.search.new.bench c'.args.pass.now c'.search.new.pass c'.args.local.now c'.search.new.local c'.args.reader.now c'.search.new.reader c'.args.meter.now c'.search.new.meter c'.args.found.now c'.search.new.found (c.J.Journal.noted c'.args.journal.now) (c.J.Journal.noted c'.search.new.journal) (ends_logged (aim c'.args.task.now) (state (record { store = c'.follow.new.store; engine = c'.args.bench.now.engine; here = c'.args.bench.now.here; frames = c'.args.bench.now.frames; values = c'.args.bench.now.values }) c'.args.pass.now c'.args.local.now c'.args.reader.now c'.args.meter.now c'.args.found.now) (state c'.search.new.bench c'.search.new.pass c'.search.new.local c'.search.new.reader c'.search.new.meter c'.search.new.found) (c.J.Journal.noted c'.args.journal.now) (c.J.Journal.noted c'.search.new.journal) c'.requires.start.no_frame c'.requires.cache c'.in-Err.stop c'.in-Err.ensures.stops)
