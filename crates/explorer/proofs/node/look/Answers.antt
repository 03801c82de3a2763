use Rattle.std.proofs.Common.{◌≡◌, List, false, ℤ, FitsSigned, w64, rules, sym, subst, ◌∙◌}
use Rattle.std.specs.Prelude.{Result, Ok, Err, OnOk}
use Rattle.std.specs.Result.{is_err}
use Rattle.std.proofs.lemmas.Int.{to_z-of_z}
use Rattle.search_core.specs.Paths.{Settled}
use Rattle.brancher.specs.Branching.{AllFixed}
use Rattle.explorer.specs.Nodes.{IsNode}
use Rattle.explorer.specs.Looking.{AreLeast, IsReached, IsOpenNode}
use Rattle.explorer.proofs.Leaves.{only_values, values_meet, values_count, found_none, noted_none, cut_sides, closed_looked, open_looked}
use Rattle.explorer.proofs.node.look.Goals as goal

pub returns-in-Ok-true-clause-finds : goal.returns-in-Ok-true-clause-finds
returns-in-Ok-true-clause-finds g c = found_none c.args.task.now.model.now c.args.pass.now c.args.meter.now c.args.found.now

pub returns-in-Ok-true-clause-node : goal.returns-in-Ok-true-clause-node
returns-in-Ok-true-clause-node g c =
    let fits : FitsSigned w64 c.args.seen.now = search rules in
    closed_looked c.args.task.now.model.now _ c.args.pass.now.seen _ (subst (Settled c.args.task.now.model.now c.args.bench.now.here) c.requires.seen (c.in-Ok-true.ensures.settled c.in-Ok-true.field-0-test)) (to_z-of_z w64 c.args.seen.now fits ∙ c.requires.seen)

pub returns-in-Err-clause-finds : goal.returns-in-Err-clause-finds
returns-in-Err-clause-finds g c = found_none c.args.task.now.model.now c.args.pass.now c.args.meter.now c.args.found.now

pub returns-in-Some-clause-finds : goal.returns-in-Some-clause-finds
returns-in-Some-clause-finds g c = found_none c.args.task.now.model.now c.args.pass.now c.args.meter.now c.args.found.now

pub returns-in-Some-clause-node : goal.returns-in-Some-clause-node
returns-in-Some-clause-node g c =
    let fits : FitsSigned w64 c.in-Some.cut.at = search rules in
    open_looked c.args.task.now.model.now _ c.args.pass.now.seen _
    (subst (IsNode c.args.task.now.model.now c.args.bench.now.here c.is_empty.new.store.box) c.requires.seen c.is_empty.ensures.node)
    (cut_sides c.is_empty.new.store.box c.in-Some.cut _ c.in-Some.ensures.sides (to_z-of_z w64 c.in-Some.cut.at fits))

pub returns-then-is_err-clause-finds : goal.returns-then-is_err-clause-finds
returns-then-is_err-clause-finds g c = found_none c.args.task.now.model.now c.args.pass.now c.args.meter.now c.args.found.now

least_read : {E : Type 0} (box : List (List ℤ)) (values taken : List ℤ) (result : Result Unit E) → OnOk result (AreLeast box values) → is_err result ≡ false → taken ≡ values → AreLeast box taken
least_read box values taken (Ok x) least some same = subst (AreLeast box) (sym same) least
least_read box values taken (Err fault) least some same = absurd (cc)

pub close_fixed-requires-clause-only : goal.close_fixed-requires-clause-only
close_fixed-requires-clause-only g c =
    let least : AreLeast c.is_empty.new.store.box c.as_slice.result.now = least_read c.is_empty.new.store.box c.read_values.new.values.items c.as_slice.result.now c.read_values.result c.read_values.ensures (sym c.is_err.ensures.value ∙ c.if-is_err.false) c.as_slice.ensures.value in
    let fixed : AllFixed c.is_empty.new.store.box = c.choose.ensures.none.0 (search rules) in
    only_values c.args.task.now.model.now c.args.bench.now.here c.is_empty.new.store.box c.as_slice.result.now c.args.seen.now c.is_empty.ensures.node fixed least

pub close_fixed-requires-clause-count : goal.close_fixed-requires-clause-count
close_fixed-requires-clause-count g c =
    let least : AreLeast c.is_empty.new.store.box c.as_slice.result.now = least_read c.is_empty.new.store.box c.read_values.new.values.items c.as_slice.result.now c.read_values.result c.read_values.ensures (sym c.is_err.ensures.value ∙ c.if-is_err.false) c.as_slice.ensures.value in
    values_count c.args.task.now.model.now c.is_empty.new.store.box c.as_slice.result.now c.is_empty.ensures.node.within least

pub returns-in-Ok-clause-node : goal.returns-in-Ok-clause-node
returns-in-Ok-clause-node g c =
    let fits : FitsSigned w64 c.in-Ok.bound = search rules in
    closed_looked c.args.task.now.model.now _ c.close_fixed.new.pass.seen _ c.in-Ok.ensures.settled (to_z-of_z w64 c.in-Ok.bound fits ∙ c.in-Ok.ensures.bound)

pub returns-in-Ok-clause-none : goal.returns-in-Ok-clause-none
unfolding IsOpenNode
returns-in-Ok-clause-none g c = λ h. absurd h

pub returns-in-Ok-true-clause-notes : goal.returns-in-Ok-true-clause-notes
returns-in-Ok-true-clause-notes g c = noted_none c.args.task.now.model.now c.args.bench.now.here c.args.pass.now c.args.meter.now (g.J.Journal.noted c.args.journal.now)

pub returns-in-Err-clause-notes : goal.returns-in-Err-clause-notes
returns-in-Err-clause-notes g c = noted_none c.args.task.now.model.now c.args.bench.now.here c.args.pass.now c.args.meter.now (g.J.Journal.noted c.args.journal.now)

pub returns-in-Some-clause-notes : goal.returns-in-Some-clause-notes
returns-in-Some-clause-notes g c = noted_none c.args.task.now.model.now c.args.bench.now.here c.args.pass.now c.args.meter.now (g.J.Journal.noted c.args.journal.now)

pub returns-then-is_err-clause-notes : goal.returns-then-is_err-clause-notes
returns-then-is_err-clause-notes g c = noted_none c.args.task.now.model.now c.args.bench.now.here c.args.pass.now c.args.meter.now (g.J.Journal.noted c.args.journal.now)

pub close_fixed-requires-clause-meets : goal.close_fixed-requires-clause-meets
close_fixed-requires-clause-meets g c =
    let least : AreLeast c.is_empty.new.store.box c.as_slice.result.now = least_read c.is_empty.new.store.box c.read_values.new.values.items c.as_slice.result.now c.read_values.result c.read_values.ensures (sym c.is_err.ensures.value ∙ c.if-is_err.false) c.as_slice.ensures.value in
    values_meet c.args.task.now.model.now c.args.bench.now.here c.is_empty.new.store.box c.as_slice.result.now c.args.seen.now c.is_empty.ensures.node least

pub returns-in-Ok-true-clause-reached : goal.returns-in-Ok-true-clause-reached
unfolding IsReached
returns-in-Ok-true-clause-reached g c = tt

pub returns-in-Some-clause-reached : goal.returns-in-Some-clause-reached
unfolding IsReached
returns-in-Some-clause-reached g c = c.in-Ok-false.ensures.reached c.in-Ok-false.field-0-test

pub returns-in-Ok-clause-still : goal.returns-in-Ok-clause-still
unfolding IsOpenNode
returns-in-Ok-clause-still g c = λ h. absurd h

pub returns-in-Ok-clause-reached : goal.returns-in-Ok-clause-reached
unfolding IsReached
returns-in-Ok-clause-reached g c = tt
