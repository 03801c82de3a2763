use Rattle.std.proofs.Common.{pos, rules, arith, sym, subst, ◌∙◌, FitsSigned}
use Rattle.std.specs.Prelude.{ℤ, ◌+ℤ◌, Contains}
use Rattle.std.specs.Int.{w64}
use Rattle.std.proofs.lemmas.Int.{to_z-of_z}
use Rattle.std.proofs.lemmas.Bool.{false≢true}
use Rattle.dom_store.specs.Steps.{NarrowsTerm}
use Rattle.table_prop.specs.Among.{IsAmong, ValueIsAmong}
use Rattle.table_prop.proofs.Choosing.{had_among}
use Rattle.table_prop.proofs.among.drop_unlisted.Goals as goal

pub returns-then-marks-step : goal.returns-then-marks-step
returns-then-marks-step c =
    had_among c.args.term c.args.values.now (c.args.low.now +ℤ pos c.args.step) c.args.store.now c.requires.well_formed (c.requires.marks.listed c.args.step (omega (arith, c.requires.step)) _ c.if-marks-step.true)

pub drop_unmarked-requires-clause-unlisted : goal.drop_unmarked-requires-clause-unlisted
drop_unmarked-requires-clause-unlisted c =
    let f : FitsSigned w64 c.above.result = search rules in
    simp to_z-of_z (λ has. false≢true (sym c.if-marks-step.false ∙ c.requires.marks.marked c.args.step (omega (arith, c.requires.step)) _ (subst (Contains c.args.values.now) c.above.ensures has)))

pub returns : goal.returns
returns c =
    let f : FitsSigned w64 c.above.result = search rules in
    subst (λ (z : ℤ). NarrowsTerm (IsAmong c.args.values.now) (ValueIsAmong c.args.term c.args.values.now z) c.args.term c.args.store.now c.drop_unmarked.new.store c.drop_unmarked.result) c.above.ensures (simp to_z-of_z at c.drop_unmarked.ensures)
