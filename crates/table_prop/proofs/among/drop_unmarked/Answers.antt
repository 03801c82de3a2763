use Rattle.std.proofs.Common.{rules, sym, ◌∙◌, FitsSigned}
use Rattle.std.specs.Int.{w64}
use Rattle.std.proofs.lemmas.Int.{to_z-of_z}
use Rattle.std.proofs.lemmas.Bool.{false≢true}
use Rattle.table_prop.proofs.Choosing.{unhad_among, dropped_among}
use Rattle.table_prop.proofs.among.drop_unmarked.Goals as goal

pub returns-then-not-can_have : goal.returns-then-not-can_have
returns-then-not-can_have c =
    let f : FitsSigned w64 c.args.value.now = search rules in
    let had = simp to_z-of_z at c.can_have.ensures.value in
    unhad_among c.args.term c.args.values.now c.args.value.now c.args.store.now c.can_have.ensures.well_formed (λ has. false≢true (sym c.if-not-can_have.true ∙ had.1 has))

pub returns : goal.returns
returns c = dropped_among c.args.term c.args.values.now c.args.value.now c.args.store.now c.drop_value.new.store c.drop_value.result c.requires.unlisted c.drop_value.ensures.narrows
