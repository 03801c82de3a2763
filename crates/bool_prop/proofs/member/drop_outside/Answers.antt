use Rattle.std.proofs.Common.{rules, sym, ◌∙◌, FitsSigned}
use Rattle.std.specs.Int.{w64}
use Rattle.std.proofs.lemmas.Int.{to_z-of_z}
use Rattle.std.proofs.lemmas.Bool.{false≢true}
use Rattle.dom_store.specs.Bases.{member_of}
use Rattle.bool_prop.proofs.Members.{value_unhad, value_inside, value_dropped}
use Rattle.bool_prop.proofs.member.drop_outside.Goals as goal

pub returns-then-not-can_have : goal.returns-then-not-can_have
returns-then-not-can_have c =
    let f : FitsSigned w64 c.args.value = search rules in
    let had = simp to_z-of_z at c.can_have.ensures.value in
    value_unhad (member_of c.args.x c.args.set.now) c.args.store.now c.args.value c.can_have.ensures.well_formed (λ has. false≢true (sym c.if-not-can_have.true ∙ had.1 has))

pub returns-then-contains : goal.returns-then-contains
returns-then-contains c =
    let f : FitsSigned w64 c.args.value = search rules in
    let inside = simp to_z-of_z at c.contains.ensures in
    value_inside (member_of c.args.x c.args.set.now) c.args.store.now c.args.value c.can_have.ensures.well_formed (inside.0 c.if-contains.true)

pub returns : goal.returns
returns c =
    let f : FitsSigned w64 c.args.value = search rules in
    let inside = simp to_z-of_z at c.contains.ensures in
    value_dropped (member_of c.args.x c.args.set.now) c.args.store.now c.drop_value.new.store c.args.value c.drop_value.result (λ has. false≢true (sym c.if-contains.false ∙ inside.1 has)) (simp to_z-of_z at c.drop_value.ensures.narrows)
