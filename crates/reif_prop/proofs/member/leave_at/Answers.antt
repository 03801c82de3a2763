use Rattle.std.proofs.Common.{rules, sym, ◌∙◌, FitsSigned}
use Rattle.std.specs.Int.{w64}
use Rattle.std.proofs.lemmas.Int.{to_z-of_z}
use Rattle.std.proofs.lemmas.Bool.{false≢true}
use Rattle.reif_prop.proofs.Members.{bound_off, bound_left}
use Rattle.reif_prop.proofs.member.leave_at.Goals as goal

pub returns-then-is_within : goal.returns-then-is_within
returns-then-is_within c =
    let f : FitsSigned w64 c.bound-number.result = search rules in
    let g : FitsSigned w64 c.number_beside.result = search rules in
    let within = simp to_z-of_z at c.is_within.ensures in
    bound_left c.args.x c.args.run.now c.args.extreme c.bound-number.result c.number_beside.result c.args.store.now c.cut.new.store c.cut.result c.bound-number.ensures.well_formed c.requires.term c.bound-number.ensures.value (within.0 c.if-is_within.true) c.number_beside.ensures (simp to_z-of_z at c.cut.ensures.narrows)

pub returns : goal.returns
returns c =
    let f : FitsSigned w64 c.bound-number.result = search rules in
    let within = simp to_z-of_z at c.is_within.ensures in
    bound_off c.args.x c.args.run.now c.args.extreme c.bound-number.result c.args.store.now c.bound-number.ensures.well_formed c.bound-number.ensures.value (λ h. false≢true (sym c.if-is_within.false ∙ within.1 h))
