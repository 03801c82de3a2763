use Rattle.std.proofs.Common.{◌<◌, length, subst, rules, FitsSigned}
use Rattle.std.specs.Int.{w64}
use Rattle.std.proofs.lemmas.Int.{to_z-of_z}
use Rattle.fzn_model.specs.Limits.{TermIn}
use Rattle.dom_store.proofs.Cutting.{variable_cuts, variable_reached, constant_cuts, constant_reached}
use Rattle.dom_store.specs.Kept.{kept_by}
use Rattle.dom_store.proofs.terms.narrow_either.Goals as goal

pub returns-in-Const-clause-cuts : goal.returns-in-Const-clause-cuts
returns-in-Const-clause-cuts c =
    let fits : FitsSigned w64 c.in-Const.value = search rules in
    rw c.in-Const.is (constant_cuts c.keeps.result (kept_by c.args.cut) c.in-Const.value c.args.store.now c.narrow_constant.result (simp to_z-of_z at c.keeps.ensures) c.narrow_constant.ensures.answer)

pub returns-in-Const-clause-reached : goal.returns-in-Const-clause-reached
returns-in-Const-clause-reached c =
    let fits : FitsSigned w64 c.in-Const.value = search rules in
    rw c.in-Const.is (λ some. constant_reached c.args.cut c.keeps.result c.in-Const.value c.args.store.now.box c.narrow_constant.result (simp to_z-of_z at c.keeps.ensures) c.narrow_constant.ensures.answer some)

pub returns-in-Var-clause-cuts : goal.returns-in-Var-clause-cuts
returns-in-Var-clause-cuts c =
    let inside : c.in-Var.var < length c.args.store.now.box = subst (TermIn (length c.args.store.now.box)) c.in-Var.is c.requires in
    rw c.in-Var.is (variable_cuts c.args.cut c.in-Var.var c.args.store.now c.narrow.new.self c.narrow.result c.narrow.ensures.does c.narrow.ensures.others inside c.narrow.ensures.falls c.narrow.ensures.rises)

pub returns-in-Var-clause-reached : goal.returns-in-Var-clause-reached
returns-in-Var-clause-reached c =
    let inside : c.in-Var.var < length c.args.store.now.box = subst (TermIn (length c.args.store.now.box)) c.in-Var.is c.requires in
    rw c.in-Var.is (variable_reached c.args.cut c.in-Var.var c.args.store.now c.narrow.new.self c.narrow.result c.narrow.ensures.does c.narrow.ensures.others inside c.narrow.ensures.well_formed)
