use Rattle.std.proofs.Common.{◌≡◌, pos, rules, FitsSigned, get_or, ◌*ℤ◌}
use Rattle.std.specs.Int.{w64}
use Rattle.std.proofs.lemmas.Int.{to_z-of_z}
use Rattle.fzn_model.specs.declared.term.Term.TheVariants.{Const}
use Rattle.lin_prop.proofs.Differing.{idle_excluded, dropped}
use Rattle.lin_prop.proofs.different.avoid_at.Goals as goal

pub returns-in_default : goal.returns-in_default
returns-in_default c = idle_excluded c.args.terms.now c.args.at (pos 0, Const (pos 0)) c.args.r.now _ c.args.store.now c.requires.well_formed c.requires.limits c.requires.open c.requires.left c.in_default.ensures.none

pub returns : goal.returns
returns c =
    let g : FitsSigned w64 c.in-Some.value = search rules in
    let some : (get_or c.args.terms.now c.args.at (pos 0, Const (pos 0))).0 *ℤ c.in-Some.value ≡ c.args.left.now = c.in-Some.ensures.some in
    dropped c.args.terms.now c.args.at (pos 0, Const (pos 0)) c.args.r.now _ _ c.args.store.now c.drop_value.new.store c.drop_value.result c.requires.well_formed c.requires.limits c.requires.open c.requires.left some (simp to_z-of_z at c.drop_value.ensures.narrows)
