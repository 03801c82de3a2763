use Rattle.std.proofs.Common.{rules, refl, w64, FitsSigned, sym, subst}
use Rattle.std.proofs.lemmas.Int.{to_z-of_z}
use Rattle.brancher.specs.Branching.{IsPlace}
use Rattle.brancher.proofs.Places.{sides}
use Rattle.brancher.proofs.cut.cut_by.Goals as goal

pub returns-clause-sides : goal.returns-clause-sides
returns-clause-sides g c =
    let fits : FitsSigned w64 c.place_of.result = search rules in
    sides _ c.args.var c.args.rule _ c.place_of.ensures.domains c.requires.var c.requires.several (subst (IsPlace (g.V.BoxView.shape c.args.view.now) c.args.var c.args.rule) (sym (to_z-of_z w64 c.place_of.result fits)) c.place_of.ensures.place) refl
