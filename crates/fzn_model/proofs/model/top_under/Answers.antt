use Rattle.std.proofs.Common.{rules, FitsSigned, w64}
use Rattle.std.proofs.lemmas.Int.{to_z-of_z}
use Rattle.fzn_model.proofs.Tops.{top_satisfy, top_maximise}
use Rattle.fzn_model.proofs.model.top_under.Goals as goal

pub returns-in-Satisfy-clause-greatest : goal.returns-in-Satisfy-clause-greatest
returns-in-Satisfy-clause-greatest c = rw c.in-Satisfy.is (top_satisfy _)

pub returns-in-Maximise-clause-greatest : goal.returns-in-Maximise-clause-greatest
returns-in-Maximise-clause-greatest c =
    let f : FitsSigned w64 c.after_negated.result = search rules in
    let g : FitsSigned w64 c.lowest.result = search rules in
    simp to_z-of_z (rw c.in-Maximise.is (top_maximise _ _ c.lowest.result _ c.lowest.ensures.reached c.lowest.ensures.below (simp to_z-of_z at c.after_negated.ensures)))
