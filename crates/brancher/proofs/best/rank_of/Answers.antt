use Rattle.std.proofs.Common.{◌≤◌, ◌*◌, ◌+◌, length, arith, w64, ap, ◌∙◌, pos}
use Rattle.std.proofs.lemmas.Int.{ints, to_z_pos}
use Rattle.fzn_model.specs.Values.{largest}
use Rattle.fzn_model.specs.Boxes.{domain_at}
use Rattle.brancher.specs.Branching.{rank}
use Rattle.brancher.proofs.Values.{few}
use Rattle.brancher.proofs.best.rank_of.Goals as goal

pub overflow_cast-result : goal.overflow_cast-result
overflow_cast-result g c =
    let count : length (domain_at (g.V.BoxView.shape c.args.view.now) c.args.var) ≤ 2 * largest + 1 = few _ c.args.var c.size.ensures.well_formed c.requires in
    omega (arith, ints, count, c.size.ensures.value)

pub returns-in-FirstFail : goal.returns-in-FirstFail
unfolding rank
returns-in-FirstFail g c =
    let count : length (domain_at (g.V.BoxView.shape c.args.view.now) c.args.var) ≤ 2 * largest + 1 = few _ c.args.var c.size.ensures.well_formed c.requires in
    rw c.in-FirstFail.is (to_z_pos w64 c.size.result (omega (arith, count, c.size.ensures.value)) ∙ ap pos c.size.ensures.value)
