use Rattle.std.proofs.Common.{rules, ◌≡◌, ◌+◌, subst, sym, take, true, is_some}
use Rattle.std.proofs.lemmas.List.{take_more}
use Rattle.fzn_model.specs.declared.pick.VarBy.TheVariants as choice
use Rattle.brancher.specs.Making.{IsBestOf}
use Rattle.brancher.proofs.Ranking.{settled}
use Rattle.brancher.proofs.best.first_best.Goals as goal

pub returns-then-is_some : goal.returns-then-is_some
returns-then-is_some g c =
    let here = subst (λ front. IsBestOf (g.V.BoxView.shape c.args.view.now) c.args.by front c.better-best.result) (sym (take_more c.args.terms.now c.loop-term.term-index _ (search rules))) (c.better-best.ensures (take c.loop-term.term-index c.args.terms.now) c.loop-term.invariant) in
    let order : c.args.by ≡ choice.InputOrder = search rules in
    let some : is_some c.better-best.result ≡ true = search rules in
    settled _ c.args.by c.args.terms.now (c.loop-term.term-index + 1) c.better-best.result order some here
