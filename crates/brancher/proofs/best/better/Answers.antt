use Rattle.std.proofs.Common.{rules, refl, subst, ◌∙◌, w64, FitsSigned, ℤ, ◌≤ℤ◌}
use Rattle.std.proofs.lemmas.Int.{to_z-of_z}
use Rattle.brancher.specs.Making.{IsBestOf}
use Rattle.brancher.proofs.Ranking.{passed_fixed, passed_later, found, improved}
use Rattle.brancher.proofs.best.better.Goals as goal

pub returns-in_default : goal.returns-in_default
returns-in_default g c = λ front had. rw c.in_default.is (passed_fixed _ c.args.by front c.args.best _ had refl)

pub returns-then-not-is_open : goal.returns-then-not-is_open
returns-then-not-is_open g c = λ front had. rw c.in-Var.is (passed_fixed _ c.args.by front c.args.best _ had (c.is_open.ensures.one c.if-not-is_open.true))

pub returns-in-Some : goal.returns-in-Some
returns-in-Some g c = λ front had. rw c.in-Var.is (passed_later _ c.args.by front c.in-Some.found _ (subst (IsBestOf _ c.args.by front) c.in-Some.is had) (subst (λ (r : ℤ). c.in-Some.found.rank ≤ℤ r) c.rank_of-rank.ensures (search rules)))

pub returns-in_default-best : goal.returns-in_default-best
returns-in_default-best g c =
    let fits : FitsSigned w64 c.rank_of-rank.result = search rules in
    λ front had. rw c.in-Var.is (improved _ c.args.by front c.in-Some.found _ (subst (IsBestOf _ c.args.by front) c.in-Some.is had) (search rules) (to_z-of_z w64 _ fits ∙ c.rank_of-rank.ensures) (search rules) (search rules))

pub returns-in_default-best-2 : goal.returns-in_default-best-2
returns-in_default-best-2 g c =
    let fits : FitsSigned w64 c.rank_of-rank.result = search rules in
    λ front had. rw c.in-Var.is (found _ c.args.by front _ (subst (IsBestOf _ c.args.by front) c.in_default-best.is had) (search rules) (to_z-of_z w64 _ fits ∙ c.rank_of-rank.ensures) (search rules))
