-- A right answer has the verdict of the model, of which there is one.
use Rattle.std.proofs.Common.{◌≡◌, List, ℤ, refl, ap, arith, ◌≤ℤ◌, subst}
use Rattle.std.proofs.lemmas.Int.{ints}
use Rattle.fzn_model.specs.Parts.{Parts}
use Rattle.fzn_model.specs.Solutions.{Solves, cost}
use Rattle.incumbent_board.specs.declared.answer.Answer.{Answer}
use Rattle.incumbent_board.specs.declared.answer.Answer.TheVariants as answer
use Rattle.incumbent_board.specs.Right.{Right, IsDecided}
use Rattle.incumbent_board.specs.Verdict.{Verdict, unsatisfiable, satisfiable, least, IsReached, IsVerdict, SaysVerdict}

pub has_verdict : (m : Parts) (a : Answer) → Right m a → IsDecided a → SaysVerdict m a
has_verdict m answer.Unsat r d = (unsatisfiable, refl, r)
has_verdict m (answer.Sat θ) r d = (satisfiable, refl, (r.0, (θ, r.1)))
has_verdict m (answer.Best θ) r d = (least (cost m θ), refl, (r.0, record { values = θ; solves = r.1.solves; cost_is = refl }, r.1.least))
has_verdict m (answer.Undecided θ why) r d = absurd d

least_same : (m : Parts) (v w : ℤ) → IsReached m v → ((φ : List ℤ) → Solves m φ → v ≤ℤ cost m φ) → IsReached m w → ((φ : List ℤ) → Solves m φ → w ≤ℤ cost m φ) → v ≡ w
least_same m v w p f q g =
    let a : v ≤ℤ w = subst (λ (x : ℤ). v ≤ℤ x) q.cost_is (f q.values q.solves) in
    let b : w ≤ℤ v = subst (λ (x : ℤ). w ≤ℤ x) p.cost_is (g p.values p.solves) in
    omega (arith, ints)

pub one_verdict : (m : Parts) (v w : Verdict) → IsVerdict m v → IsVerdict m w → v ≡ w
one_verdict m unsatisfiable unsatisfiable p q = refl
one_verdict m unsatisfiable satisfiable p q = absurd (p q.1.0 q.1.1)
one_verdict m unsatisfiable (least w) p q = absurd (p q.1.values q.1.solves)
one_verdict m satisfiable unsatisfiable p q = absurd (q p.1.0 p.1.1)
one_verdict m satisfiable satisfiable p q = refl
one_verdict m satisfiable (least w) p q = absurd (q.0 p.0)
one_verdict m (least v) unsatisfiable p q = absurd (q p.1.values p.1.solves)
one_verdict m (least v) satisfiable p q = absurd (p.0 q.0)
one_verdict m (least v) (least w) p q = ap (λ z. least z) (least_same m v w p.1 p.2 q.1 q.2)
