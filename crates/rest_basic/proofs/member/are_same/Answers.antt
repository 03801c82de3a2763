use Rattle.std.proofs.Common.{◌≡◌, ℤ, Bool, true, false, refl, ap, sym, subst, ◌∙◌}
use Rattle.std.specs.Prelude.{◌&&◌, ◌↔◌}
use Rattle.std.specs.Ordering.{int_eq}
use Rattle.std.specs.Bool.{Decides}
use Rattle.std.proofs.lemmas.Bool.{false≢true}
use Rattle.std.proofs.lemmas.Bool.Decides.{Decides-int_eq}
use Rattle.std.proofs.lemmas.Slice.Eq.{slice_eq-Decides}
use Rattle.rest_basic.proofs.member.are_same.Goals as goal

pair_same : (a b : ℤ × ℤ) → a.0 ≡ b.0 → a.1 ≡ b.1 → a ≡ b
pair_same a b e f = subst (λ (w : ℤ). a ≡ (b.0, w)) f (subst (λ (w : ℤ). a ≡ (w, a.1)) e refl)

by_tests : (a b : ℤ × ℤ) (t u : Bool) → int_eq a.0 b.0 ≡ t → int_eq a.1 b.1 ≡ u → ((t && u) ≡ true) ↔ (a ≡ b)
by_tests a b true true e f = (λ _. pair_same a b ((Decides-int_eq a.0 b.0).0 e) ((Decides-int_eq a.1 b.1).0 f), λ _. refl)
by_tests a b true false e f = (λ h. absurd (false≢true h), λ same. absurd (false≢true (sym f ∙ (Decides-int_eq a.1 b.1).1 (ap (λ (x : ℤ × ℤ). x.1) same))))
by_tests a b false u e f = (λ h. absurd (false≢true h), λ same. absurd (false≢true (sym e ∙ (Decides-int_eq a.0 b.0).1 (ap (λ (x : ℤ × ℤ). x.0) same))))

pair_decides : (a b : ℤ × ℤ) → Decides (int_eq a.0 b.0 && int_eq a.1 b.1) (a ≡ b)
pair_decides a b = by_tests a b (int_eq a.0 b.0) (int_eq a.1 b.1) refl refl

pub returns : goal.returns
returns c = slice_eq-Decides pair_decides c.args.runs.now c.args.others.now c.eq.result c.eq.ensures
