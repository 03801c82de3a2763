-- From the bounds of a sum to what they show of it.
use Rattle.std.proofs.Common.{◌≡◌, ◌⊎◌, ◌↔◌, List, arith, inl, inr}
use Rattle.std.specs.Prelude.{ℤ, ◌≤ℤ◌, ◌<ℤ◌, Bool, IsTrue}
use Rattle.std.proofs.lemmas.Int.{ints}
use Rattle.fzn_model.specs.declared.term.Term.{Term}
use Rattle.fzn_model.specs.declared.lin.Rel.TheVariants.{Le, Eq, Ne}
use Rattle.fzn_model.specs.Bounds.{sum_low, sum_high}
use Rattle.dom_store.specs.Strength.{SumIsFixed}
use Rattle.reif_prop.specs.declared.verdict.Verdict.{Verdict}
use Rattle.reif_prop.specs.declared.verdict.Verdict.TheVariants as verdict
use Rattle.dom_store.specs.declared.sums.Reach.{Reach}
use Rattle.dom_store.specs.Sums.{IsReach}
use Rattle.reif_prop.specs.Parts.{relation}
use Rattle.reif_prop.specs.Judging.{IsJudged, opposite}

module _ (box : List (List ℤ)) (ps : List (ℤ × Term)) (r : ℤ) (reach : Reach) (known : IsReach box ps reach) where
  -- ---- tests, in other words
  low_is : reach.low ≡ sum_low box ps
  low_is = known.least

  high_is : reach.high ≡ sum_high box ps
  high_is = known.most

  apart_is : (r <ℤ reach.low) ⊎ (reach.high <ℤ r) → (r <ℤ sum_low box ps) ⊎ (sum_high box ps <ℤ r)
  apart_is (inl above) = inl (omega (arith, ints, above, low_is))
  apart_is (inr below) = inr (omega (arith, ints, below, high_is))

  apart_by : (r <ℤ sum_low box ps) ⊎ (sum_high box ps <ℤ r) → (r <ℤ reach.low) ⊎ (reach.high <ℤ r)
  apart_by (inl above) = inl (omega (arith, ints, above, low_is))
  apart_by (inr below) = inr (omega (arith, ints, below, high_is))

  exactly_is : SumIsFixed box ps × (reach.low ≡ r) → SumIsFixed box ps × (sum_low box ps ≡ r)
  exactly_is both = (both.0, omega (arith, ints, low_is, both.1))

  exactly_by : SumIsFixed box ps × (sum_low box ps ≡ r) → SumIsFixed box ps × (reach.low ≡ r)
  exactly_by both = (both.0, omega (arith, ints, low_is, both.1))

  pub sum_above : (test : Bool) → IsTrue test ↔ (r <ℤ reach.low) → IsTrue test ↔ (r <ℤ sum_low box ps)
  sum_above test is = ((λ e. let h = is.0 e in omega (arith, ints, h, low_is)), (λ h. is.1 (omega (arith, ints, h, low_is))))

  pub sum_at_most : (test : Bool) → IsTrue test ↔ (reach.high ≤ℤ r) → IsTrue test ↔ (sum_high box ps ≤ℤ r)
  sum_at_most test is = ((λ e. let h = is.0 e in omega (arith, ints, h, high_is)), (λ h. is.1 (omega (arith, ints, h, high_is))))

  pub sum_apart : (test : Bool) → IsTrue test ↔ ((r <ℤ reach.low) ⊎ (reach.high <ℤ r)) → IsTrue test ↔ ((r <ℤ sum_low box ps) ⊎ (sum_high box ps <ℤ r))
  sum_apart test is = ((λ e. apart_is (is.0 e)), (λ h. is.1 (apart_by h)))

  pub sum_number : (test : Bool) → IsTrue test ↔ (reach.low ≡ r) → IsTrue test ↔ (sum_low box ps ≡ r)
  sum_number test is = ((λ e. let h = is.0 e in omega (arith, ints, h, low_is)), (λ h. is.1 (omega (arith, ints, h, low_is))))

  -- ---- at most
  pub most_shown : reach.high ≤ℤ r → IsJudged box (relation Le ps r) verdict.Shown
  unfolding IsJudged
  most_shown h = omega (arith, ints, h, high_is)

  pub most_refuted : r <ℤ reach.low → IsJudged box (relation Le ps r) verdict.Refuted
  unfolding IsJudged
  most_refuted h = omega (arith, ints, h, low_is)

  pub most_unknown : (reach.high ≤ℤ r → ⊥) → (r <ℤ reach.low → ⊥) → IsJudged box (relation Le ps r) verdict.Unknown
  unfolding IsJudged
  most_unknown not_most not_above = ((λ h. not_most (omega (arith, ints, h, high_is))), (λ h. not_above (omega (arith, ints, h, low_is))))

  -- ---- equal to
  pub equal_shown : SumIsFixed box ps × (reach.low ≡ r) → IsJudged box (relation Eq ps r) verdict.Shown
  unfolding IsJudged
  equal_shown both = exactly_is both

  pub equal_refuted : (r <ℤ reach.low) ⊎ (reach.high <ℤ r) → IsJudged box (relation Eq ps r) verdict.Refuted
  unfolding IsJudged
  equal_refuted apart = apart_is apart

  pub equal_unknown : ((r <ℤ reach.low) ⊎ (reach.high <ℤ r) → ⊥) → (SumIsFixed box ps × (reach.low ≡ r) → ⊥) → IsJudged box (relation Eq ps r) verdict.Unknown
  unfolding IsJudged
  equal_unknown not_apart not_exactly = ((λ both. not_exactly (exactly_by both)), (λ apart. not_apart (apart_by apart)))

-- a sum is different from a number where it isn't equal to it
pub different_judged : (box : List (List ℤ)) (ps : List (ℤ × Term)) (r : ℤ) (equal different : Verdict) → different ≡ opposite equal → IsJudged box (relation Eq ps r) equal → IsJudged box (relation Ne ps r) different
unfolding IsJudged
different_judged box ps r verdict.Shown verdict.Refuted is judged = judged
different_judged box ps r verdict.Refuted verdict.Shown is judged = judged
different_judged box ps r verdict.Unknown verdict.Unknown is judged = (judged.1, judged.0)
different_judged box ps r _ _ is judged = absurd (cc)
