-- A sum and its negative.
use Rattle.std.proofs.Common.{◌≡◌, List, [], ◌∷◌, ℤ, neg_ℤ, refl, ap}
use Rattle.std.specs.Prelude.{true, false}
use Rattle.fzn_model.specs.declared.term.Term.{Term}
use Rattle.fzn_model.specs.Meaning.{lin_sum}
use Rattle.fzn_model.proofs.Opposites.{negated_sum}
use Rattle.fzn_model.specs.Opposites.{negated_one}
use Rattle.fzn_model.specs.Bounds.{sum_low, sum_high}
use Rattle.dom_store.specs.Strength.{IsCapped, IsRaised}
use Rattle.dom_store.proofs.Opposites.{low_of_negative, raised_of_negative}
use Rattle.lin_prop.specs.Signed.{signed_all}

pub same_all : (ts : List (ℤ × Term)) → signed_all false ts ≡ ts
unfolding signed_all
same_all [] = refl
same_all (p ∷ ts) = ap (λ qs. p ∷ qs) (same_all ts)

pub sum_negated : (ts : List (ℤ × Term)) (θ : List ℤ) → lin_sum (signed_all true ts) θ ≡ neg_ℤ (lin_sum ts θ)
unfolding signed_all negated_one
sum_negated ts θ = negated_sum ts θ

pub low_negated : (box : List (List ℤ)) (ts : List (ℤ × Term)) → sum_low box (signed_all true ts) ≡ neg_ℤ (sum_high box ts)
unfolding signed_all negated_one
low_negated box ts = low_of_negative box ts

-- the negative is capped where the sum is raised
pub raised_of : (box : List (List ℤ)) (ts : List (ℤ × Term)) (r : ℤ) → IsCapped box (signed_all true ts) (neg_ℤ r) → IsRaised box ts r
unfolding signed_all negated_one
raised_of box ts r capped = raised_of_negative box ts r capped
