-- Bounds of the negative of a sum, and the strength of a linear relation's opposite.
use Rattle.std.specs.Prelude.{◌≡◌, ◌<◌, List, [], ◌∷◌, length, slice_index_or, ℤ, pos, neg_ℤ, ◌+ℤ◌, ◌-ℤ◌, ◌≤ℤ◌}
use Rattle.std.specs.Int.{int_min, int_max}
use Rattle.std.proofs.Common.{refl, arith, subst}
use Rattle.std.proofs.lemmas.Int.{ints, clamps}
use Rattle.std.proofs.lemmas.List.{length-map, get_or-map}
use Rattle.fzn_model.specs.declared.term.Term.{Term}
use Rattle.fzn_model.specs.declared.lin.Rel.{Rel}
use Rattle.fzn_model.specs.declared.lin.Rel.TheVariants as rel
use Rattle.fzn_model.proofs.Opposites.{neg_times}
use Rattle.fzn_model.specs.Opposites.{negated_one, negated, opposite_of}
use Rattle.fzn_model.specs.Bounds.{scaled_low, scaled_high, sum_low, sum_high, others_low}
use Rattle.dom_store.specs.Strength.{IsCapped, IsRaised, LinIsStrong, OppositeIsStrong}

turn_min : (a b c d : ℤ) → c ≡ neg_ℤ a → d ≡ neg_ℤ b → int_min c d ≡ neg_ℤ (int_max a b)
turn_min a b c d e f = omega (arith, ints, clamps, e, f)

turn_max : (a b c d : ℤ) → c ≡ neg_ℤ a → d ≡ neg_ℤ b → int_max c d ≡ neg_ℤ (int_min a b)
turn_max a b c d e f = omega (arith, ints, clamps, e, f)

pub low_of_negated : (box : List (List ℤ)) (p : ℤ × Term) → scaled_low box (negated_one p) ≡ neg_ℤ (scaled_high box p)
unfolding negated_one
low_of_negated box p = turn_min _ _ _ _ (neg_times p.0 _) (neg_times p.0 _)

pub high_of_negated : (box : List (List ℤ)) (p : ℤ × Term) → scaled_high box (negated_one p) ≡ neg_ℤ (scaled_low box p)
unfolding negated_one
high_of_negated box p = turn_max _ _ _ _ (neg_times p.0 _) (neg_times p.0 _)

pub low_of_negative : (box : List (List ℤ)) (ps : List (ℤ × Term)) → sum_low box (negated ps) ≡ neg_ℤ (sum_high box ps)
low_of_negative box [] = refl
low_of_negative box (p ∷ ps) =
    let rest = low_of_negative box ps in
    let one = low_of_negated box p in
    omega (arith, ints, rest, one)

-- where the negative is capped, the sum is raised
pub raised_of_negative : (box : List (List ℤ)) (ps : List (ℤ × Term)) (r : ℤ) → IsCapped box (negated ps) (neg_ℤ r) → IsRaised box ps r
unfolding IsCapped IsRaised
raised_of_negative box ps r capped k d h =
    let here : k < length (negated ps) = omega (arith, h, length-map ps negated_one) in
    let at = capped k (negated_one d) here in
    let is = subst (λ (p : ℤ × Term). (scaled_high box p +ℤ others_low box (negated ps) p) ≤ℤ neg_ℤ r) (get_or-map negated_one ps k d (negated_one d) h) at in
    let low = low_of_negated box (slice_index_or ps k d) in
    let high = high_of_negated box (slice_index_or ps k d) in
    let sum = low_of_negative box ps in
    omega (arith, ints, is, low, high, sum)

-- the strength of the relation that is the opposite
pub opposite_strong : (box : List (List ℤ)) (rel : Rel) (ps : List (ℤ × Term)) (r : ℤ) → LinIsStrong box (opposite_of rel ps r).rel (opposite_of rel ps r).terms (opposite_of rel ps r).r → OppositeIsStrong box rel ps r
opposite_strong box rel.Le ps r capped =
    let number : (neg_ℤ r -ℤ pos 1) ≡ neg_ℤ (r +ℤ pos 1) = omega (arith, ints) in
    raised_of_negative box ps (r +ℤ pos 1) (subst (IsCapped box (negated ps)) number capped)
opposite_strong box rel.Eq ps r strong = strong
opposite_strong box rel.Ne ps r strong = strong
