-- The opposite of a linear relation holds exactly where the relation does not, and keeps its limits.
use Rattle.std.specs.Prelude.{◌≡◌, ℕ, zero, suc, ◌+◌, ◌<◌, ◌↔◌, ◌≤◌, Bool, true, false, int_le, List, [], ◌∷◌, length, ℤ, pos, negsuc, neg_ℤ, ◌*ℤ◌, ◌≤ℤ◌, ◌<ℤ◌, unsigned_abs}
use Rattle.std.specs.Ordering.{int_eq}
use Rattle.std.proofs.Common.{refl, sym, ap, ◌∙◌, arith, subst}
use Rattle.std.proofs.lemmas.Int.{ints}
use Rattle.std.proofs.lemmas.Bool.{false≢true}
use Rattle.std.proofs.lemmas.Bool.Decides.{Decides-int_eq}
use Rattle.std.proofs.lemmas.List.{length-map, get_or-map}
use Rattle.std.proofs.Math.IntN.{zero-*ℤ, *ℤ_comm, *ℤ-negsuc}
use Rattle.fzn_model.specs.declared.term.Term.{Term}
use Rattle.fzn_model.specs.declared.lin.Rel.{Rel}
use Rattle.fzn_model.specs.declared.lin.Rel.TheVariants as rel
use Rattle.fzn_model.specs.Meaning.{val, lin_sum, Stands}
use Rattle.fzn_model.specs.Limits.{IsValue, TermIn, SumInLimits}
use Rattle.fzn_model.specs.Opposites.{negated_one, negated, opposite_of}

pub neg_times : (f z : ℤ) → neg_ℤ f *ℤ z ≡ neg_ℤ (f *ℤ z)
neg_times (pos zero) z = zero-*ℤ z ∙ sym (ap (λ x. neg_ℤ x) (zero-*ℤ z))
neg_times (pos (suc n)) z = *ℤ_comm (negsuc n) z ∙ *ℤ-negsuc z n ∙ ap (λ x. neg_ℤ x) (*ℤ_comm z (pos (suc n)))
neg_times (negsuc n) z =
    let t : negsuc n *ℤ z ≡ neg_ℤ (pos (suc n) *ℤ z) = *ℤ_comm (negsuc n) z ∙ *ℤ-negsuc z n ∙ ap (λ x. neg_ℤ x) (*ℤ_comm z (pos (suc n))) in
    omega (arith, ints, t)

pub negated_sum : (ps : List (ℤ × Term)) (θ : List ℤ) → lin_sum (negated ps) θ ≡ neg_ℤ (lin_sum ps θ)
unfolding negated_one
negated_sum [] θ = refl
negated_sum (p ∷ ps) θ =
    let rest = negated_sum ps θ in
    let one = neg_times p.0 (val p.1 θ) in
    omega (arith, ints, rest, one)

equal_at : (a b : ℤ) (t : Bool) → int_eq a b ≡ t → ((a ≡ b → ⊥) → ⊥) → a ≡ b
equal_at a b true e not = (Decides-int_eq a b).0 e
equal_at a b false e not = absurd (not (λ same. false≢true (sym e ∙ (Decides-int_eq a b).1 same)))

over_at : (a b : ℤ) (t : Bool) → int_le a b ≡ t → (a ≤ℤ b → ⊥) → b <ℤ a
over_at a b true e not = absurd (not (omega (arith, ints, e)))
over_at a b false e not = omega (arith, ints, e)

-- it holds exactly where the relation doesn't
pub opposite_stands : (rel : Rel) (ps : List (ℤ × Term)) (r : ℤ) (θ : List ℤ) → Stands (opposite_of rel ps r).rel (lin_sum (opposite_of rel ps r).terms θ) (opposite_of rel ps r).r ↔ (Stands rel (lin_sum ps θ) r → ⊥)
opposite_stands rel.Le ps r θ =
    let sum = negated_sum ps θ in (
      (λ other holds. absurd (omega (arith, ints, sum, other, holds))),
      (λ fails. let over = over_at (lin_sum ps θ) r (int_le (lin_sum ps θ) r) refl fails in omega (arith, ints, sum, over)),
    )
opposite_stands rel.Eq ps r θ = ((λ differs. differs), (λ differs. differs))
opposite_stands rel.Ne ps r θ = ((λ equal differs. differs equal), (λ not. equal_at (lin_sum ps θ) r (int_eq (lin_sum ps θ) r) refl not))

-- the negative of a sum keeps its limits
neg_small : (z : ℤ) (n : ℕ) → unsigned_abs z ≤ n → unsigned_abs (neg_ℤ z) ≤ n
neg_small z n h = omega (arith, ints, h)

pub negated_in_limits : (n : ℕ) (ps : List (ℤ × Term)) → SumInLimits n ps → SumInLimits n (negated ps)
unfolding negated_one
negated_in_limits n ps kept = record {
  count = subst (λ m. m ≤ 2000000) (sym (length-map ps negated_one)) kept.count;
  factors = λ k d h.
      let here : k < length ps = omega (arith, h, length-map ps negated_one) in
      subst (λ (p : ℤ × Term). IsValue p.0) (sym (get_or-map negated_one ps k d d here)) (neg_small _ _ (kept.factors k d here));
  terms = λ k d h.
      let here : k < length ps = omega (arith, h, length-map ps negated_one) in
      subst (λ (p : ℤ × Term). TermIn n p.1) (sym (get_or-map negated_one ps k d d here)) (kept.terms k d here);
}

pub opposite_in_limits : (rel : Rel) (n : ℕ) (ps : List (ℤ × Term)) (r : ℤ) → SumInLimits n ps → SumInLimits n (opposite_of rel ps r).terms
opposite_in_limits rel.Le n ps r kept = negated_in_limits n ps kept
opposite_in_limits rel.Eq n ps r kept = kept
opposite_in_limits rel.Ne n ps r kept = kept

pub opposite_small : (rel : Rel) (ps : List (ℤ × Term)) (r : ℤ) (n : ℕ) → unsigned_abs r ≤ n → unsigned_abs (opposite_of rel ps r).r ≤ n + 1
opposite_small rel.Le ps r n small = omega (arith, ints, small)
opposite_small rel.Eq ps r n small = omega (arith, ints, small)
opposite_small rel.Ne ps r n small = omega (arith, ints, small)
