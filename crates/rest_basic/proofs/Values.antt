-- The values of terms.
use Rattle.std.proofs.Common.{◌≡◌, ℕ, zero, suc, ◌<◌, List, [], ◌∷◌, length, refl, sym, arith, ℤ}
use Rattle.std.specs.Prelude.{Contains, ◌↔◌}
use Rattle.std.proofs.lemmas.Int.{ints}
use Rattle.std.proofs.lemmas.List.Elements.{All-cons, All-nil}
use Rattle.fzn_model.specs.declared.term.Term.{Term}
use Rattle.fzn_model.specs.declared.term.Term.TheVariants as term
use Rattle.fzn_model.specs.Limits.{IsValue, TermIn}
use Rattle.fzn_model.specs.Boxes.{IsBox, IsDomain, domain_at, low_value, high_value}
use Rattle.fzn_model.specs.Bounds.{term_low, term_high}
use Rattle.fzn_model.proofs.Terms.{has_value, has_low, has_high}
use Rattle.rest_basic.specs.Forms.{term_values}

-- the bounds of a variable are values
pub low_is_value : (box : List (List ℤ)) (k : ℕ) → IsBox box → k < length box → IsValue (low_value (domain_at box k))
low_is_value box k well_formed inside = has_value box (term.Var k) _ well_formed inside (has_low box (term.Var k) well_formed inside)

pub high_is_value : (box : List (List ℤ)) (k : ℕ) → IsBox box → k < length box → IsValue (high_value (domain_at box k))
high_is_value box k well_formed inside = has_value box (term.Var k) _ well_formed inside (has_high box (term.Var k) well_formed inside)

-- the values of a term are a domain
not_empty : (z : ℤ) → (z ∷ []) ≡ [] → ⊥
not_empty z e = (cc)

pub alone : (z : ℤ) → IsValue z → IsDomain (z ∷ [])
unfolding low_value high_value
alone z value = record {
  some = not_empty z;
  rising = λ i j d lt inside. absurd (omega (arith, lt, inside));
  within = All-cons IsValue z [] value (All-nil IsValue);
  whole = λ wide y from to. absurd (omega (arith, ints, wide));
}

pub domain_of : (box : List (List ℤ)) (t : Term) → IsBox box → TermIn (length box) t → IsDomain (term_values box t)
unfolding term_values
domain_of box (term.Const z) well_formed inside = alone z inside
domain_of box (term.Var k) well_formed inside = well_formed k [] inside

pub variable_domain : (box : List (List ℤ)) (k : ℕ) → IsBox box → k < length box → IsDomain (domain_at box k)
variable_domain box k well_formed inside = well_formed k [] inside

pub low_is_first : (box : List (List ℤ)) (t : Term) → low_value (term_values box t) ≡ term_low box t
unfolding term_values low_value
low_is_first box (term.Const z) = refl
low_is_first box (term.Var k) = refl

pub high_is_last : (box : List (List ℤ)) (t : Term) → high_value (term_values box t) ≡ term_high box t
unfolding term_values high_value
high_is_last box (term.Const z) = refl
high_is_last box (term.Var k) = refl

pub has_alone : (z v : ℤ) → Contains (z ∷ []) v ↔ (v ≡ z)
has_alone z v = (from, λ e. (zero, omega arith, sym e))
  where
    from : Contains (z ∷ []) v → v ≡ z
    from (zero, h, e) = sym e
    from (suc k, h, e) = absurd (omega (arith, h))
