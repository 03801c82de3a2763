-- The values of terms under the assignments of a box.
use Rattle.std.proofs.Common.{◌≡◌, zero, List, length, refl, arith, ℤ, Bool, true, false}
use Rattle.std.specs.Prelude.{Contains}
use Rattle.std.proofs.lemmas.Int.{ints}
use Rattle.fzn_model.specs.declared.term.Term.{Term}
use Rattle.fzn_model.specs.declared.term.Term.TheVariants as term
use Rattle.fzn_model.specs.Meaning.{val}
use Rattle.fzn_model.specs.Limits.{TermIn}
use Rattle.fzn_model.specs.Boxes.{IsBox, InBox}
use Rattle.fzn_model.specs.Bounds.{term_low, is_open}
use Rattle.fzn_model.proofs.Terms.{val_low, val_high}
use Rattle.rest_basic.specs.Forms.{substituted, term_values}

-- a term that isn't open has its one value
pub shut_value : (box : List (List ℤ)) (t : Term) (θ : List ℤ) → IsBox box → InBox box θ → TermIn (length box) t → is_open box t ≡ false → val t θ ≡ term_low box t
shut_value box t θ well_formed lies inside shut =
    let low = val_low box t θ well_formed inside lies in
    let high = val_high box t θ well_formed inside lies in
    omega (arith, ints, low, high, shut)

substituted_by : (box : List (List ℤ)) (t : Term) (θ : List ℤ) → (is_open box t ≡ false → val t θ ≡ term_low box t) → (o : Bool) → is_open box t ≡ o → val (substituted box t) θ ≡ val t θ
unfolding substituted
substituted_by box t θ shut true e = rw e refl
substituted_by box t θ shut false e = let is = shut e in rw e (cc)

pub substituted_value : (box : List (List ℤ)) (t : Term) (θ : List ℤ) → IsBox box → InBox box θ → TermIn (length box) t → val (substituted box t) θ ≡ val t θ
substituted_value box t θ well_formed lies inside = substituted_by box t θ (shut_value box t θ well_formed lies inside) (is_open box t) refl

-- its value is among its values
pub value_among : (box : List (List ℤ)) (t : Term) (θ : List ℤ) → InBox box θ → TermIn (length box) t → Contains (term_values box t) (val t θ)
unfolding term_values
value_among box (term.Const z) θ lies inside = (zero, omega arith, refl)
value_among box (term.Var k) θ lies inside = lies.each k inside
