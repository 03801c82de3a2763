-- The bounds of linear sums over a box, term by term.
use Rattle.std.specs.Prelude.{◌≡◌, ℕ, zero, suc, ◌+◌, ◌<◌, ◌≤◌, List, [], ◌∷◌, length, slice_index_or, drop, ℤ, pos, ◌+ℤ◌, ◌*ℤ◌, ◌≤ℤ◌, All}
use Rattle.std.specs.Int.{int_min, int_max}
use Rattle.std.proofs.Common.{refl, sym, ap, arith, add-one, drop-cons}
use Rattle.std.proofs.lemmas.Int.{ints, clamps}
use Rattle.std.proofs.lemmas.List.{drop_all}
use Rattle.fzn_model.specs.declared.term.Term.{Term}
use Rattle.fzn_model.specs.Meaning.{val, lin_sum}
use Rattle.fzn_model.specs.Limits.{TermIn}
use Rattle.fzn_model.specs.Boxes.{IsBox, InBox}
use Rattle.fzn_model.specs.Bounds.{term_low, term_high, IsFixed, scaled_low, scaled_high, sum_of, sum_low, sum_high}
use Rattle.fzn_model.proofs.Terms.{val_low, val_high, fixed_val}
use Rattle.fzn_model.proofs.Products.{product_low, product_high}

-- ---- place by place
-- the sum from place i on is the term there and the sum after it
pub sum_drop : (f : ℤ × Term → ℤ) (ts : List (ℤ × Term)) (i : ℕ) (d : ℤ × Term) → i < length ts → sum_of f (drop i ts) ≡ f (slice_index_or ts i d) +ℤ sum_of f (drop (i + 1) ts)
sum_drop f ts i d h = rw add-one (ap (sum_of f) (drop-cons ts i d h))

pub sum_none : (f : ℤ × Term → ℤ) (ts : List (ℤ × Term)) (i : ℕ) → length ts ≤ i → sum_of f (drop i ts) ≡ pos 0
sum_none f ts i h = ap (sum_of f) (drop_all i ts h)

-- ---- under an assignment of the box
-- each term is over n variables
abbrev pub ScaledIn : ℕ → List (ℤ × Term) → Type 0
ScaledIn n ts = All (λ t. TermIn n t.1) ts

pub tail_in : (n : ℕ) (t : ℤ × Term) (ts : List (ℤ × Term)) → ScaledIn n (t ∷ ts) → ScaledIn n ts
tail_in n t ts all k d h = all (suc k) d (omega (arith, h))

pub scaled_least : (box : List (List ℤ)) (t : ℤ × Term) (θ : List ℤ) → IsBox box → TermIn (length box) t.1 → InBox box θ → scaled_low box t ≤ℤ (t.0 *ℤ val t.1 θ)
scaled_least box t θ well_formed inside lies = product_low t.0 _ _ _ (val_low box t.1 θ well_formed inside lies) (val_high box t.1 θ well_formed inside lies)

pub scaled_most : (box : List (List ℤ)) (t : ℤ × Term) (θ : List ℤ) → IsBox box → TermIn (length box) t.1 → InBox box θ → (t.0 *ℤ val t.1 θ) ≤ℤ scaled_high box t
scaled_most box t θ well_formed inside lies = product_high t.0 _ _ _ (val_low box t.1 θ well_formed inside lies) (val_high box t.1 θ well_formed inside lies)

pub sum_least : (box : List (List ℤ)) (ts : List (ℤ × Term)) (θ : List ℤ) → IsBox box → ScaledIn (length box) ts → InBox box θ → sum_low box ts ≤ℤ lin_sum ts θ
sum_least box [] θ well_formed inside lies = omega (arith, ints)
sum_least box (t ∷ ts) θ well_formed inside lies =
    let one = scaled_least box t θ well_formed (inside zero t (omega arith)) lies in
    let rest = sum_least box ts θ well_formed (tail_in _ t ts inside) lies in
    omega (arith, ints, one, rest)

pub sum_most : (box : List (List ℤ)) (ts : List (ℤ × Term)) (θ : List ℤ) → IsBox box → ScaledIn (length box) ts → InBox box θ → lin_sum ts θ ≤ℤ sum_high box ts
sum_most box [] θ well_formed inside lies = omega (arith, ints)
sum_most box (t ∷ ts) θ well_formed inside lies =
    let one = scaled_most box t θ well_formed (inside zero t (omega arith)) lies in
    let rest = sum_most box ts θ well_formed (tail_in _ t ts inside) lies in
    omega (arith, ints, one, rest)

-- ---- where all terms are fixed
min_same : (x y : ℤ) → y ≡ x → int_min x y ≡ x
min_same x y e = omega (arith, ints, clamps, e)

same_bounds : (x y : ℤ) → y ≡ x → int_min x y ≡ int_max x y
same_bounds x y e = omega (arith, ints, clamps, e)

pub scaled_fixed : (box : List (List ℤ)) (t : ℤ × Term) → IsFixed box t.1 → scaled_low box t ≡ t.0 *ℤ term_low box t.1
scaled_fixed box t e = min_same _ _ (ap (λ x. t.0 *ℤ x) (sym e))

pub bounds_fixed : (box : List (List ℤ)) (ts : List (ℤ × Term)) → All (λ t. IsFixed box t.1) ts → sum_low box ts ≡ sum_high box ts
bounds_fixed box [] fixed = refl
bounds_fixed box (t ∷ ts) fixed =
    let one : term_low box t.1 ≡ term_high box t.1 = fixed zero t (omega arith) in
    let same : scaled_low box t ≡ scaled_high box t = same_bounds _ _ (ap (λ z. t.0 *ℤ z) (sym one)) in
    let rest = bounds_fixed box ts (λ k d h. fixed (suc k) d (omega (arith, h))) in
    omega (arith, ints, same, rest)

-- the sum is then its least
pub sum_fixed : (box : List (List ℤ)) (ts : List (ℤ × Term)) (θ : List ℤ) → IsBox box → ScaledIn (length box) ts → InBox box θ → All (λ t. IsFixed box t.1) ts → lin_sum ts θ ≡ sum_low box ts
sum_fixed box [] θ well_formed inside lies fixed = refl
sum_fixed box (t ∷ ts) θ well_formed inside lies fixed =
    let value = fixed_val box t.1 θ well_formed (inside zero t (omega arith)) (fixed zero t (omega arith)) lies in
    let one : scaled_low box t ≡ t.0 *ℤ term_low box t.1 = scaled_fixed box t (fixed zero t (omega arith)) in
    let rest = sum_fixed box ts θ well_formed (tail_in _ t ts inside) lies (λ k d h. fixed (suc k) d (omega (arith, h))) in
    let same : t.0 *ℤ val t.1 θ ≡ t.0 *ℤ term_low box t.1 = ap (λ x. t.0 *ℤ x) value in
    omega (arith, ints, one, rest, same)
