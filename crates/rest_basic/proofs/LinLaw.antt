-- The form of a linear relation holds exactly where the relation does.
use Rattle.std.proofs.Common.{◌≡◌, List, [], ◌∷◌, length, refl, ap, arith, ℤ, ◌+ℤ◌, ◌*ℤ◌, ◌≤ℤ◌, Bool, true, false}
use Rattle.std.specs.Prelude.{All, ◌↔◌, int_lt, int_le, ◌||◌, if◌then◌else◌, ⊤}
use Rattle.std.specs.List.{list_any}
use Rattle.std.specs.Int.{int_min, int_max}
use Rattle.std.proofs.lemmas.Int.{ints, clamps}
use Rattle.std.proofs.lemmas.List.Elements.{All-head, All-tail}
use Rattle.fzn_model.specs.declared.term.Term.{Term}
use Rattle.fzn_model.specs.declared.lin.Rel.{Rel}
use Rattle.fzn_model.specs.declared.lin.Rel.TheVariants as rel
use Rattle.fzn_model.specs.Meaning.{val, lin_sum, Stands, HoldsBase}
use Rattle.fzn_model.specs.Limits.{TermIn, SumInLimits}
use Rattle.fzn_model.specs.Boxes.{IsBox, InBox}
use Rattle.fzn_model.specs.Bounds.{term_low, term_high, is_open, sum_low, sum_high}
use Rattle.fzn_model.proofs.Terms.{low_to_high}
use Rattle.rest_basic.specs.Forms.{fixed_sum, is_open_linear_term, open_linear_terms, some_open, left_of, form_of_le, form_of_eq, form_of_ne, form_of_lin}
use Rattle.rest_basic.specs.declared.reduced.BaseForm.{BaseForm}
use Rattle.rest_basic.specs.declared.reduced.BaseForm.TheVariants as form
use Rattle.rest_basic.proofs.TermsInBox.{shut_value}
use Rattle.fzn_model.proofs.LinearBounds.{sum_least, sum_most}

-- where the form of a base holds
abbrev pub BaseFormHolds : BaseForm → List ℤ → Type 0
BaseFormHolds form.Holds θ = ⊤
BaseFormHolds form.Fails θ = ⊥
BaseFormHolds (form.Is b) θ = HoldsBase b θ

abbrev Named : List (List ℤ) → List (ℤ × Term) → Type 0
Named box ps = All (λ (p : ℤ × Term). TermIn (length box) p.1) ps

first_named : (box : List (List ℤ)) (p : ℤ × Term) (ps : List (ℤ × Term)) → Named box (p ∷ ps) → TermIn (length box) p.1
first_named box p ps named = All-head (λ (q : ℤ × Term). TermIn (length box) q.1) p ps named

rest_named : (box : List (List ℤ)) (p : ℤ × Term) (ps : List (ℤ × Term)) → Named box (p ∷ ps) → Named box ps
rest_named box p ps named = All-tail (λ (q : ℤ × Term). TermIn (length box) q.1) p ps named

split_first : (box : List (List ℤ)) (p : ℤ × Term) (ps : List (ℤ × Term)) (θ : List ℤ)
    → lin_sum ps θ ≡ (lin_sum (open_linear_terms box ps) θ +ℤ fixed_sum box ps)
    → (is_open box p.1 ≡ false → val p.1 θ ≡ term_low box p.1)
    → (o : Bool) → is_open box p.1 ≡ o
    → lin_sum (p ∷ ps) θ ≡ (lin_sum (open_linear_terms box (p ∷ ps)) θ +ℤ fixed_sum box (p ∷ ps))
unfolding open_linear_terms fixed_sum
split_first box p ps θ rest fixed true e = rw e (omega (arith, ints, rest))
split_first box p ps θ rest fixed false e = let same = ap (λ z. p.0 *ℤ z) (fixed e) in rw e (omega (arith, ints, rest, same))

-- a sum is that of its open parts and that of the others
sum_splits : (box : List (List ℤ)) (ps : List (ℤ × Term)) (θ : List ℤ) → IsBox box → InBox box θ → Named box ps → lin_sum ps θ ≡ (lin_sum (open_linear_terms box ps) θ +ℤ fixed_sum box ps)
unfolding open_linear_terms fixed_sum
sum_splits box [] θ well_formed lies named = refl
sum_splits box (p ∷ ps) θ well_formed lies named =
    let rest = sum_splits box ps θ well_formed lies (rest_named box p ps named) in
    split_first box p ps θ rest (shut_value box p.1 θ well_formed lies (first_named box p ps named)) (is_open box p.1) refl

or_none : (a b : Bool) → (a || b) ≡ false → (a ≡ false) × (b ≡ false)
or_none true b e = (cc)
or_none false b e = (refl, e)

min_same : (x y : ℤ) → x ≡ y → int_min x y ≡ x
min_same x y h = omega (arith, ints, clamps)

max_same : (x y : ℤ) → x ≡ y → int_max x y ≡ x
max_same x y h = omega (arith, ints, clamps)

-- where no term is open, the greatest sum is the least
fixed_ends : (box : List (List ℤ)) (ps : List (ℤ × Term)) → IsBox box → Named box ps → some_open box ps ≡ false → sum_high box ps ≡ sum_low box ps
unfolding some_open
fixed_ends box [] well_formed named e = refl
fixed_ends box (p ∷ ps) well_formed named e =
    let none = or_none (is_open box p.1) (list_any (is_open_linear_term box) ps) e in
    let order = low_to_high box p.1 well_formed (first_named box p ps named) in
    let same : term_low box p.1 ≡ term_high box p.1 = omega (arith, ints, order, none.0) in
    let times = ap (λ z. p.0 *ℤ z) same in
    let low = min_same _ _ times in
    let high = max_same _ _ times in
    let rest = fixed_ends box ps well_formed (rest_named box p ps named) none.1 in
    omega (arith, ints, low, high, rest)

record Known (box : List (List ℤ)) (ps : List (ℤ × Term)) (θ : List ℤ) : Type 0 where
  low : sum_low box ps ≤ℤ lin_sum ps θ
  high : lin_sum ps θ ≤ℤ sum_high box ps
  splits : lin_sum ps θ ≡ (lin_sum (open_linear_terms box ps) θ +ℤ fixed_sum box ps)
  tight : some_open box ps ≡ false → sum_high box ps ≡ sum_low box ps

known_of : (box : List (List ℤ)) (ps : List (ℤ × Term)) (θ : List ℤ) → IsBox box → InBox box θ → Named box ps → Known box ps θ
known_of box ps θ well_formed lies named = record {
  low = sum_least box ps θ well_formed named lies;
  high = sum_most box ps θ well_formed named lies;
  splits = sum_splits box ps θ well_formed lies named;
  tight = fixed_ends box ps well_formed named;
}

left_law : (box : List (List ℤ)) (k : Rel) (ps : List (ℤ × Term)) (r : ℤ) (θ : List ℤ) → Known box ps θ → BaseFormHolds (left_of box k ps r) θ ↔ Stands k (lin_sum ps θ) r
unfolding left_of
left_law box rel.Le ps r θ known = (λ h. omega (arith, ints, known.splits, h), λ h. omega (arith, ints, known.splits, h))
left_law box rel.Eq ps r θ known = (λ h. omega (arith, ints, known.splits, h), λ h. omega (arith, ints, known.splits, h))
left_law box rel.Ne ps r θ known = (λ h same. h (omega (arith, ints, known.splits, same)), λ h same. h (omega (arith, ints, known.splits, same)))

le_law : (box : List (List ℤ)) (ps : List (ℤ × Term)) (r : ℤ) (θ : List ℤ) → Known box ps θ → (t : Bool) → int_le (sum_high box ps) r ≡ t → (u : Bool) → int_lt r (sum_low box ps) ≡ u
    → BaseFormHolds (if t then form.Holds else (if u then form.Fails else left_of box rel.Le ps r)) θ ↔ (lin_sum ps θ ≤ℤ r)
le_law box ps r θ known true e u f = (λ _. omega (arith, ints, known.high, e), λ _. tt)
le_law box ps r θ known false e true f = (λ h. absurd h, λ h. absurd (omega (arith, ints, known.low, f, h)))
le_law box ps r θ known false e false f = left_law box rel.Le ps r θ known

eq_law : (box : List (List ℤ)) (ps : List (ℤ × Term)) (r : ℤ) (θ : List ℤ) → Known box ps θ → (t u : Bool) → int_lt r (sum_low box ps) ≡ t → int_lt (sum_high box ps) r ≡ u → (o : Bool) → some_open box ps ≡ o
    → BaseFormHolds (if t || u then form.Fails else (if o then left_of box rel.Eq ps r else form.Holds)) θ ↔ (lin_sum ps θ ≡ r)
eq_law box ps r θ known true u e f o g = (λ h. absurd h, λ h. absurd (omega (arith, ints, known.low, e, h)))
eq_law box ps r θ known false true e f o g = (λ h. absurd h, λ h. absurd (omega (arith, ints, known.high, f, h)))
eq_law box ps r θ known false false e f true g = left_law box rel.Eq ps r θ known
eq_law box ps r θ known false false e f false g = let same = known.tight g in (λ _. omega (arith, ints, known.low, known.high, same, e, f), λ _. tt)

ne_law : (box : List (List ℤ)) (ps : List (ℤ × Term)) (r : ℤ) (θ : List ℤ) → Known box ps θ → (t u : Bool) → int_lt r (sum_low box ps) ≡ t → int_lt (sum_high box ps) r ≡ u → (o : Bool) → some_open box ps ≡ o
    → BaseFormHolds (if t || u then form.Holds else (if o then left_of box rel.Ne ps r else form.Fails)) θ ↔ (lin_sum ps θ ≡ r → ⊥)
ne_law box ps r θ known true u e f o g = (λ _ h. absurd (omega (arith, ints, known.low, e, h)), λ _. tt)
ne_law box ps r θ known false true e f o g = (λ _ h. absurd (omega (arith, ints, known.high, f, h)), λ _. tt)
ne_law box ps r θ known false false e f true g = left_law box rel.Ne ps r θ known
ne_law box ps r θ known false false e f false g =
    let same = known.tight g in
    let is : lin_sum ps θ ≡ r = omega (arith, ints, known.low, known.high, same, e, f) in
    (λ h. absurd h, λ h. h is)

by_rel : (box : List (List ℤ)) (k : Rel) (ps : List (ℤ × Term)) (r : ℤ) (θ : List ℤ) → Known box ps θ → BaseFormHolds (form_of_lin box k ps r) θ ↔ Stands k (lin_sum ps θ) r
unfolding form_of_le form_of_eq form_of_ne
by_rel box rel.Le ps r θ known = le_law box ps r θ known (int_le (sum_high box ps) r) refl (int_lt r (sum_low box ps)) refl
by_rel box rel.Eq ps r θ known = eq_law box ps r θ known (int_lt r (sum_low box ps)) (int_lt (sum_high box ps) r) refl refl (some_open box ps) refl
by_rel box rel.Ne ps r θ known = ne_law box ps r θ known (int_lt r (sum_low box ps)) (int_lt (sum_high box ps) r) refl refl (some_open box ps) refl

pub lin_law : (box : List (List ℤ)) (k : Rel) (ps : List (ℤ × Term)) (r : ℤ) (θ : List ℤ) → IsBox box → InBox box θ → SumInLimits (length box) ps → BaseFormHolds (form_of_lin box k ps r) θ ↔ Stands k (lin_sum ps θ) r
lin_law box k ps r θ well_formed lies kept = by_rel box k ps r θ (known_of box ps θ well_formed lies kept.terms)
