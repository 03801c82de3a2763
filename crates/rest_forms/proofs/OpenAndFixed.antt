-- A list of terms is its open terms and its fixed ones, and these are their values.
use Rattle.std.proofs.Common.{◌≡◌, ◌+◌, List, [], ◌∷◌, ◌++◌, length, map, refl, sym, subst, ◌∙◌, arith, ℤ, Bool, true, false, inl, inr, ◌⊎◌}
use Rattle.std.specs.Prelude.{All, Contains, filter, not, ◌↔◌}
use Rattle.std.specs.List.{list_any}
use Rattle.std.specs.List.Sorted.{IsPermutation}
use Rattle.std.proofs.lemmas.Bool.{false≢true, or_parts}
use Rattle.std.proofs.lemmas.List.Elements.{All-append, All-contains, All-contains_itself, All-filter, All-map, All-weaker, Contains-append_cases, Contains-append_left, Contains-append_right}
use Rattle.std.proofs.lemmas.List.Filters.{length-filter_both}
use Rattle.std.proofs.lemmas.List.Sorted.{IsPermutation-filter_both, IsPermutation-sym, All-permutation, Contains-permutation}
use Rattle.fzn_model.specs.declared.term.Term.{Term}
use Rattle.fzn_model.specs.Meaning.{val, HasValue}
use Rattle.fzn_model.specs.Limits.{TermIn}
use Rattle.fzn_model.specs.Boxes.{IsBox, InBox}
use Rattle.fzn_model.specs.Bounds.{term_low, is_open}
use Rattle.rest_basic.specs.Forms.{open_terms, any_open}
use Rattle.rest_basic.proofs.ListMembers.{filter_none, filter_passed, map_has, map_from}
use Rattle.rest_basic.proofs.TermsInBox.{shut_value}
use Rattle.rest_forms.specs.Forms.{fixed_values}

-- ---- the open terms and the fixed ones
abbrev pub fixed_terms : List (List ℤ) → List Term → List Term
fixed_terms box ts = filter (λ t. not (is_open box t)) ts

pub parted : (box : List (List ℤ)) (ts : List Term) → IsPermutation ts (open_terms box ts ++ fixed_terms box ts)
unfolding open_terms
parted box ts = IsPermutation-filter_both (is_open box) (λ t. not (is_open box t)) (λ t. refl) ts

pub joined : (box : List (List ℤ)) (ts : List Term) → IsPermutation (open_terms box ts ++ fixed_terms box ts) ts
joined box ts = IsPermutation-sym ts (open_terms box ts ++ fixed_terms box ts) (parted box ts)

pub fewer : (box : List (List ℤ)) (ts : List Term) → length (open_terms box ts) + length (fixed_values box ts) ≡ length ts
unfolding open_terms fixed_values
fewer box ts = omega (arith, length_map (term_low box) (fixed_terms box ts), length-filter_both (is_open box) (λ t. not (is_open box t)) (λ t. refl) ts)
  where
    length_map : {X Y : Type 0} (f : X → Y) (xs : List X) → length (map f xs) ≡ length xs
    length_map f [] = refl
    length_map f (x ∷ xs) = omega (arith, length_map f xs)

shut : (t : Bool) → not t ≡ true → t ≡ false
shut true e = absurd (false≢true e)
shut false e = refl

-- a fixed term of a list has its one value
pub fixed_is : (box : List (List ℤ)) (ts : List Term) (θ : List ℤ) → IsBox box → InBox box θ → All (TermIn (length box)) ts → (t : Term) → Contains (fixed_terms box ts) t → val t θ ≡ term_low box t
fixed_is box ts θ well_formed lies inside t has =
    shut_value box t θ well_formed lies
    (All-contains (TermIn (length box)) (fixed_terms box ts) t (All-filter (λ t. not (is_open box t)) (TermIn (length box)) ts inside) has)
    (shut (is_open box t) (filter_passed (λ t. not (is_open box t)) ts t has))

-- ---- the values of a list
value_at : (ts : List Term) (z : ℤ) (θ : List ℤ) → HasValue ts z θ → (t : Term) × Contains ts t × (val t θ ≡ z)
unfolding HasValue
value_at ts z θ (k, t, h, at, is) = (t, (k, h, at), is)

at_value : (ts : List Term) (z : ℤ) (θ : List ℤ) (t : Term) → Contains ts t → val t θ ≡ z → HasValue ts z θ
unfolding HasValue
at_value ts z θ t (k, h, at) is = (k, t, h, at, is)

pub has_either : (xs ys : List Term) (z : ℤ) (θ : List ℤ) → HasValue (xs ++ ys) z θ ↔ (HasValue xs z θ ⊎ HasValue ys z θ)
has_either xs ys z θ = (
  (λ h. let (t, has, is) = value_at (xs ++ ys) z θ h in elim (Contains-append_cases xs ys t has) [ inl a ↦ inl (at_value xs z θ t a is) | inr b ↦ inr (at_value ys z θ t b is) ]),
  (λ h. elim h [
    | inl a ↦ let (t, has, is) = value_at xs z θ a in at_value (xs ++ ys) z θ t (Contains-append_left xs ys t has) is
    | inr b ↦ let (t, has, is) = value_at ys z θ b in at_value (xs ++ ys) z θ t (Contains-append_right xs ys t has) is
  ]),
)

has_fixed : (box : List (List ℤ)) (ts : List Term) (z : ℤ) (θ : List ℤ) → IsBox box → InBox box θ → All (TermIn (length box)) ts → HasValue (fixed_terms box ts) z θ ↔ Contains (fixed_values box ts) z
unfolding fixed_values
has_fixed box ts z θ well_formed lies inside = (
  (λ h. let (t, has, is) = value_at (fixed_terms box ts) z θ h in
      subst (λ (y : ℤ). Contains (map (term_low box) (fixed_terms box ts)) y) (sym (fixed_is box ts θ well_formed lies inside t has) ∙ is) (map_has (term_low box) (fixed_terms box ts) t has)),
  (λ h. let (t, has, is) = map_from (term_low box) (fixed_terms box ts) z h in
      at_value (fixed_terms box ts) z θ t has (fixed_is box ts θ well_formed lies inside t has ∙ is)),
)

-- some term has the value exactly where an open one has, or a fixed one
pub has_splits : (box : List (List ℤ)) (ts : List Term) (z : ℤ) (θ : List ℤ) → IsBox box → InBox box θ → All (TermIn (length box)) ts → HasValue ts z θ ↔ (HasValue (open_terms box ts) z θ ⊎ Contains (fixed_values box ts) z)
has_splits box ts z θ well_formed lies inside =
    let both = has_either (open_terms box ts) (fixed_terms box ts) z θ in
    let fixed = has_fixed box ts z θ well_formed lies inside in (
      (λ h. let (t, has, is) = value_at ts z θ h in
          elim (both.0 (at_value (open_terms box ts ++ fixed_terms box ts) z θ t (Contains-permutation ts (open_terms box ts ++ fixed_terms box ts) t (parted box ts) has) is)) [ inl a ↦ inl a | inr b ↦ inr (fixed.0 b) ]),
      (λ h. let (t, has, is) = value_at (open_terms box ts ++ fixed_terms box ts) z θ (both.1 (elim h [ inl a ↦ inl a | inr b ↦ inr (fixed.1 b) ])) in
          at_value ts z θ t (Contains-permutation (open_terms box ts ++ fixed_terms box ts) ts t (joined box ts) has) is),
    )

-- a property of all values is one of those of the open terms, and of those of the fixed ones
pub record AllOver (P : ℤ → Type 0) (ts : List Term) (θ : List ℤ) : Type 0 where
  pub all : All (λ t. P (val t θ)) ts

over_each : (P : ℤ → Type 0) (ts : List Term) (θ : List ℤ) → ((t : Term) → Contains ts t → P (val t θ)) → AllOver P ts θ
over_each P ts θ each = record { all = All-weaker (Contains ts) (λ t. P (val t θ)) each ts (All-contains_itself ts) }

pub over_at : (P : ℤ → Type 0) (ts : List Term) (θ : List ℤ) (t : Term) → AllOver P ts θ → Contains ts t → P (val t θ)
over_at P ts θ t over has = All-contains (λ t. P (val t θ)) ts t over.all has

pub over_both : (P : ℤ → Type 0) (xs ys : List Term) (θ : List ℤ) → AllOver P (xs ++ ys) θ ↔ (AllOver P xs θ × AllOver P ys θ)
over_both P xs ys θ = (
  (λ h. (
    over_each P xs θ (λ t has. over_at P (xs ++ ys) θ t h (Contains-append_left xs ys t has)),
    over_each P ys θ (λ t has. over_at P (xs ++ ys) θ t h (Contains-append_right xs ys t has)),
  )),
  (λ h. record { all = All-append (λ t. P (val t θ)) xs ys h.0.all h.1.all }),
)

pub record AllOf (P : ℤ → Type 0) (zs : List ℤ) : Type 0 where
  pub all : All P zs

over_fixed : (P : ℤ → Type 0) (box : List (List ℤ)) (ts : List Term) (θ : List ℤ) → IsBox box → InBox box θ → All (TermIn (length box)) ts → AllOver P (fixed_terms box ts) θ ↔ AllOf P (fixed_values box ts)
unfolding fixed_values
over_fixed P box ts θ well_formed lies inside = (
  (λ h. record { all = All-map P (term_low box) (fixed_terms box ts) (All-weaker (Contains (fixed_terms box ts)) (λ t. P (term_low box t)) (λ t has. subst P (fixed_is box ts θ well_formed lies inside t has) (over_at P (fixed_terms box ts) θ t h has)) (fixed_terms box ts) (All-contains_itself (fixed_terms box ts))) }),
  (λ h. over_each P (fixed_terms box ts) θ (λ t has. subst P (sym (fixed_is box ts θ well_formed lies inside t has)) (All-contains P (map (term_low box) (fixed_terms box ts)) (term_low box t) h.all (map_has (term_low box) (fixed_terms box ts) t has)))),
)

pub over_splits : (P : ℤ → Type 0) (box : List (List ℤ)) (ts : List Term) (θ : List ℤ) → IsBox box → InBox box θ → All (TermIn (length box)) ts → AllOver P ts θ ↔ (AllOver P (open_terms box ts) θ × AllOf P (fixed_values box ts))
over_splits P box ts θ well_formed lies inside =
    let both = over_both P (open_terms box ts) (fixed_terms box ts) θ in
    let fixed = over_fixed P box ts θ well_formed lies inside in (
      (λ h. let parts = both.0 (record { all = All-permutation (λ t. P (val t θ)) ts (open_terms box ts ++ fixed_terms box ts) (parted box ts) h.all }) in (parts.0, fixed.0 parts.1)),
      (λ h. record { all = All-permutation (λ t. P (val t θ)) (open_terms box ts ++ fixed_terms box ts) ts (joined box ts) (both.1 (h.0, fixed.1 h.1)).all }),
    )

-- ---- lists without an open term
pub none_open : (box : List (List ℤ)) (ts : List Term) → any_open box ts ≡ false → open_terms box ts ≡ []
unfolding any_open open_terms
none_open box ts e = filter_none (is_open box) ts e

pub one_shut : (box : List (List ℤ)) (t : Term) (ts : List Term) → any_open box (t ∷ ts) ≡ false → (is_open box t ≡ false) × (any_open box ts ≡ false)
unfolding any_open
one_shut box t ts e = or_parts (is_open box t) (list_any (is_open box) ts) e
