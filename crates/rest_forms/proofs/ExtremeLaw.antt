-- What is left of the greatest or the least of a list holds exactly where the constraint does, names open variables
-- alone, and keeps the limits.
use Rattle.std.proofs.Common.{◌≡◌, ℕ, ◌+◌, zero, suc, ◌≤◌, ◌<◌, List, [], ◌∷◌, ◌++◌, length, fold, refl, sym, ap, subst, ◌∙◌, arith, ℤ, ◌≤ℤ◌, Bool, true, false, inl, inr, ◌⊎◌}
use Rattle.std.specs.Prelude.{All, Contains, ◌↔◌, int_lt, int_le, if◌then◌else◌}
use Rattle.std.specs.Ordering.{int_eq}
use Rattle.std.specs.Int.{int_min, int_max}
use Rattle.std.specs.List.{list_any, list_all}
use Rattle.std.proofs.lemmas.Int.{ints, clamps}
use Rattle.std.proofs.lemmas.List.Elements.{All-append, All-cons, All-contains, All-head, All-nil, All-tail, All-weaker}
use Rattle.std.proofs.lemmas.List.{length-append}
use Rattle.fzn_model.specs.declared.term.Term.{Term}
use Rattle.fzn_model.specs.declared.term.Term.TheVariants as term
use Rattle.fzn_model.specs.declared.con.Con.{Con}
use Rattle.fzn_model.specs.Named.{con_terms}
use Rattle.fzn_model.specs.Meaning.{val, Holds, HasValue, AreAtMost, AreAtLeast}
use Rattle.fzn_model.specs.Limits.{IsValue, TermIn, ListInLimits}
use Rattle.fzn_model.specs.Boxes.{IsBox, InBox}
use Rattle.fzn_model.specs.Bounds.{term_low}
use Rattle.fzn_model.specs.Booleans.{FitsBox}
use Rattle.rest_basic.specs.Forms.{any_open, open_terms, substituted, of_truth}
use Rattle.rest_basic.specs.Equivalence.{FormHolds, IsLeft, NamesOpen}
use Rattle.rest_basic.specs.declared.reduced.Reduced.{Reduced}
use Rattle.rest_basic.specs.declared.reduced.Reduced.TheVariants as reduced
use Rattle.rest_basic.proofs.ClauseLaw.{has_none}
use Rattle.rest_basic.proofs.TermsInBox.{shut_value, substituted_value}
use Rattle.rest_forms.specs.Forms.{fixed_values, pick_by, is_within, one_constant, members_of_extreme, is_extreme, extreme_con, extreme_form}
use Rattle.rest_forms.specs.declared.extremes.Extreme.{Extreme}
use Rattle.rest_forms.specs.declared.extremes.Extreme.TheVariants as extreme
use Rattle.rest_forms.proofs.ValueTests.{among_test, test_among, and_both, all_test, fixed_within}
use Rattle.rest_forms.proofs.OpenAndFixed.{AllOver, AllOf, has_either, has_splits, over_both, over_splits, none_open, one_shut, fewer}
use Rattle.rest_basic.proofs.Substituting.{FormIsOpen, FormIsFit, truth_holds, one_open, truth_open, substituted_left, terms_left, one_fine, truth_fine, substituted_in, open_in}

-- ---- a choice of one of two numbers, which the other isn't beyond
record Picks (pick : ℤ → ℤ → ℤ) (Below : ℤ → ℤ → Type 0) : Type 0 where
  one : (a b : ℤ) → (pick a b ≡ a) ⊎ (pick a b ≡ b)
  first : (a b : ℤ) → Below a (pick a b)
  second : (a b : ℤ) → Below b (pick a b)
  itself : (a : ℤ) → Below a a
  along : (a b c : ℤ) → Below a b → Below b c → Below a c
  both_ways : (a b : ℤ) → Below a b → Below b a → a ≡ b

-- at most, or at least
abbrev IsWithin : Extreme → ℤ → ℤ → Type 0
IsWithin extreme.Greatest a b = a ≤ℤ b
IsWithin extreme.Least a b = b ≤ℤ a

max_one : (a b : ℤ) (t : Bool) → int_lt a b ≡ t → (int_max a b ≡ a) ⊎ (int_max a b ≡ b)
max_one a b true e = inr (omega (arith, ints, clamps, e))
max_one a b false e = inl (omega (arith, ints, clamps, e))

min_one : (a b : ℤ) (t : Bool) → int_lt a b ≡ t → (int_min a b ≡ a) ⊎ (int_min a b ≡ b)
min_one a b true e = inl (omega (arith, ints, clamps, e))
min_one a b false e = inr (omega (arith, ints, clamps, e))

picks_by : (e : Extreme) → Picks (pick_by e) (IsWithin e)
picks_by extreme.Greatest = record {
  one = λ a b. max_one a b (int_lt a b) refl;
  first = λ a b. omega (arith, ints, clamps);
  second = λ a b. omega (arith, ints, clamps);
  itself = λ a. omega (arith, ints);
  along = λ a b c h k. omega (arith, ints, h, k);
  both_ways = λ a b h k. omega (arith, ints, h, k);
}
picks_by extreme.Least = record {
  one = λ a b. min_one a b (int_lt a b) refl;
  first = λ a b. omega (arith, ints, clamps);
  second = λ a b. omega (arith, ints, clamps);
  itself = λ a. omega (arith, ints);
  along = λ a b c h k. omega (arith, ints, h, k);
  both_ways = λ a b h k. omega (arith, ints, h, k);
}

-- ---- the choice of a whole list
abbrev picked : (ℤ → ℤ → ℤ) → List ℤ → List ℤ
picked pick [] = []
picked pick (z ∷ zs) = fold pick z zs ∷ []

module _ (pick : ℤ → ℤ → ℤ) (Below : ℤ → ℤ → Type 0) (picks : Picks pick Below) where
  fold_from : (z : ℤ) (zs : List ℤ) → Below z (fold pick z zs)
  fold_from z [] = picks.itself z
  fold_from z (y ∷ ys) = picks.along z (pick z y) (fold pick (pick z y) ys) (picks.first z y) (fold_from (pick z y) ys)

  fold_over : (z : ℤ) (zs : List ℤ) → All (λ y. Below y (fold pick z zs)) (z ∷ zs)
  fold_over z [] = All-cons (λ y. Below y z) z [] (picks.itself z) (All-nil (λ y. Below y z))
  fold_over z (y ∷ ys) =
      let over = fold_over (pick z y) ys in
      let whole = fold pick (pick z y) ys in
      All-cons (λ x. Below x whole) z (y ∷ ys) (fold_from z (y ∷ ys))
      (All-cons (λ x. Below x whole) y ys (picks.along y (pick z y) whole (picks.second z y) (fold_from (pick z y) ys)) (All-tail (λ x. Below x whole) (pick z y) ys over))

  fold_among : (z : ℤ) (zs : List ℤ) → Contains (z ∷ zs) (fold pick z zs)
  fold_among z [] = (zero, omega arith, refl)
  fold_among z (y ∷ ys) = later (fold_among (pick z y) ys)
    where
      later : Contains (pick z y ∷ ys) (fold pick (pick z y) ys) → Contains (z ∷ y ∷ ys) (fold pick (pick z y) ys)
      later (zero, h, e) = elim (picks.one z y) [
        | inl is ↦ (zero, omega arith, sym is ∙ e)
        | inr is ↦ (suc zero, omega arith, sym is ∙ e)
      ]
      later (suc k, h, e) = (suc (suc k), omega (arith, h), e)

  -- all are below a number where the choice is
  picked_below : (z : ℤ) (zs : List ℤ) → AllOf (λ y. Below y z) (picked pick zs) ↔ AllOf (λ y. Below y z) zs
  picked_below z [] = (λ h. h, λ h. h)
  picked_below z (x ∷ xs) =
      let P = λ (y : ℤ). Below y z in
      let whole = fold pick x xs in (
        (λ h. record { all = All-weaker (λ y. Below y whole) P (λ y below. picks.along y whole z below (All-head P whole [] h.all)) (x ∷ xs) (fold_over x xs) }),
        (λ h. record { all = All-cons P whole [] (All-contains P (x ∷ xs) whole h.all (fold_among x xs)) (All-nil P) }),
      )

  picked_among : (z : ℤ) (zs : List ℤ) → Contains (picked pick zs) z → Contains zs z
  picked_among z [] has = has
  picked_among z (x ∷ xs) (zero, h, e) = subst (λ (y : ℤ). Contains (x ∷ xs) y) e (fold_among x xs)
  picked_among z (x ∷ xs) (suc k, h, e) = absurd (omega (arith, h))

  among_picked : (z : ℤ) (zs : List ℤ) → AllOf (λ y. Below y z) zs → Contains zs z → Contains (picked pick zs) z
  among_picked z [] over has = has
  among_picked z (x ∷ xs) over has =
      let whole = fold pick x xs in
      let to : Below whole z = All-contains (λ y. Below y z) (x ∷ xs) whole over.all (fold_among x xs) in
      let from : Below z whole = All-contains (λ y. Below y whole) (x ∷ xs) z (fold_over x xs) has in
      (zero, omega arith, picks.both_ways whole z to from)

  constant_has : (z : ℤ) (zs : List ℤ) (θ : List ℤ) → HasValue (one_constant pick zs) z θ ↔ Contains (picked pick zs) z
  unfolding HasValue
  constant_has z [] θ = (λ h. absurd (has_none_here h), λ h. absurd (none_among h))
    where
      has_none_here : HasValue [] z θ → ⊥
      has_none_here h = has_none z θ h

      none_among : Contains [] z → ⊥
      none_among (k, h, e) = omega (arith, h)
  constant_has z (x ∷ xs) θ = (from, to)
    where
      from : HasValue (one_constant pick (x ∷ xs)) z θ → Contains (picked pick (x ∷ xs)) z
      from (zero, t, h, at, is) = (zero, omega arith, ap (λ (u : Term). val u θ) at ∙ is)
      from (suc k, t, h, at, is) = absurd (omega (arith, h))

      to : Contains (picked pick (x ∷ xs)) z → HasValue (one_constant pick (x ∷ xs)) z θ
      to (zero, h, e) = (zero, term.Const (fold pick x xs), omega arith, refl, e)
      to (suc k, h, e) = absurd (omega (arith, h))

  constant_over : (P : ℤ → Type 0) (zs : List ℤ) (θ : List ℤ) → AllOver P (one_constant pick zs) θ ↔ AllOf P (picked pick zs)
  constant_over P [] θ = (λ h. record { all = All-nil P }, λ h. record { all = All-nil (λ t. P (val t θ)) })
  constant_over P (x ∷ xs) θ = (
    (λ h. record { all = All-cons P (fold pick x xs) [] (All-head (λ t. P (val t θ)) (term.Const (fold pick x xs)) [] h.all) (All-nil P) }),
    (λ h. record { all = All-cons (λ t. P (val t θ)) (term.Const (fold pick x xs)) [] (All-head P (fold pick x xs) [] h.all) (All-nil (λ t. P (val t θ))) }),
  )

  -- ---- the number is among the values of a list, none of which is beyond it
  record IsExtreme (z : ℤ) (ts : List Term) (θ : List ℤ) : Type 0 where
    among : HasValue ts z θ
    over : AllOver (λ y. Below y z) ts θ

  module _ (box : List (List ℤ)) (ts : List Term) (θ : List ℤ) (well_formed : IsBox box) (lies : InBox box θ) (inside : All (TermIn (length box)) ts) where
    members_law : (z : ℤ) → IsExtreme z (members_of_extreme pick box ts) θ ↔ IsExtreme z ts θ
    unfolding members_of_extreme
    members_law z =
        let opens = open_terms box ts in
        let fixed = fixed_values box ts in
        let P = λ (y : ℤ). Below y z in
        let has_members = has_either opens (one_constant pick fixed) z θ in
        let has_all = has_splits box ts z θ well_formed lies inside in
        let over_members = over_both P opens (one_constant pick fixed) θ in
        let over_all = over_splits P box ts θ well_formed lies inside in
        let has_constant = constant_has z fixed θ in
        let over_constant = constant_over P fixed θ in
        let below = picked_below z fixed in (
          (λ h. record {
            among = has_all.1 (elim (has_members.0 h.among) [ inl a ↦ inl a | inr b ↦ inr (picked_among z fixed (has_constant.0 b)) ]);
            over = let parts = over_members.0 h.over in over_all.1 (parts.0, below.0 (over_constant.0 parts.1));
          }),
          (λ h. let parts = over_all.0 h.over in record {
            among = has_members.1 (elim (has_all.0 h.among) [ inl a ↦ inl a | inr b ↦ inr (has_constant.1 (among_picked z fixed parts.1 b)) ]);
            over = over_members.1 (parts.0, over_constant.1 (below.1 parts.1));
          }),
        )

    fixed_law : (z : ℤ) → any_open box ts ≡ false → IsExtreme z ts θ ↔ (Contains (fixed_values box ts) z × AllOf (λ y. Below y z) (fixed_values box ts))
    fixed_law z shut =
        let P = λ (y : ℤ). Below y z in
        let none = none_open box ts shut in
        let has_all = has_splits box ts z θ well_formed lies inside in
        let over_all = over_splits P box ts θ well_formed lies inside in
        let empty : AllOver P (open_terms box ts) θ = subst (λ (us : List Term). AllOver P us θ) (sym none) (record { all = All-nil (λ t. P (val t θ)) }) in (
          (λ h. (
            elim (has_all.0 h.among) [ inl a ↦ absurd (has_none z θ (subst (λ (us : List Term). HasValue us z θ) none a)) | inr b ↦ b ],
            (over_all.0 h.over).1,
          )),
          (λ h. record { among = has_all.1 (inr h.0); over = over_all.1 (empty, h.1) }),
        )

  constant_left : (box : List (List ℤ)) (zs : List ℤ) → All (IsLeft box) (one_constant pick zs)
  constant_left box [] = All-nil (IsLeft box)
  constant_left box (x ∷ xs) = All-cons (IsLeft box) (term.Const (fold pick x xs)) [] tt (All-nil (IsLeft box))

  members_left : (box : List (List ℤ)) (ts : List Term) → All (IsLeft box) (members_of_extreme pick box ts)
  unfolding members_of_extreme
  members_left box ts = All-append (IsLeft box) (open_terms box ts) (one_constant pick (fixed_values box ts)) (terms_left box ts) (constant_left box (fixed_values box ts))

  constant_in : (n : ℕ) (zs : List ℤ) → All IsValue zs → All (TermIn n) (one_constant pick zs)
  constant_in n [] values = All-nil (TermIn n)
  constant_in n (x ∷ xs) values = All-cons (TermIn n) (term.Const (fold pick x xs)) [] (All-contains IsValue (x ∷ xs) (fold pick x xs) values (fold_among x xs)) (All-nil (TermIn n))

  constant_count : (zs : List ℤ) → (length (one_constant pick zs) ≤ length zs) × (0 < length zs → 0 < length (one_constant pick zs))
  constant_count [] = (omega arith, λ h. h)
  constant_count (x ∷ xs) = (omega arith, λ h. omega arith)

  members_kept : (box : List (List ℤ)) (ts : List Term) → IsBox box → ListInLimits (length box) ts → ListInLimits (length box) (members_of_extreme pick box ts)
  unfolding members_of_extreme
  members_kept box ts well_formed kept =
      let opens = open_terms box ts in
      let fixed = fixed_values box ts in
      let whole = fewer box ts in
      let both = length-append opens (one_constant pick fixed) in
      let count = constant_count fixed in
      record {
        some = some_of (length opens) (length fixed) (length (one_constant pick fixed)) (length (opens ++ one_constant pick fixed)) both count.1 (omega (arith, whole, kept.some));
        terms = record {
          count = omega (arith, both, count.0, whole, kept.terms.count);
          terms = All-append (TermIn (length box)) opens (one_constant pick fixed) (open_in box ts kept.terms.terms) (constant_in (length box) fixed (fixed_within box ts well_formed kept.terms.terms));
        };
      }
    where
      some_of : (a b c d : ℕ) → d ≡ a + c → (0 < b → 0 < c) → 0 < a + b → 0 < d
      some_of zero b c d both more some = omega (arith, both, more (omega (arith, some)))
      some_of (suc a) b c d both more some = omega (arith, both)

-- ---- the greatest and the least
le_test : (y z : ℤ) → y ≤ℤ z → (t : Bool) → int_le y z ≡ t → int_le y z ≡ true
le_test y z h true e = e
le_test y z h false e = absurd (omega (arith, ints, h, e))

within_test : (e : Extreme) (y z : ℤ) → (is_within e y z ≡ true) ↔ IsWithin e y z
within_test extreme.Greatest y z = (λ e. omega (arith, ints, e), λ h. le_test y z h (int_le y z) refl)
within_test extreme.Least y z = (λ e. omega (arith, ints, e), λ h. le_test z y h (int_le z y) refl)

extreme_tests : (e : Extreme) (z : ℤ) (zs : List ℤ) → (is_extreme e z zs ≡ true) ↔ (Contains zs z × AllOf (λ y. IsWithin e y z) zs)
extreme_tests e z zs =
    let both = and_both (list_any (int_eq z) zs) (list_all (λ y. is_within e y z) zs) in
    let within = all_test (λ y. is_within e y z) (λ y. IsWithin e y z) (λ y. within_test e y z) zs in (
      (λ t. let parts = both.0 t in (test_among z zs parts.0, record { all = within.0 parts.1 })),
      (λ h. both.1 (among_test z zs h.0, within.1 h.1.all)),
    )

-- the constraint, the terms that it names, and the limits that it keeps
extreme_holds : (e : Extreme) (m : Term) (xs : List Term) (θ : List ℤ) → Holds (extreme_con e m xs) θ ↔ IsExtreme (pick_by e) (IsWithin e) (picks_by e) (val m θ) xs θ
unfolding AreAtMost AreAtLeast
extreme_holds extreme.Greatest m xs θ = (λ h. record { among = h.0; over = record { all = h.1 } }, λ x. (x.among, x.over.all))
extreme_holds extreme.Least m xs θ = (λ h. record { among = h.0; over = record { all = h.1 } }, λ x. (x.among, x.over.all))

extreme_terms : (e : Extreme) (m : Term) (xs : List Term) → con_terms (extreme_con e m xs) ≡ m ∷ xs
extreme_terms extreme.Greatest m xs = refl
extreme_terms extreme.Least m xs = refl

kept_extreme : (e : Extreme) (box : List (List ℤ)) (m : Term) (xs : List Term) → FitsBox box (extreme_con e m xs) → TermIn (length box) m × ListInLimits (length box) xs
kept_extreme extreme.Greatest box m xs fits_box = fits_box.kept
kept_extreme extreme.Least box m xs fits_box = fits_box.kept

extreme_kept : (e : Extreme) (box : List (List ℤ)) (m : Term) (xs : List Term) → TermIn (length box) m → ListInLimits (length box) xs → FitsBox box (extreme_con e m xs)
extreme_kept extreme.Greatest box m xs im ixs = record { kept = (im, ixs); booleans = tt }
extreme_kept extreme.Least box m xs im ixs = record { kept = (im, ixs); booleans = tt }

module _ (e : Extreme) (box : List (List ℤ)) (m : Term) (xs : List Term) where
  extreme_by : (θ : List ℤ) → IsBox box → InBox box θ → TermIn (length box) m → All (TermIn (length box)) xs → (o : Bool) → any_open box (m ∷ xs) ≡ o
      → FormHolds (if o then reduced.Is (extreme_con e (substituted box m) (members_of_extreme (pick_by e) box xs)) else of_truth (is_extreme e (term_low box m) (fixed_values box xs))) θ ↔ Holds (extreme_con e m xs) θ
  extreme_by θ well_formed lies im ixs true is =
      let same = substituted_value box m θ well_formed lies im in
      let law = members_law (pick_by e) (IsWithin e) (picks_by e) box xs θ well_formed lies ixs (val m θ) in
      let members = members_of_extreme (pick_by e) box xs in
      let new = extreme_holds e (substituted box m) members θ in
      let old = extreme_holds e m xs θ in
      let IsExtremeAt = λ (z : ℤ). IsExtreme (pick_by e) (IsWithin e) (picks_by e) z members θ in (
        (λ h. old.1 (law.0 (subst IsExtremeAt same (new.0 h)))),
        (λ h. new.1 (subst IsExtremeAt (sym same) (law.1 (old.0 h)))),
      )
  extreme_by θ well_formed lies im ixs false is =
      let shut = one_shut box m xs is in
      let same = shut_value box m θ well_formed lies im shut.0 in
      let law = fixed_law (pick_by e) (IsWithin e) (picks_by e) box xs θ well_formed lies ixs (term_low box m) shut.1 in
      let tests = extreme_tests e (term_low box m) (fixed_values box xs) in
      let old = extreme_holds e m xs θ in
      let IsExtremeAt = λ (z : ℤ). IsExtreme (pick_by e) (IsWithin e) (picks_by e) z xs θ in
      truth_holds (is_extreme e (term_low box m) (fixed_values box xs)) (Holds (extreme_con e m xs) θ) θ (
        (λ t. old.1 (subst IsExtremeAt (sym same) (law.1 (tests.0 t)))),
        (λ h. tests.1 (law.0 (subst IsExtremeAt same (old.0 h)))),
      )

  pub extreme_law : (θ : List ℤ) → IsBox box → InBox box θ → TermIn (length box) m → All (TermIn (length box)) xs → FormHolds (extreme_form e box m xs) θ ↔ Holds (extreme_con e m xs) θ
  unfolding extreme_form
  extreme_law θ well_formed lies im ixs = extreme_by θ well_formed lies im ixs (any_open box (m ∷ xs)) refl

  extreme_names : FormIsOpen box (extreme_form e box m xs)
  unfolding extreme_form
  extreme_names =
      let members = members_of_extreme (pick_by e) box xs in
      let left : FormIsOpen box (reduced.Is (extreme_con e (substituted box m) members)) =
      record { over = rw (extreme_terms e (substituted box m) members) (All-cons (IsLeft box) (substituted box m) members (substituted_left box m) (members_left (pick_by e) (IsWithin e) (picks_by e) box xs)) } in
      one_open box (any_open box (m ∷ xs)) left (truth_open box (is_extreme e (term_low box m) (fixed_values box xs)))

  pub extreme_open : NamesOpen box (extreme_form e box m xs)
  extreme_open = extreme_names.over

  extreme_fine : IsBox box → TermIn (length box) m → ListInLimits (length box) xs → FormIsFit box (extreme_form e box m xs)
  unfolding extreme_form
  extreme_fine well_formed im ixs =
      let members = members_of_extreme (pick_by e) box xs in
      let left : FormIsFit box (reduced.Is (extreme_con e (substituted box m) members)) =
      record { fine = extreme_kept e box (substituted box m) members (substituted_in box m well_formed im) (members_kept (pick_by e) (IsWithin e) (picks_by e) box xs well_formed ixs) } in
      one_fine box (any_open box (m ∷ xs)) left (truth_fine box (is_extreme e (term_low box m) (fixed_values box xs)))

  pub extreme_suits : (d : Con) → IsBox box → FitsBox box (extreme_con e m xs) → extreme_form e box m xs ≡ reduced.Is d → FitsBox box d
  extreme_suits d well_formed fits_box is = let kept = kept_extreme e box m xs fits_box in (subst (λ (f : Reduced). FormIsFit box f) is (extreme_fine well_formed kept.0 kept.1)).fine
