-- What is left of values that differ holds exactly where the constraint does, names open variables alone, and keeps the
-- limits.
use Rattle.std.proofs.Common.{◌≡◌, zero, suc, ◌+◌, ◌≤◌, List, [], ◌∷◌, ◌++◌, length, map, refl, sym, ap, subst, ◌∙◌, arith, ℤ, Bool, true, false, inl, inr, ◌⊎◌}
use Rattle.std.specs.Prelude.{All, AllPairs, Contains, ◌↔◌, ◌||◌, ◌&&◌, not, if◌then◌else◌, filter, slice_index_or}
use Rattle.std.specs.Ordering.{int_eq, int_cmp}
use Rattle.std.specs.List.{list_any, IsDistinct}
use Rattle.std.proofs.lemmas.Bool.{false≢true}
use Rattle.std.proofs.lemmas.Cmp.{int_eq_equiv}
use Rattle.std.proofs.lemmas.List.{length-append, map-append}
use Rattle.std.proofs.lemmas.List.Elements.{All-contains, All-contains_itself, All-weaker, All-append, Contains-append_cases, Contains-append_left, Contains-append_right, Contains-get_or}
use Rattle.std.proofs.lemmas.List.Folds.{list_any-from_Any}
use Rattle.std.proofs.lemmas.List.Sorted.{Contains-permutation, IsPermutation-map}
use Rattle.std.proofs.lemmas.List.Filters.{length-filter_both}
use Rattle.std.proofs.lemmas.Map.Keys.{IsDistinct-tail, IsDistinct-IsPermutation}
use Rattle.std.specs.List.Sorted.{IsPermutation}
use Rattle.fzn_model.specs.declared.term.Term.{Term}
use Rattle.fzn_model.specs.declared.con.Con.{Con}
use Rattle.fzn_model.specs.declared.con.Con.TheVariants as con
use Rattle.fzn_model.specs.Meaning.{val, Holds, AreDistinct, AreUntaken, IsFree}
use Rattle.fzn_model.specs.Limits.{IsValue, TermIn, ConInLimits, of_model}
use Rattle.fzn_model.specs.Boxes.{IsBox, InBox}
use Rattle.fzn_model.specs.Bounds.{term_low, is_open}
use Rattle.fzn_model.specs.Booleans.{FitsBox}
use Rattle.fzn_model.proofs.Pigeons.{distinct_none, distinct_more, distinct_first}
use Rattle.rest_basic.specs.Forms.{open_terms, empty_clause}
use Rattle.rest_basic.specs.Equivalence.{FormHolds, NamesOpen}
use Rattle.rest_basic.specs.declared.reduced.Reduced.{Reduced}
use Rattle.rest_basic.specs.declared.reduced.Reduced.TheVariants as reduced
use Rattle.rest_basic.proofs.TermsInBox.{value_among}
use Rattle.rest_forms.specs.Forms.{fixed_values, term_has, open_has, has_twice, share_one, is_decided, rising_by, taken_left, all_different_form}
use Rattle.rest_forms.proofs.ValueTests.{term_has_is, fixed_within}
use Rattle.rest_forms.proofs.DistinctNumbers.{AreApart, distinct_both, distinct_parts, twice_distinct, distinct_twice, share_some, some_share}
use Rattle.rest_basic.proofs.ListMembers.{has_first, has_later, has_no, filter_passed, filter_kept, filter_has, map_has, map_from}
use Rattle.rest_forms.proofs.OpenAndFixed.{fixed_terms, parted, joined, fixed_is, fewer}
use Rattle.rest_forms.proofs.RisingLists.{rising_count, numbers_have}
use Rattle.rest_basic.proofs.Substituting.{FormIsOpen, FormIsFit, never_holds, one_open, always_open, never_open, terms_left, one_fine, always_fine, never_fine, open_in}

-- ---- values that differ, of terms
abbrev values : List Term → List ℤ → List ℤ
values ts θ = map (λ t. val t θ) ts

record Distinct (ts : List Term) (θ : List ℤ) : Type 0 where
  pairs : AllPairs (λ x y. val x θ ≡ val y θ → ⊥) ts

pairs_differ : (ts : List Term) (θ : List ℤ) → Distinct ts θ → IsDistinct int_eq (values ts θ)
pairs_differ [] θ distinct = distinct_none
pairs_differ (t ∷ ts) θ distinct =
    distinct_more (val t θ) (values ts θ)
    (λ has. let (u, (k, h, at), is) = map_from (λ x. val x θ) ts (val t θ) has in
    distinct.pairs zero (suc k) u (omega arith) (omega (arith, h)) (sym is ∙ ap (λ (x : Term). val x θ) (sym at)))
    (pairs_differ ts θ (record { pairs = λ i j d lt h. distinct.pairs (suc i) (suc j) d (omega (arith, lt)) (omega (arith, h)) }))

differ_pairs : (ts : List Term) (θ : List ℤ) → IsDistinct int_eq (values ts θ) → Distinct ts θ
differ_pairs [] θ differ = record { pairs = λ i j d lt h. absurd (omega (arith, h)) }
differ_pairs (t ∷ ts) θ differ = record { pairs = pairs (differ_pairs ts θ (IsDistinct-tail int_eq (val t θ) (values ts θ) differ)) }
  where
    pairs : Distinct ts θ → AllPairs (λ x y. val x θ ≡ val y θ → ⊥) (t ∷ ts)
    pairs rest zero zero d lt h is = omega (arith, lt)
    pairs rest zero (suc j) d lt h is = distinct_first (val t θ) (values ts θ) differ (subst (λ (z : ℤ). Contains (values ts θ) z) (sym is) (map_has (λ x. val x θ) ts (slice_index_or ts j d) (Contains-get_or ts j d (omega (arith, h)))))
    pairs rest (suc i) zero d lt h is = omega (arith, lt)
    pairs rest (suc i) (suc j) d lt h is = rest.pairs i j d (omega (arith, lt)) (omega (arith, h)) is

differ_moved : (ts us : List Term) (θ : List ℤ) → IsPermutation ts us → IsDistinct int_eq (values ts θ) → IsDistinct int_eq (values us θ)
differ_moved ts us θ moved = IsDistinct-IsPermutation int_eq int_eq_equiv.symm (values ts θ) (values us θ) (IsPermutation-map (λ t. val t θ) ts us moved)

-- ---- the open terms and the fixed ones
same_on : {X : Type 0} (f g : X → ℤ) (xs : List X) → ((x : X) → Contains xs x → f x ≡ g x) → map f xs ≡ map g xs
same_on f g [] same = refl
same_on f g (x ∷ xs) same =
    let here : f x ≡ g x = same x (has_first x xs x refl) in
    let rest : map f xs ≡ map g xs = same_on f g xs (λ y has. same y (has_later x xs y has)) in
    (cc)

record Splits (box : List (List ℤ)) (ts : List Term) (θ : List ℤ) : Type 0 where
  opens : IsDistinct int_eq (values (open_terms box ts) θ)
  fixed : IsDistinct int_eq (fixed_values box ts)
  apart : AreApart (values (open_terms box ts) θ) (fixed_values box ts)

module _ (box : List (List ℤ)) (ts : List Term) (θ : List ℤ) (well_formed : IsBox box) (lies : InBox box θ) (inside : All (TermIn (length box)) ts) where
  all_values : values (open_terms box ts ++ fixed_terms box ts) θ ≡ values (open_terms box ts) θ ++ fixed_values box ts
  unfolding fixed_values
  all_values = map-append (λ (t : Term). val t θ) (open_terms box ts) (fixed_terms box ts) ∙ ap (λ (zs : List ℤ). values (open_terms box ts) θ ++ zs) (same_on (λ t. val t θ) (term_low box) (fixed_terms box ts) (fixed_is box ts θ well_formed lies inside))

  distinct_splits : Distinct ts θ → Splits box ts θ
  distinct_splits distinct =
      let whole = subst (IsDistinct int_eq) all_values (differ_moved ts (open_terms box ts ++ fixed_terms box ts) θ (parted box ts) (pairs_differ ts θ distinct)) in
      let parts = distinct_parts (values (open_terms box ts) θ) (fixed_values box ts) whole in
      record { opens = parts.0; fixed = parts.1; apart = parts.2 }

  splits_distinct : Splits box ts θ → Distinct ts θ
  splits_distinct splits =
      let whole = distinct_both (values (open_terms box ts) θ) (fixed_values box ts) splits.opens splits.fixed splits.apart in
      differ_pairs ts θ (differ_moved (open_terms box ts ++ fixed_terms box ts) ts θ (joined box ts) (subst (IsDistinct int_eq) (sym all_values) whole))

-- ---- the taken numbers that are left
open_has_it : (box : List (List ℤ)) (xs : List Term) (θ : List ℤ) → InBox box θ → All (TermIn (length box)) xs → (t : Term) → Contains (open_terms box xs) t → open_has box xs (val t θ) ≡ true
unfolding open_has open_terms
open_has_it box xs θ lies inside t has =
    let among = filter_kept (is_open box) xs t has in
    let shows : is_open box t ≡ true = filter_passed (is_open box) xs t has in
    let can = (term_has_is box t (val t θ)).1 (value_among box t θ lies (All-contains (TermIn (length box)) xs t inside among)) in
    some_passes (λ x. is_open box x && term_has box (val t θ) x) xs t among (rw (shows, can) refl)
  where
    some_passes : (p : Term → Bool) (us : List Term) (u : Term) → Contains us u → p u ≡ true → list_any p us ≡ true
    some_passes p us u (k, h, at) e = list_any-from_Any p us (k, u, h, at, e)

left_iff : (box : List (List ℤ)) (xs : List Term) (taken : List ℤ) (θ : List ℤ) → InBox box θ → All (TermIn (length box)) xs → (t : Term) → Contains (open_terms box xs) t
    → Contains (taken_left box xs taken) (val t θ) ↔ (Contains taken (val t θ) ⊎ Contains (fixed_values box xs) (val t θ))
unfolding taken_left
left_iff box xs taken θ lies inside t has =
    let all = taken ++ fixed_values box xs in
    let both = numbers_have (filter (open_has box xs) all) (val t θ) in (
      (λ h. Contains-append_cases taken (fixed_values box xs) (val t θ) (filter_kept (open_has box xs) all (val t θ) (both.0 h))),
      (λ h. both.1 (filter_has (open_has box xs) all (val t θ) (elim h [ inl a ↦ Contains-append_left taken (fixed_values box xs) (val t θ) a | inr b ↦ Contains-append_right taken (fixed_values box xs) (val t θ) b ]) (open_has_it box xs θ lies inside t has))),
    )

-- none of the values is among some numbers
record Untaken (ts : List Term) (taken : List ℤ) (θ : List ℤ) : Type 0 where
  free : (t : Term) → Contains ts t → Contains taken (val t θ) → ⊥

untaken_of : (ts : List Term) (taken : List ℤ) (θ : List ℤ) → AreUntaken ts taken θ → Untaken ts taken θ
unfolding AreUntaken IsFree
untaken_of ts taken θ all = record { free = λ t has. All-contains (λ t. IsFree taken (val t θ)) ts t all has }

of_untaken : (ts : List Term) (taken : List ℤ) (θ : List ℤ) → Untaken ts taken θ → AreUntaken ts taken θ
unfolding AreUntaken IsFree
of_untaken ts taken θ none = All-weaker (Contains ts) (λ t. IsFree taken (val t θ)) none.free ts (All-contains_itself ts)

record LeftHolds (box : List (List ℤ)) (xs : List Term) (taken : List ℤ) (θ : List ℤ) : Type 0 where
  distinct : Distinct (open_terms box xs) θ
  untaken : Untaken (open_terms box xs) (taken_left box xs taken) θ

record AllHold (xs : List Term) (taken : List ℤ) (θ : List ℤ) : Type 0 where
  distinct : Distinct xs θ
  untaken : Untaken xs taken θ

module _ (box : List (List ℤ)) (xs : List Term) (taken : List ℤ) (θ : List ℤ) (well_formed : IsBox box) (lies : InBox box θ) (inside : All (TermIn (length box)) xs) where
  in_all : (t : Term) → Contains (open_terms box xs) t → Contains xs t
  unfolding open_terms
  in_all t has = filter_kept (is_open box) xs t has

  fixed_term : (z : ℤ) → Contains (fixed_values box xs) z → (t : Term) × Contains (fixed_terms box xs) t × (val t θ ≡ z)
  unfolding fixed_values
  fixed_term z has = let (t, among, is) = map_from (term_low box) (fixed_terms box xs) z has in (t, among, fixed_is box xs θ well_formed lies inside t among ∙ is)

  low_among : (t : Term) → Contains (fixed_terms box xs) t → Contains (fixed_values box xs) (term_low box t)
  unfolding fixed_values
  low_among t has = map_has (term_low box) (fixed_terms box xs) t has

  -- a clash makes it fail
  twice_fails : has_twice (fixed_values box xs) ≡ true → AllHold xs taken θ → ⊥
  twice_fails e all = false≢true (sym (distinct_twice (fixed_values box xs) (distinct_splits box xs θ well_formed lies inside all.distinct).fixed) ∙ e)

  share_fails : share_one (fixed_values box xs) taken ≡ true → AllHold xs taken θ → ⊥
  share_fails e all =
      let (z, one, other) = share_some (fixed_values box xs) taken e in
      let (t, among, is) = fixed_term z one in
      all.untaken.free t (filter_kept (λ t. not (is_open box t)) xs t among) (subst (λ (w : ℤ). Contains taken w) (sym is) other)

  -- else the open members and the taken numbers that are left decide
  left_of_all : AllHold xs taken θ → LeftHolds box xs taken θ
  left_of_all all =
      let splits = distinct_splits box xs θ well_formed lies inside all.distinct in record {
        distinct = differ_pairs (open_terms box xs) θ splits.opens;
        untaken = record {
          free = λ t has left. elim ((left_iff box xs taken θ lies inside t has).0 left) [
            | inl a ↦ all.untaken.free t (in_all t has) a
            | inr b ↦ splits.apart.apart (val t θ) (map_has (λ x. val x θ) (open_terms box xs) t has) b
          ];
        };
      }

  all_of_left : has_twice (fixed_values box xs) ≡ false → share_one (fixed_values box xs) taken ≡ false → LeftHolds box xs taken θ → AllHold xs taken θ
  all_of_left twice share left = record {
    distinct = splits_distinct box xs θ well_formed lies inside (record {
      opens = pairs_differ (open_terms box xs) θ left.distinct;
      fixed = twice_distinct (fixed_values box xs) twice;
      apart = record {
        apart = λ z a b. let (t, has, is) = map_from (λ x. val x θ) (open_terms box xs) z a in
            left.untaken.free t has ((left_iff box xs taken θ lies inside t has).1 (inr (subst (λ (w : ℤ). Contains (fixed_values box xs) w) (sym is) b)));
      };
    });
    untaken = record {
      free = λ t has among. elim (Contains-append_cases (open_terms box xs) (fixed_terms box xs) t (Contains-permutation xs (open_terms box xs ++ fixed_terms box xs) t (parted box xs) has)) [
        | inl shows ↦ left.untaken.free t shows ((left_iff box xs taken θ lies inside t shows).1 (inl among))
        | inr shut ↦ false≢true (sym share ∙ some_share (fixed_values box xs) taken (val t θ) (subst (λ (w : ℤ). Contains (fixed_values box xs) w) (sym (fixed_is box xs θ well_formed lies inside t shut)) (low_among t shut)) among)
      ];
    };
  }

-- one open member, or none, with nothing taken
substituted_holds : (ts : List Term) (taken : List ℤ) (θ : List ℤ) → is_decided ts taken ≡ true → Distinct ts θ × Untaken ts taken θ
substituted_holds [] taken θ e = (record { pairs = λ i j d lt h. absurd (omega (arith, h)) }, record { free = λ t has. absurd (has_no t has) })
substituted_holds (t ∷ []) [] θ e = (record { pairs = λ i j d lt h. absurd (omega (arith, lt, h)) }, record { free = λ u has among. has_no (val u θ) among })
substituted_holds (t ∷ []) (z ∷ zs) θ e = absurd (false≢true e)
substituted_holds (t ∷ u ∷ ts) taken θ e = absurd (false≢true e)

different_by : (box : List (List ℤ)) (xs : List Term) (taken : List ℤ) (θ : List ℤ) → IsBox box → InBox box θ → All (TermIn (length box)) xs
    → (a b c : Bool) → has_twice (fixed_values box xs) ≡ a → share_one (fixed_values box xs) taken ≡ b → is_decided (open_terms box xs) (taken_left box xs taken) ≡ c
    → FormHolds (if a || b then reduced.Is empty_clause else (if c then reduced.Holds else reduced.Is (con.AllDiffExcept (open_terms box xs) (taken_left box xs taken)))) θ ↔ (AreDistinct xs θ × AreUntaken xs taken θ)
unfolding AreDistinct
different_by box xs taken θ well_formed lies inside true b c e f g = ((λ h. absurd (never_holds θ h)), (λ h. absurd (twice_fails box xs taken θ well_formed lies inside e (record { distinct = record { pairs = h.0 }; untaken = untaken_of xs taken θ h.1 }))))
different_by box xs taken θ well_formed lies inside false true c e f g = ((λ h. absurd (never_holds θ h)), (λ h. absurd (share_fails box xs taken θ well_formed lies inside f (record { distinct = record { pairs = h.0 }; untaken = untaken_of xs taken θ h.1 }))))
different_by box xs taken θ well_formed lies inside false false true e f g =
    let both = substituted_holds (open_terms box xs) (taken_left box xs taken) θ g in
    let all = all_of_left box xs taken θ well_formed lies inside e f (record { distinct = both.0; untaken = both.1 }) in
    ((λ _. (all.distinct.pairs, of_untaken xs taken θ all.untaken)), (λ _. tt))
different_by box xs taken θ well_formed lies inside false false false e f g = (
  (λ h. let all = all_of_left box xs taken θ well_formed lies inside e f (record { distinct = record { pairs = h.0 }; untaken = untaken_of (open_terms box xs) (taken_left box xs taken) θ h.1 }) in
      (all.distinct.pairs, of_untaken xs taken θ all.untaken)),
  (λ h. let left = left_of_all box xs taken θ well_formed lies inside (record { distinct = record { pairs = h.0 }; untaken = untaken_of xs taken θ h.1 }) in
      (left.distinct.pairs, of_untaken (open_terms box xs) (taken_left box xs taken) θ left.untaken)),
)

pub different_law : (box : List (List ℤ)) (xs : List Term) (taken : List ℤ) (θ : List ℤ) → IsBox box → InBox box θ → All (TermIn (length box)) xs → FormHolds (all_different_form box xs taken) θ ↔ Holds (con.AllDiffExcept xs taken) θ
unfolding all_different_form
different_law box xs taken θ well_formed lies inside =
    different_by box xs taken θ well_formed lies inside (has_twice (fixed_values box xs)) (share_one (fixed_values box xs) taken) (is_decided (open_terms box xs) (taken_left box xs taken)) refl refl refl

-- ---- what is named
different_names : (box : List (List ℤ)) (xs : List Term) (taken : List ℤ) → FormIsOpen box (all_different_form box xs taken)
unfolding all_different_form
different_names box xs taken =
    let left : FormIsOpen box (reduced.Is (con.AllDiffExcept (open_terms box xs) (taken_left box xs taken))) = record { over = terms_left box xs } in
    one_open box (has_twice (fixed_values box xs) || share_one (fixed_values box xs) taken) (never_open box) (one_open box (is_decided (open_terms box xs) (taken_left box xs taken)) (always_open box) left)

pub different_open : (box : List (List ℤ)) (xs : List Term) (taken : List ℤ) → NamesOpen box (all_different_form box xs taken)
different_open box xs taken = (different_names box xs taken).over

-- ---- what is kept
taken_count : (box : List (List ℤ)) (xs : List Term) (taken : List ℤ) → length (taken_left box xs taken) ≤ length taken + length xs
unfolding taken_left
taken_count box xs taken =
    let all = taken ++ fixed_values box xs in
    omega (arith, rising_count int_cmp (filter (open_has box xs) all), length-filter_both (open_has box xs) (λ z. not (open_has box xs z)) (λ z. refl) all, length-append taken (fixed_values box xs), fewer box xs)

taken_values : (box : List (List ℤ)) (xs : List Term) (taken : List ℤ) → IsBox box → All (TermIn (length box)) xs → All IsValue taken → All IsValue (taken_left box xs taken)
unfolding taken_left
taken_values box xs taken well_formed inside each =
    let all = taken ++ fixed_values box xs in
    let left = filter (open_has box xs) all in
    let both = All-append IsValue taken (fixed_values box xs) each (fixed_within box xs well_formed inside) in
    All-weaker (Contains (rising_by int_cmp left)) IsValue (λ z has. All-contains IsValue all z both (filter_kept (open_has box xs) all z ((numbers_have left z).0 has))) (rising_by int_cmp left) (All-contains_itself (rising_by int_cmp left))

different_fine : (box : List (List ℤ)) (xs : List Term) (taken : List ℤ) → IsBox box → ConInLimits of_model (length box) (con.AllDiffExcept xs taken) → FormIsFit box (all_different_form box xs taken)
unfolding all_different_form
different_fine box xs taken well_formed keeps =
    let left : FormIsFit box (reduced.Is (con.AllDiffExcept (open_terms box xs) (taken_left box xs taken))) = record {
      fine = record {
        kept = (
          record { count = omega (arith, fewer box xs, keeps.0.count); terms = open_in box xs keeps.0.terms },
          record { count = omega (arith, taken_count box xs taken, keeps.0.count, keeps.1.count); values = taken_values box xs taken well_formed keeps.0.terms keeps.1.values },
        );
        booleans = tt;
      };
    } in
    one_fine box (has_twice (fixed_values box xs) || share_one (fixed_values box xs) taken) (never_fine box) (one_fine box (is_decided (open_terms box xs) (taken_left box xs taken)) (always_fine box) left)

pub different_suits : (box : List (List ℤ)) (xs : List Term) (taken : List ℤ) (d : Con) → IsBox box → ConInLimits of_model (length box) (con.AllDiffExcept xs taken) → all_different_form box xs taken ≡ reduced.Is d → FitsBox box d
different_suits box xs taken d well_formed keeps is = (subst (λ (f : Reduced). FormIsFit box f) is (different_fine box xs taken well_formed keeps)).fine
