-- The bounds of all members.
use Rattle.std.proofs.Common.{◌≡◌, ℕ, suc, ◌+◌, ◌<◌, List, [], ◌∷◌, ◌++◌, length, take, refl, sym, ap, subst, ◌∙◌, arith, true, false, Bool, cond, map}
use Rattle.std.specs.Prelude.{ℤ, ◌≤ℤ◌, ◌<ℤ◌, int_le, ◌&&◌, filter, slice_index_or, All, Contains}
use Rattle.std.specs.List.Sorted.{IsPermutation, IsSorted}
use Rattle.std.specs.Ordering.{int_cmp}
use Rattle.std.proofs.lemmas.Int.{ints}
use Rattle.std.proofs.lemmas.List.{get_or_default, length-map, take_more, map-append, append-nil}
use Rattle.std.proofs.Math.ListN.{get_or-map}
use Rattle.std.proofs.lemmas.List.Elements.{filter_more, filter_passes, All-filter, All-map, All-contains, Contains-get_or}
use Rattle.std.proofs.lemmas.List.Sorted.{All-permutation}
use Rattle.int_domain.proofs.Narrowed.{le_from_test, test_from_le, test_from_gt}
use Rattle.fzn_model.specs.declared.term.Term.{Term}
use Rattle.fzn_model.specs.Limits.{TermIn, IsValue}
use Rattle.fzn_model.specs.Bounds.{term_low, term_high}
use Rattle.dom_store.specs.Strength.{inside_count}
use Rattle.fzn_model.proofs.Terms.{low_to_high, has_low, has_high, has_value}
use Rattle.alldiff_prop.specs.Rising.{IsRising, how_many_to}
use Rattle.alldiff_prop.specs.Members.{IsReady}
use Rattle.alldiff_prop.specs.Fulls.{AreBetween}
use Rattle.alldiff_prop.specs.Highs.{highs_of, IsHighs, AreLows}
use Rattle.alldiff_prop.proofs.Counting.{passed_moved}
use Rattle.alldiff_prop.proofs.Sorting.{sorted_climbs}

-- one member more
pub highs_more : (box : List (List ℤ)) (low : ℤ) (xs : List Term) (i : ℕ) (d : Term) → i < length xs → low ≤ℤ term_low box (slice_index_or xs i d) → highs_of box low (take (i + 1) xs) ≡ highs_of box low (take i xs) ++ term_high box (slice_index_or xs i d) ∷ []
highs_more box low xs i d h from =
    let passes = test_from_le low (term_low box (slice_index_or xs i d)) from in
    let more = filter_more (λ x. int_le low (term_low box x)) xs i d h in
    ap (map (term_high box)) (more ∙ ap (λ t. filter (λ x. int_le low (term_low box x)) (take i xs) ++ cond t (slice_index_or xs i d ∷ []) []) passes) ∙ map-append (term_high box) (filter (λ x. int_le low (term_low box x)) (take i xs)) (slice_index_or xs i d ∷ [])

pub highs_pass : (box : List (List ℤ)) (low : ℤ) (xs : List Term) (i : ℕ) (d : Term) → i < length xs → term_low box (slice_index_or xs i d) <ℤ low → highs_of box low (take (i + 1) xs) ≡ highs_of box low (take i xs)
highs_pass box low xs i d h below =
    let fails = test_from_gt low (term_low box (slice_index_or xs i d)) below in
    let more = filter_more (λ x. int_le low (term_low box x)) xs i d h in
    ap (map (term_high box)) (more ∙ ap (λ t. filter (λ x. int_le low (term_low box x)) (take i xs) ++ cond t (slice_index_or xs i d ∷ []) []) fails ∙ append-nil (filter (λ x. int_le low (term_low box x)) (take i xs)))

pub lows_more : (box : List (List ℤ)) (xs : List Term) (i : ℕ) (d : Term) → i < length xs → map (term_low box) (take (i + 1) xs) ≡ map (term_low box) (take i xs) ++ term_low box (slice_index_or xs i d) ∷ []
lows_more box xs i d h = ap (map (term_low box)) (take_more xs i d h) ∙ map-append (term_low box) (take i xs) (slice_index_or xs i d ∷ [])

-- ---- as many are at most a number as members lie from low to it
counts_by : (high z : ℤ) (x : Term) (s : Bool) (ps : List Term) (qs : List Term) (f : Term → ℤ) → z ≡ f x → length ps ≡ length (filter (λ y. int_le y high) (map f qs))
    → length (cond (s && int_le z high) (x ∷ ps) ps) ≡ length (filter (λ y. int_le y high) (map f (cond s (x ∷ qs) qs)))
counts_by high z x true ps qs f is same = subst (λ y. length (cond (int_le y high) (x ∷ ps) ps) ≡ length (cond (int_le (f x) high) (f x ∷ filter (λ y. int_le y high) (map f qs)) (filter (λ y. int_le y high) (map f qs)))) (sym is)
    (elim (int_le (f x) high) as (λ t. length (cond t (x ∷ ps) ps) ≡ length (cond t (f x ∷ filter (λ y. int_le y high) (map f qs)) (filter (λ y. int_le y high) (map f qs)))) [ true ↦ ap suc same | false ↦ same ])
counts_by high z x false ps qs f is same = same

pub inside_counts : (box : List (List ℤ)) (low high : ℤ) (xs : List Term) → inside_count box low high xs ≡ length (filter (λ y. int_le y high) (highs_of box low xs))
inside_counts box low high [] = refl
inside_counts box low high (x ∷ xs) = counts_by high (term_high box x) x (int_le low (term_low box x)) _ (filter (λ x. int_le low (term_low box x)) xs) (term_high box) refl (inside_counts box low high xs)

pub highs_between : (box : List (List ℤ)) (low : ℤ) (xs : List Term) → IsReady box xs → AreBetween low (highs_of box low xs)
highs_between box low xs ready =
    let passes = filter_passes (λ x. int_le low (term_low box x)) xs in
    let inside = All-filter (λ x. int_le low (term_low box x)) (TermIn (length box)) xs ready.terms in
    record {
      from = All-map (λ z. low ≤ℤ z) (term_high box) (filter (λ x. int_le low (term_low box x)) xs) (λ k d h.
          let from = le_from_test low _ (passes k d h) in
          let ordered = low_to_high box _ ready.well_formed (inside k d h) in
          omega (arith, ints, from, ordered));
      values = All-map IsValue (term_high box) (filter (λ x. int_le low (term_low box x)) xs) (λ k d h. has_value box _ _ ready.well_formed (inside k d h) (has_high box _ ready.well_formed (inside k d h)));
    }

pub highs_are : (box : List (List ℤ)) (low : ℤ) (xs : List Term) (gathered sorted : List ℤ) → IsReady box xs → gathered ≡ highs_of box low xs → IsPermutation gathered sorted → IsSorted int_cmp sorted → IsHighs box xs low sorted
unfolding how_many_to
highs_are box low xs gathered sorted ready is moved order =
    let between : AreBetween low gathered = subst (AreBetween low) (sym is) (highs_between box low xs ready) in
    record {
      climbs = sorted_climbs sorted order;
      counts = λ high. inside_counts box low high xs ∙ ap (λ l. length (filter (λ y. int_le y high) l)) (sym is) ∙ sym (passed_moved (λ y. int_le y high) gathered sorted moved);
      between = record {
        from = All-permutation (λ z. low ≤ℤ z) gathered sorted moved between.from;
        values = All-permutation IsValue gathered sorted moved between.values;
      };
    }

mapped_at : (f : Term → ℤ) (xs : List Term) (k : ℕ) (d : Term) → k < length xs → Contains (map f xs) (f (slice_index_or xs k d))
mapped_at f xs k d h = (
  k,
  omega (arith, h, length-map xs f),
  get_or-map f xs k (slice_index_or xs k d) ∙ ap f (get_or_default xs k (slice_index_or xs k d) d h),
)

pub lows_are : (box : List (List ℤ)) (xs : List Term) (gathered lows : List ℤ) → IsReady box xs → gathered ≡ map (term_low box) xs → IsRising gathered lows → AreLows box xs lows
lows_are box xs gathered lows ready is rising =
    let values : All IsValue gathered = subst (All IsValue) (sym is) (All-map IsValue (term_low box) xs (λ k d h. has_value box _ _ ready.well_formed (ready.terms k d h) (has_low box _ ready.well_formed (ready.terms k d h)))) in
    record {
      values = λ k d h. All-contains IsValue gathered _ values (rising.from _ (Contains-get_or lows k d h));
      all = λ k d h. rising.has _ (subst (λ l. Contains l (term_low box (slice_index_or xs k d))) (sym is) (mapped_at (term_low box) xs k d h));
    }
