-- The bounds of all members, in the order of their greatest values.
use Rattle.std.proofs.Common.{◌≡◌, ℕ, suc, ◌+◌, ◌<◌, List, [], ◌∷◌, ◌++◌, length, take, refl, sym, ap, subst, ◌∙◌, arith, true, false, Bool, cond, map, inl, inr}
use Rattle.std.specs.Prelude.{ℤ, ◌≤ℤ◌, int_le, ◌&&◌, filter, slice_index_or, All, AllPairs, Contains}
use Rattle.std.specs.List.Sorted.{IsPermutation, IsSorted}
use Rattle.std.specs.Ordering.{int_cmp, ordering_then, is_lt}
use Rattle.std.specs.Cmp.{int_ranks}
use Rattle.std.proofs.lemmas.Int.{ints}
use Rattle.std.proofs.lemmas.Bool.{false≢true}
use Rattle.std.proofs.lemmas.Cmp.{int_cmp_total, then_total, on_total, by_ranked}
use Rattle.std.proofs.lemmas.List.{get_or-map, length-map, map_more}
use Rattle.std.proofs.lemmas.List.Elements.{filter_passes, All-filter, All-map}
use Rattle.std.proofs.lemmas.List.Kept.{AllPairs-filter}
use Rattle.std.proofs.lemmas.List.Sorted.{sorted_far, ranks_by, All-permutation, Contains-permutation}
use Rattle.int_domain.proofs.Narrowed.{le_from_test}
use Rattle.fzn_model.specs.declared.term.Term.{Term}
use Rattle.fzn_model.specs.Limits.{IsValue}
use Rattle.fzn_model.specs.Bounds.{term_low, term_high}
use Rattle.fzn_model.proofs.Terms.{low_to_high, has_high, has_value}
use Rattle.dom_store.specs.Strength.{is_inside, inside_count}
use Rattle.dom_store.specs.Steps.{EachTo}
use Rattle.alldiff_prop.specs.Rising.{Climbs, how_many_to}
use Rattle.alldiff_prop.specs.Members.{IsReady}
use Rattle.alldiff_prop.specs.Highs.{IsHighs}
use Rattle.alldiff_prop.specs.Halls.{IsClear, IsApart, IsNarrowedFrom}
use Rattle.alldiff_prop.specs.Spans.{span_of, IsSpan, AreSpans, begun, ends_from, SpanIsClear, AreClearTo, IsClearFrom}
use Rattle.alldiff_prop.proofs.Counting.{passed_moved}
use Rattle.alldiff_prop.proofs.Crowding.{is_inside_from}
use Rattle.alldiff_prop.proofs.Intervals.{intervals_hold}

-- one member more
pub spans_more : (box : List (List ℤ)) (xs : List Term) (i : ℕ) (d : Term) → i < length xs → map (span_of box) (take (i + 1) xs) ≡ map (span_of box) (take i xs) ++ span_of box (slice_index_or xs i d) ∷ []
spans_more box xs i d h = map_more (span_of box) xs i d h

-- ---- what a sort leaves
not_less_first : (a b c d : ℤ) → is_lt (ordering_then (int_cmp a b) (int_cmp c d)) ≡ false → b ≤ℤ a
not_less_first a b c d e = by_ranked _ _ _ (int_cmp a b) (int_ranks a b)
    (λ is less. absurd (false≢true (sym e ∙ ap (λ o. is_lt (ordering_then o (int_cmp c d))) is)))
    (λ is same. omega (arith, ints, same))
    (λ is more. omega (arith, ints, more))

spans_climb : (spans : List (ℤ × ℤ)) → IsSorted (λ x y. ordering_then (int_cmp x.0 y.0) (int_cmp x.1 y.1)) spans → AllPairs (λ s t. s.0 ≤ℤ t.0) spans
spans_climb spans sorted i j d less h =
    not_less_first (slice_index_or spans j d).0 (slice_index_or spans i d).0 (slice_index_or spans j d).1 (slice_index_or spans i d).1 (sorted_far (λ (x y : ℤ × ℤ). is_lt (ordering_then (int_cmp x.0 y.0) (int_cmp x.1 y.1))) (ranks_by (then_total (on_total (λ (t : ℤ × ℤ). t.0) int_cmp_total) (on_total (λ (t : ℤ × ℤ). t.1) int_cmp_total)) (λ x. x)) spans sorted i j d (omega (arith, less)) h)

span_values : (box : List (List ℤ)) (xs : List Term) → IsReady box xs → All IsSpan (map (span_of box) xs)
span_values box xs ready = All-map IsSpan (span_of box) xs (λ k d h. record {
  order = low_to_high box _ ready.well_formed (ready.terms k d h);
  high = has_value box _ _ ready.well_formed (ready.terms k d h) (has_high box _ ready.well_formed (ready.terms k d h));
})

pub spans_are : (box : List (List ℤ)) (xs : List Term) (gathered sorted : List (ℤ × ℤ)) → IsReady box xs → gathered ≡ map (span_of box) xs → IsPermutation gathered sorted → IsSorted (λ x y. ordering_then (int_cmp x.0 y.0) (int_cmp x.1 y.1)) sorted → AreSpans box xs sorted
spans_are box xs gathered sorted ready is moved order =
    let from : IsPermutation (map (span_of box) xs) sorted = subst (λ l. IsPermutation l sorted) is moved in
    record {
      ordered = record { climbs = spans_climb sorted order; each = All-permutation IsSpan (map (span_of box) xs) sorted from (span_values box xs ready) };
      moved = from;
    }

-- ---- the greatest values of those that begin at low or after it
both_count : (low high : ℤ) (s : ℤ × ℤ) (t : Bool) (ps qs : List (ℤ × ℤ)) → length ps ≡ length (filter (λ y. int_le y high) (map (λ s. s.0) qs))
    → length (cond (t && int_le s.0 high) (s ∷ ps) ps) ≡ length (filter (λ y. int_le y high) (map (λ s. s.0) (cond t (s ∷ qs) qs)))
both_count low high s true ps qs same = elim (int_le s.0 high) as (λ t. length (cond t (s ∷ ps) ps) ≡ length (cond t (s.0 ∷ filter (λ y. int_le y high) (map (λ s. s.0) qs)) (filter (λ y. int_le y high) (map (λ s. s.0) qs)))) [ true ↦ ap suc same | false ↦ same ]
both_count low high s false ps qs same = same

both_counts : (low high : ℤ) (spans : List (ℤ × ℤ)) → length (filter (λ s. int_le low s.1 && int_le s.0 high) spans) ≡ length (filter (λ y. int_le y high) (ends_from low spans))
both_counts low high [] = refl
both_counts low high (s ∷ spans) = both_count low high s (int_le low s.1) _ (filter (λ s. int_le low s.1) spans) (both_counts low high spans)

member_counts : (box : List (List ℤ)) (low high : ℤ) (xs : List Term) → inside_count box low high xs ≡ length (filter (λ s. int_le low s.1 && int_le s.0 high) (map (span_of box) xs))
member_counts box low high [] = refl
member_counts box low high (x ∷ xs) =
    elim (int_le low (term_low box x) && int_le (term_high box x) high) as (λ t. length (cond t (x ∷ filter (is_inside box low high) xs) (filter (is_inside box low high) xs)) ≡ length (cond t (span_of box x ∷ filter (λ s. int_le low s.1 && int_le s.0 high) (map (span_of box) xs)) (filter (λ s. int_le low s.1 && int_le s.0 high) (map (span_of box) xs))))
    [ true ↦ ap suc (member_counts box low high xs) | false ↦ member_counts box low high xs ]

pub ends_climb : (spans : List (ℤ × ℤ)) → AllPairs (λ s t. s.0 ≤ℤ t.0) spans → AllPairs (λ x y. x ≤ℤ y) (map (λ s. s.0) spans)
ends_climb spans climbs i j d less h =
    let inside : j < length spans = omega (arith, h, length-map spans (λ (s : ℤ × ℤ). s.0)) in
    let first : slice_index_or (map (λ (s : ℤ × ℤ). s.0) spans) i d ≡ (slice_index_or spans i (d, d)).0 = get_or-map (λ (s : ℤ × ℤ). s.0) spans i (d, d) d (omega (arith, less, inside)) in
    let second : slice_index_or (map (λ (s : ℤ × ℤ). s.0) spans) j d ≡ (slice_index_or spans j (d, d)).0 = get_or-map (λ (s : ℤ × ℤ). s.0) spans j (d, d) d inside in
    let up = climbs i j (d, d) less inside in
    omega (arith, ints, first, second, up)

pub spans_highs : (box : List (List ℤ)) (xs : List Term) (low : ℤ) (spans : List (ℤ × ℤ)) → AreSpans box xs spans → IsHighs box xs low (ends_from low spans)
unfolding Climbs how_many_to
spans_highs box xs low spans are =
    let each = All-filter (λ s. int_le low s.1) IsSpan spans are.ordered.each in
    let passes = filter_passes (λ s. int_le low s.1) spans in
    record {
      climbs = ends_climb (begun low spans) (AllPairs-filter (λ s t. s.0 ≤ℤ t.0) (λ s. int_le low s.1) spans are.ordered.climbs);
      counts = λ high. member_counts box low high xs ∙ sym (passed_moved (λ s. int_le low s.1 && int_le s.0 high) (map (span_of box) xs) spans are.moved) ∙ both_counts low high spans;
      between = record {
        from = All-map (λ z. low ≤ℤ z) (λ s. s.0) (begun low spans) (λ k d h. let from = le_from_test low _ (passes k d h) in let up = (each k d h).order in omega (arith, ints, from, up));
        values = All-map IsValue (λ s. s.0) (begun low spans) (λ k d h. (each k d h).high);
      };
    }

-- ---- members that are clear
spanned_at : (box : List (List ℤ)) (xs : List Term) (k : ℕ) (d : Term) → k < length xs → Contains (map (span_of box) xs) (span_of box (slice_index_or xs k d))
spanned_at box xs k d h = (
  k,
  omega (arith, h, length-map xs (span_of box)),
  get_or-map (span_of box) xs k d _ h,
)

clear_apart : (box : List (List ℤ)) (xs : List Term) (low : ℤ) (spans : List (ℤ × ℤ)) (fulls : List ℤ) → AreSpans box xs spans → AreClearTo low spans fulls (length spans) → EachTo (IsApart low fulls) xs (length xs) box
unfolding EachTo IsApart IsClear AreClearTo SpanIsClear
clear_apart box xs low spans fulls are clear k d h i e g =
    let x : Term = slice_index_or xs k d in
    let at : Contains spans (span_of box x) = Contains-permutation (map (span_of box) xs) spans (span_of box x) are.moved (spanned_at box xs k d h) in
    elim (subst (λ (s : ℤ × ℤ). SpanIsClear low s (slice_index_or fulls i e)) at.2 (clear at.0 at.1 (span_of box x) i e g)) [
      | inl within ↦ inl (is_inside_from box low (slice_index_or fulls i e) x within.0 within.1)
      | inr outside ↦ inr outside
    ]

pub clear_from : (box : List (List ℤ)) (xs : List Term) (taken : List ℤ) (low : ℤ) (spans : List (ℤ × ℤ)) → AreSpans box xs spans → IsClearFrom taken low spans → IsNarrowedFrom xs taken low box
clear_from box xs taken low spans are clear = intervals_hold box xs taken low (ends_from low spans) clear.fulls (spans_highs box xs low spans are) clear.are (clear_apart box xs low spans clear.fulls are clear.clear)
