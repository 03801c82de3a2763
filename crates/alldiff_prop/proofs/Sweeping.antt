-- A look along the spans, one span after the other.
use Rattle.std.proofs.Common.{◌≡◌, ℕ, zero, suc, ◌+◌, ◌<◌, ◌≤◌, List, [], ◌∷◌, ◌++◌, length, take, refl, sym, ap, subst, ◌∙◌, arith, true, false, Bool, cond, inl, inr, below_more}
use Rattle.std.specs.Prelude.{ℤ, pos, ◌≤ℤ◌, ◌<ℤ◌, int_le, filter, slice_index_or, All}
use Rattle.std.proofs.lemmas.Int.{ints, by_lt_z}
use Rattle.std.proofs.lemmas.Bool.{false≢true, cases_lt}
use Rattle.std.proofs.lemmas.List.{get_or_default, get_or-map, length-map, take_all}
use Rattle.std.proofs.lemmas.List.Filters.{length-filter_more}
use Rattle.std.proofs.lemmas.List.Elements.{filter_passes, All-filter, All-map, All-nil, All-push}
use Rattle.std.proofs.lemmas.List.Kept.{AllPairs-filter}
use Rattle.int_domain.proofs.Narrowed.{le_from_test, test_from_le, test_from_gt}
use Rattle.fzn_model.specs.Limits.{IsValue}
use Rattle.dom_store.specs.Strength.{free_count}
use Rattle.alldiff_prop.specs.Rising.{Climbs}
use Rattle.alldiff_prop.specs.declared.sweep.Sweep.{Sweep}
use Rattle.alldiff_prop.specs.Fulls.{AreBetween, AreFullsTo}
use Rattle.alldiff_prop.specs.Spans.{IsSpan, AreOrdered, begun, ends_from, SpanIsClear, AreClearTo, NoneCrosses, IsSwept, IsClearFrom}
use Rattle.alldiff_prop.proofs.Filling.{fulls_none, fulls_pass, fulls_push}
use Rattle.alldiff_prop.proofs.Spanning.{ends_climb}

-- ---- those in front that pass a test
module _ {X : Type 0} (p : X → Bool) where
  passed_same : (xs : List X) (i : ℕ) (d : X) → i < length xs → p (slice_index_or xs i d) ≡ false → length (filter p (take (i + 1) xs)) ≡ length (filter p (take i xs))
  passed_same xs i d h fails = let more = length-filter_more p xs i d h in omega (arith, ap (λ t. length (filter p (take i xs)) + cond t 1 0) fails, more)

  passed_one : (xs : List X) (i : ℕ) (d : X) → i < length xs → p (slice_index_or xs i d) ≡ true → length (filter p (take (i + 1) xs)) ≡ length (filter p (take i xs)) + 1
  passed_one xs i d h passes = let more = length-filter_more p xs i d h in omega (arith, ap (λ t. length (filter p (take i xs)) + cond t 1 0) passes, more)

  place_in : (xs : List X) (i : ℕ) (d : X) → i < length xs → p (slice_index_or xs i d) ≡ true → length (filter p (take i xs)) < length (filter p xs)
  place_in [] i d h is = absurd (omega (arith, h))
  place_in (x ∷ xs) zero d h is = subst (λ t. 0 < length (cond t (x ∷ filter p xs) (filter p xs))) (sym is) (omega arith)
  place_in (x ∷ xs) (suc i) d h is =
      let rest = place_in xs i d (omega (arith, h)) is in
      elim (p x) as (λ t. length (cond t (x ∷ filter p (take i xs)) (filter p (take i xs))) < length (cond t (x ∷ filter p xs) (filter p xs))) [ true ↦ omega (arith, rest) | false ↦ rest ]

  place_is : (xs : List X) (i : ℕ) (d e : X) → i < length xs → p (slice_index_or xs i d) ≡ true → slice_index_or (filter p xs) (length (filter p (take i xs))) e ≡ slice_index_or xs i d
  place_is [] i d e h is = absurd (omega (arith, h))
  place_is (x ∷ xs) zero d e h is = subst (λ t. slice_index_or (cond t (x ∷ filter p xs) (filter p xs)) 0 e ≡ x) (sym is) refl
  place_is (x ∷ xs) (suc i) d e h is =
      let rest = place_is xs i d e (omega (arith, h)) is in
      elim (p x) as (λ t. slice_index_or (cond t (x ∷ filter p xs) (filter p xs)) (length (cond t (x ∷ filter p (take i xs)) (filter p (take i xs)))) e ≡ slice_index_or xs i d) [ true ↦ rest | false ↦ rest ]

-- ---- before the first span
pub swept_none : (taken : List ℤ) (low : ℤ) (spans : List (ℤ × ℤ)) (sweep : Sweep) → sweep.count ≡ 0 → IsSwept taken low spans 0 sweep
unfolding AreClearTo NoneCrosses
swept_none taken low spans sweep is = record {
  fulls = [];
  few = omega (arith, is);
  count = is;
  are = subst (AreFullsTo taken low (ends_from low spans) []) (sym is) (fulls_none taken low (ends_from low spans));
  last = All-nil (λ f. f ≤ℤ sweep.last);
  clear = λ k h d. absurd (omega (arith, h));
  uncrossed = λ e k h d before. absurd (omega (arith, h));
}

-- ---- one span more
module _ (taken : List ℤ) (low : ℤ) (spans : List (ℤ × ℤ)) (i : ℕ) (s : ℤ × ℤ) (old : Sweep) (h : i < length spans) (swept : IsSwept taken low spans i old) where
  here : (d : ℤ × ℤ) → slice_index_or spans i s ≡ slice_index_or spans i d
  here d = get_or_default spans i s d h

  clear_more : (fulls : List ℤ) → AreClearTo low spans fulls i → All (SpanIsClear low (slice_index_or spans i s)) fulls → AreClearTo low spans fulls (i + 1)
  unfolding AreClearTo
  clear_more fulls before now = below_more (λ k. (d : ℤ × ℤ) → All (SpanIsClear low (slice_index_or spans k d)) fulls) i before (λ d. subst (λ (x : ℤ × ℤ). All (SpanIsClear low x) fulls) (here d) now)

  crosses_more : NoneCrosses low spans i → ((slice_index_or spans i s).1 <ℤ low → (slice_index_or spans i s).0 <ℤ low) → NoneCrosses low spans (i + 1)
  unfolding NoneCrosses
  crosses_more before now = below_more (λ k. (d : ℤ × ℤ) → (slice_index_or spans k d).1 <ℤ low → (slice_index_or spans k d).0 <ℤ low) i before (λ d. subst (λ (x : ℤ × ℤ). x.1 <ℤ low → x.0 <ℤ low) (here d) now)

  -- it begins before low
  module _ (before : (slice_index_or spans i s).1 <ℤ low) where
    same_count : length (begun low (take (i + 1) spans)) ≡ length (begun low (take i spans))
    same_count = passed_same (λ x. int_le low x.1) spans i s h (test_from_gt low _ before)

    -- and ends before it
    pub outer_ended : (slice_index_or spans i s).0 <ℤ low → IsSwept taken low spans (i + 1) old
    unfolding SpanIsClear
    outer_ended ended = record {
      fulls = swept.fulls;
      few = omega (arith, swept.few);
      count = swept.count ∙ sym same_count;
      are = swept.are;
      last = swept.last;
      clear = clear_more swept.fulls swept.clear (λ k d g. inr (inl before, inl ended));
      uncrossed = λ e. crosses_more (swept.uncrossed e) (λ b. ended);
    }

    -- or after the last full interval
    pub outer_crossed : (new : Sweep) → new.count ≡ old.count → new.last ≡ old.last → new.crossed ≡ true → old.last <ℤ (slice_index_or spans i s).0 → IsSwept taken low spans (i + 1) new
    unfolding SpanIsClear
    outer_crossed new count last crossed beyond = record {
      fulls = swept.fulls;
      few = omega (arith, swept.few, count);
      count = count ∙ swept.count ∙ sym same_count;
      are = subst (AreFullsTo taken low (ends_from low spans) swept.fulls) (sym count) swept.are;
      last = λ k d g. let up = swept.last k d g in omega (arith, ints, up, last);
      clear = clear_more swept.fulls swept.clear (λ k d g. let up = swept.last k d g in inr (inl before, inr (omega (arith, ints, up, beyond))));
      uncrossed = λ e. absurd (false≢true (sym e ∙ crossed));
    }

  -- it begins at low or after it, and after the last full interval
  module _ (ordered : AreOrdered spans) (from : low ≤ℤ (slice_index_or spans i s).1) (past : old.last <ℤ (slice_index_or spans i s).1) where
    passes : int_le low (slice_index_or spans i s).1 ≡ true
    passes = test_from_le low _ from

    one_count : length (begun low (take (i + 1) spans)) ≡ length (begun low (take i spans)) + 1
    one_count = passed_one (λ x. int_le low x.1) spans i s h passes

    up : (slice_index_or spans i s).1 ≤ℤ (slice_index_or spans i s).0
    up = (ordered.each i s h).order

    place : old.count < length (ends_from low spans)
    place = let inside = place_in (λ x. int_le low x.1) spans i s h passes in omega (arith, inside, swept.count, length-map (begun low spans) (λ (x : ℤ × ℤ). x.0))

    end_is : slice_index_or (ends_from low spans) old.count (pos 0) ≡ (slice_index_or spans i s).0
    end_is =
        let inside = place_in (λ x. int_le low x.1) spans i s h passes in
        let at = place_is (λ x. int_le low x.1) spans i s s h passes in
        ap (λ n. slice_index_or (ends_from low spans) n (pos 0)) swept.count
        ∙ get_or-map (λ (x : ℤ × ℤ). x.0) (begun low spans) (length (begun low (take i spans))) s (pos 0) inside
        ∙ ap (λ (x : ℤ × ℤ). x.0) at

    outside : All (SpanIsClear low (slice_index_or spans i s)) swept.fulls
    unfolding SpanIsClear
    outside k d g = let most = swept.last k d g in let rise = up in inr (inr (omega (arith, ints, most, past)), inr (omega (arith, ints, most, past, rise)))

    -- up to its end there is room for more
    pub inner_roomy : (new : Sweep) → new.count ≡ old.count + 1 → new.last ≡ old.last → new.crossed ≡ old.crossed → old.count + 1 < free_count taken low (slice_index_or spans i s).0 → IsSwept taken low spans (i + 1) new
    inner_roomy new count last crossed roomy =
        let room : old.count + 1 < free_count taken low (slice_index_or (ends_from low spans) old.count (pos 0)) = subst (λ (z : ℤ). old.count + 1 < free_count taken low z) (sym end_is) roomy in
        record {
          fulls = swept.fulls;
          few = omega (arith, swept.few, count);
          count = count ∙ ap (λ n. n + 1) swept.count ∙ sym one_count;
          are = subst (AreFullsTo taken low (ends_from low spans) swept.fulls) (sym count) (fulls_pass taken low (ends_from low spans) swept.fulls old.count swept.are room);
          last = λ k d g. let most = swept.last k d g in omega (arith, ints, most, last);
          clear = clear_more swept.fulls swept.clear outside;
          uncrossed = λ e. crosses_more (swept.uncrossed (sym crossed ∙ e)) (λ b. absurd (omega (arith, ints, b, from)));
        }

    -- up to its end there is none
    climbs : Climbs (ends_from low spans)
    unfolding Climbs
    climbs = ends_climb (begun low spans) (AllPairs-filter (λ x y. x.0 ≤ℤ y.0) (λ x. int_le low x.1) spans ordered.climbs)

    between : AreBetween low (ends_from low spans)
    between =
        let each = All-filter (λ x. int_le low x.1) IsSpan spans ordered.each in
        let tests = filter_passes (λ x. int_le low x.1) spans in
        record {
          from = All-map (λ z. low ≤ℤ z) (λ x. x.0) (begun low spans) (λ k d g. let begins = le_from_test low _ (tests k d g) in let rise = (each k d g).order in omega (arith, ints, begins, rise));
          values = All-map IsValue (λ x. x.0) (begun low spans) (λ k d g. (each k d g).high);
        }

    -- the spans so far lie within low and its end, or end before low
    earlier : NoneCrosses low spans i → (k : ℕ) → k < i + 1 → (d : ℤ × ℤ) → SpanIsClear low (slice_index_or spans k d) (slice_index_or spans i s).0
    unfolding SpanIsClear NoneCrosses
    earlier none k g d = by_lt_z (slice_index_or spans k d).1 low
        (λ begins. elim (cases_lt k i) [
          | inl less ↦ let ends = none k less d begins in inr (inl begins, inl ends)
          | inr more ↦ let same : slice_index_or spans i s ≡ slice_index_or spans k d = here d ∙ ap (λ j. slice_index_or spans j d) (last_place k g more) in absurd (omega (arith, ints, from, begins, ap (λ (x : ℤ × ℤ). x.1) same))
        ])
        (λ begins. elim (cases_lt k i) [
          | inl less ↦ let rise = ordered.climbs k i d less h in let same = ap (λ (x : ℤ × ℤ). x.0) (here d) in inl (begins, omega (arith, ints, rise, same))
          | inr more ↦ let same : slice_index_or spans i s ≡ slice_index_or spans k d = here d ∙ ap (λ j. slice_index_or spans j d) (last_place k g more) in inl (begins, omega (arith, ints, ap (λ (x : ℤ × ℤ). x.0) same))
        ])
      where
        last_place : (k : ℕ) → k < i + 1 → i ≤ k → i ≡ k
        last_place k g more = omega (arith, g, more)

    pub inner_full : (new : Sweep) → new.count ≡ old.count + 1 → new.last ≡ (slice_index_or spans i s).0 → old.crossed ≡ false → old.count + 1 ≡ free_count taken low (slice_index_or spans i s).0 → IsSwept taken low spans (i + 1) new
    unfolding AreClearTo
    inner_full new count last crossed full =
        let end : ℤ = slice_index_or (ends_from low spans) old.count (pos 0) in
        let room : old.count + 1 ≡ free_count taken low end = full ∙ ap (free_count taken low) (sym end_is) in
        let rise = up in
        let is = end_is in
        let before = clear_more swept.fulls swept.clear outside in
        let none = swept.uncrossed crossed in
        record {
          fulls = swept.fulls ++ end ∷ [];
          few = omega (arith, swept.few, count);
          count = count ∙ ap (λ n. n + 1) swept.count ∙ sym one_count;
          are = subst (AreFullsTo taken low (ends_from low spans) (swept.fulls ++ end ∷ [])) (sym count) (fulls_push taken low (ends_from low spans) swept.fulls old.count swept.are place climbs between room);
          last = All-push (λ f. f ≤ℤ new.last) swept.fulls end (λ k d g. let most = swept.last k d g in omega (arith, ints, most, past, rise, last)) (omega (arith, ints, is, last));
          clear = λ k g d. All-push (SpanIsClear low (slice_index_or spans k d)) swept.fulls end (before k g d) (subst (SpanIsClear low (slice_index_or spans k d)) (sym is) (earlier none k g d));
          uncrossed = λ e. crosses_more none (λ b. absurd (omega (arith, ints, b, from)));
        }

-- ---- after the last
pub swept_all : (taken : List ℤ) (low : ℤ) (spans : List (ℤ × ℤ)) (n : ℕ) (sweep : Sweep) → length spans ≤ n → IsSwept taken low spans n sweep → IsClearFrom taken low spans
unfolding AreClearTo
swept_all taken low spans n sweep far swept =
    let count : sweep.count ≡ length (ends_from low spans) = swept.count ∙ ap (λ (l : List (ℤ × ℤ)). length (begun low l)) (take_all n spans far) ∙ sym (length-map (begun low spans) (λ (x : ℤ × ℤ). x.0)) in
    record {
      fulls = swept.fulls;
      are = subst (AreFullsTo taken low (ends_from low spans) swept.fulls) count swept.are;
      clear = λ k h d. swept.clear k (omega (arith, h, far)) d;
    }
