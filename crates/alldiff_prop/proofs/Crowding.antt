-- Members within an interval take its free numbers away from all others.
use Rattle.std.proofs.Common.{◌≡◌, ℕ, zero, suc, ◌+◌, ◌<◌, ◌≤◌, ◌⊎◌, List, [], ◌∷◌, length, sym, ap, subst, ◌∙◌, arith, inl, inr, true, false, Bool, cond, map}
use Rattle.std.specs.Prelude.{ℤ, pos, ◌≤ℤ◌, ◌<ℤ◌, int_le, filter, slice_index_or, AllPairs, Contains}
use Rattle.std.specs.List.{IsDistinct}
use Rattle.std.specs.Ordering.{int_eq}
use Rattle.std.proofs.lemmas.Int.{ints, by_lt_z}
use Rattle.std.proofs.lemmas.Bool.{false≢true, and_parts, and_from, cases_order, cases_lt}
use Rattle.std.proofs.lemmas.List.{get_or_default, length-map}
use Rattle.int_domain.proofs.Members.{Has}
use Rattle.int_domain.proofs.Narrowed.{le_from_test, test_from_le}
use Rattle.fzn_model.specs.declared.term.Term.{Term}
use Rattle.fzn_model.specs.declared.term.Term.TheVariants as term
use Rattle.fzn_model.specs.declared.con.Con.TheVariants as con
use Rattle.fzn_model.specs.Meaning.{val, Holds, AreDistinct, AreUntaken, IsFree}
use Rattle.fzn_model.specs.Boxes.{IsBox, InBox}
use Rattle.dom_store.specs.Stores.{Stored}
use Rattle.dom_store.specs.Narrowing.{HasNone, Prunes}
use Rattle.fzn_model.specs.Bounds.{term_low, term_high}
use Rattle.dom_store.specs.Strength.{is_inside, inside_count, free_count}
use Rattle.fzn_model.proofs.Pigeons.{distinct_none}
use Rattle.fzn_model.proofs.Terms.{val_low, val_high}
use Rattle.dom_store.proofs.Laws.{low_rises, high_falls}
use Rattle.alldiff_prop.specs.Rising.{Climbs, how_many_to}
use Rattle.alldiff_prop.specs.Members.{IsReady}
use Rattle.alldiff_prop.specs.Highs.{IsHighs}
use Rattle.alldiff_prop.specs.Fulls.{HasOverfull, AreFullsTo}
use Rattle.alldiff_prop.specs.Halls.{AreFull}
use Rattle.alldiff_prop.proofs.Pigeons.{has_more}
use Rattle.alldiff_prop.proofs.Counting.{found, front_passes, fewer}
use Rattle.alldiff_prop.proofs.Free.{free_fits, free_filled}

-- what the test says
pub inside_is : (box : List (List ℤ)) (low high : ℤ) (t : Term) → is_inside box low high t ≡ true → (low ≤ℤ term_low box t) × (term_high box t ≤ℤ high)
inside_is box low high t is =
    let both = and_parts (int_le low (term_low box t)) (int_le (term_high box t) high) is in
    (le_from_test low (term_low box t) both.0, le_from_test (term_high box t) high both.1)

pub is_inside_from : (box : List (List ℤ)) (low high : ℤ) (t : Term) → low ≤ℤ term_low box t → term_high box t ≤ℤ high → is_inside box low high t ≡ true
is_inside_from box low high t from to = and_from (int_le low (term_low box t)) (int_le (term_high box t) high) (test_from_le low (term_low box t) from) (test_from_le (term_high box t) high to)

-- values that differ in pairs still do where some members are left out
values_by : (p : Term → Bool) (θ : List ℤ) (x : Term) (xs : List Term) (t : Bool) → ((Has (val x θ) (map (λ y. val y θ) (filter p xs))) → ⊥) → IsDistinct int_eq (map (λ y. val y θ) (filter p xs)) → IsDistinct int_eq (map (λ y. val y θ) (cond t (x ∷ filter p xs) (filter p xs)))
values_by p θ x xs true new rest = has_more (val x θ) (map (λ y. val y θ) (filter p xs)) new rest
values_by p θ x xs false new rest = rest

values_apart : (p : Term → Bool) (θ : List ℤ) (xs : List Term) → AllPairs (λ x y. val x θ ≡ val y θ → ⊥) xs → IsDistinct int_eq (map (λ y. val y θ) (filter p xs))
values_apart p θ [] apart = distinct_none
values_apart p θ (x ∷ xs) apart =
    values_by p θ x xs (p x)
    (λ h. let at = found p (λ y. val y θ) xs (val x θ) h in apart zero (suc at.0) x (omega arith) (omega (arith, at.1)) (sym (at.2 x)))
    (values_apart p θ xs (λ i j d less h. apart (suc i) (suc j) d (omega (arith, less)) (omega (arith, h))))

module _ (box : List (List ℤ)) (xs : List Term) (taken : List ℤ) (low high : ℤ) (θ : List ℤ) (ready : IsReady box xs) (lies : InBox box θ) (holds : Holds (con.AllDiffExcept xs taken) θ) where
  -- the values of the members within the interval
  abbrev values_within : List ℤ
  values_within = map (λ y. val y θ) (filter (is_inside box low high) xs)

  within_apart : IsDistinct int_eq values_within
  unfolding AreDistinct
  within_apart = values_apart (is_inside box low high) θ xs holds.0

  within_count : length values_within ≡ inside_count box low high xs
  within_count = length-map (filter (is_inside box low high) xs) (λ y. val y θ)

  free_value : (k : ℕ) (d : Term) → k < length xs → Contains taken (val (slice_index_or xs k d) θ) → ⊥
  unfolding AreUntaken IsFree
  free_value k d h = holds.1 k d h

  within_free : (v : ℤ) → Has v values_within → (low ≤ℤ v) × (v ≤ℤ high) × (Contains taken v → ⊥)
  within_free v h =
      let at = found (is_inside box low high) (λ y. val y θ) xs v h in
      let x : Term = slice_index_or xs at.0 (term.Const (pos 0)) in
      let is : val x θ ≡ v = at.2 (term.Const (pos 0)) in
      let inside = inside_is box low high x (at.3 (term.Const (pos 0))) in
      let from = val_low box x θ ready.well_formed (ready.terms at.0 (term.Const (pos 0)) at.1) lies in
      let to = val_high box x θ ready.well_formed (ready.terms at.0 (term.Const (pos 0)) at.1) lies in
      (omega (arith, ints, is, inside, from), omega (arith, ints, is, inside, to), subst (λ w. Contains taken w → ⊥) is (free_value at.0 (term.Const (pos 0)) at.1))

  -- there are at most as many as free numbers
  pub inside_fits : inside_count box low high xs ≤ free_count taken low high
  inside_fits =
      let fits = free_fits taken low high values_within within_apart within_free in
      let count = within_count in
      omega (arith, fits, count)

  not_within : (t : Term) → Contains xs t → is_inside box low high t ≡ false → Has (val t θ) values_within → ⊥
  unfolding AreDistinct
  not_within t (i, h, e) outside has =
      let at = found (is_inside box low high) (λ y. val y θ) xs (val t θ) has in
      elim (cases_order i at.0) [
        | inl same ↦ absurd (false≢true (sym outside ∙ ap (is_inside box low high) (sym e) ∙ ap (λ k. is_inside box low high (slice_index_or xs k t)) same ∙ at.3 t))
        | inr apart ↦ elim apart [
          | inl less ↦ holds.0 i at.0 t less at.1 (ap (λ y. val y θ) e ∙ sym (at.2 t))
          | inr more ↦ holds.0 at.0 i t more h (at.2 t ∙ ap (λ y. val y θ) (sym e))
        ]
      ]

  -- a member that isn't one of them, where they are as many as free numbers, has its value outside
  pub outside_full : (t : Term) → free_count taken low high ≤ inside_count box low high xs → Contains xs t → is_inside box low high t ≡ false → (val t θ <ℤ low) ⊎ (high <ℤ val t θ)
  outside_full t many at outside =
      let count = within_count in
      by_lt_z (val t θ) low
      (λ below. inl below)
      (λ from. by_lt_z high (val t θ)
      (λ above. inr above)
      (λ to. absurd (free_filled taken low high values_within (val t θ) within_apart within_free (omega (arith, many, count)) from to
      (subst (λ y. Contains taken (val y θ) → ⊥) at.2 (free_value at.0 t at.1)) (not_within t at outside))))

-- up to the one in a place there are as many members as places
pub places_to : (box : List (List ℤ)) (xs : List Term) (low : ℤ) (highs : List ℤ) (k : ℕ) → IsHighs box xs low highs → k < length highs → k + 1 ≤ inside_count box low (slice_index_or highs k (pos 0)) xs
unfolding how_many_to Climbs
places_to box xs low highs k are h =
    let high : ℤ = slice_index_or highs k (pos 0) in
    let counts = are.counts high in
    let front = front_passes (λ z. int_le z high) highs (k + 1) (omega (arith, h)) (λ i d less. test_from_le (slice_index_or highs i d) high (at_most i d less)) in
    omega (arith, counts, front)
  where
    at_most : (i : ℕ) (d : ℤ) → i < k + 1 → slice_index_or highs i d ≤ℤ slice_index_or highs k (pos 0)
    at_most i d less =
        let same = get_or_default highs i d (pos 0) (omega (arith, less, h)) in
        elim (cases_lt i k) [
          | inl before ↦ let up = are.climbs i k (pos 0) before h in omega (arith, ints, up, same)
          | inr over ↦ let here : i ≡ k = omega (arith, less, over) in let is = ap (λ j. slice_index_or highs j (pos 0)) here in omega (arith, ints, same, is)
        ]

-- more places than free numbers: no assignment
pub overfull_none : (box : List (List ℤ)) (xs : List Term) (taken : List ℤ) (low : ℤ) (highs : List ℤ) → IsReady box xs → IsHighs box xs low highs → HasOverfull taken low highs → HasNone (Holds (con.AllDiffExcept xs taken)) box
unfolding HasOverfull
overfull_none box xs taken low highs ready are (k, h, over) θ lies holds =
    let fits = inside_fits box xs taken low (slice_index_or highs k (pos 0)) θ ready lies holds in
    let many = places_to box xs low highs k are h in
    absurd (omega (arith, fits, many, over))

-- what the places say of the members
pub fulls_full : (box : List (List ℤ)) (xs : List Term) (taken : List ℤ) (low : ℤ) (highs fulls : List ℤ) → IsHighs box xs low highs → AreFullsTo taken low highs fulls (length highs) → AreFull xs taken low fulls box
fulls_full box xs taken low highs fulls are to = record {
  climbs = to.climbs;
  values = to.values;
  full = λ k d h.
      let filled = to.filled k d h in
      let many = places_to box xs low highs filled.place are filled.before in
      let is = ap (λ z. inside_count box low z xs) filled.is in
      record { many = omega (arith, many, is, filled.filled) };
}

-- members within an interval stay there
pub full_on : (xs : List Term) (taken : List ℤ) (low : ℤ) (fulls : List ℤ) (old new : Stored) → IsReady old.box xs → IsBox new.box → Prunes (Holds (con.AllDiffExcept xs taken)) old new → AreFull xs taken low fulls old.box → AreFull xs taken low fulls new.box
full_on xs taken low fulls old new ready well_formed runs are = record {
  climbs = are.climbs;
  values = are.values;
  full = λ k d h.
      let many = (are.full k d h).many in
      let more = fewer (is_inside old.box low (slice_index_or fulls k d)) (is_inside new.box low (slice_index_or fulls k d)) xs (stays (slice_index_or fulls k d)) in
      record { many = omega (arith, many, more) };
}
  where
    stays : (high : ℤ) (k : ℕ) (d : Term) → k < length xs → is_inside old.box low high (slice_index_or xs k d) ≡ true → is_inside new.box low high (slice_index_or xs k d) ≡ true
    stays high k d h is =
        let inside = inside_is old.box low high (slice_index_or xs k d) is in
        let rises = low_rises _ old.box new.box (slice_index_or xs k d) ready.well_formed well_formed runs.loses (ready.terms k d h) in
        let falls = high_falls _ old.box new.box (slice_index_or xs k d) ready.well_formed well_formed runs.loses (ready.terms k d h) in
        is_inside_from new.box low high (slice_index_or xs k d) (omega (arith, ints, inside, rises)) (omega (arith, ints, inside, falls))
