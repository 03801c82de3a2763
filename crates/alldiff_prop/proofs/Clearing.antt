-- Members are narrowed to what full intervals leave.
use Rattle.std.proofs.Common.{◌≡◌, ℕ, ◌-◌, ◌<◌, ◌≤◌, List, length, refl, sym, ap, subst, arith, inl, inr}
use Rattle.std.specs.Prelude.{ℤ, ◌≤ℤ◌, ◌<ℤ◌, int_le, slice_index_or, Contains}
use Rattle.std.proofs.lemmas.Int.{ints}
use Rattle.std.proofs.lemmas.Bool.{and_left, and_right, cases_lt}
use Rattle.std.proofs.lemmas.List.{get_or_default}
use Rattle.std.proofs.lemmas.List.Elements.{All-contains}
use Rattle.int_domain.proofs.Narrowed.{test_from_gt}
use Rattle.fzn_model.specs.declared.term.Term.{Term}
use Rattle.fzn_model.specs.declared.con.Con.TheVariants as con
use Rattle.fzn_model.specs.Limits.{TermIn}
use Rattle.fzn_model.specs.Meaning.{Holds}
use Rattle.fzn_model.specs.Bounds.{term_low, term_high}
use Rattle.fzn_model.proofs.Terms.{val_low, val_high}
use Rattle.dom_store.specs.Steps.{Spares}
use Rattle.alldiff_prop.specs.Rising.{Climbs, IsSplit}
use Rattle.alldiff_prop.specs.Strict.{LowIsAbove, HighIsBelow}
use Rattle.alldiff_prop.specs.Members.{IsReady}
use Rattle.alldiff_prop.specs.Halls.{IsFull, AreFull, IsClear, IsApart}
use Rattle.alldiff_prop.proofs.Crowding.{is_inside_from, outside_full}

pub member_in : (box : List (List ℤ)) (xs : List Term) (t : Term) → IsReady box xs → Contains xs t → TermIn (length box) t
member_in box xs t ready at = All-contains (TermIn (length box)) xs t ready.terms at

-- those before a place are at most that there
climbs_to : (fulls : List ℤ) (k n : ℕ) (d : ℤ) → Climbs fulls → k ≤ n → n < length fulls → slice_index_or fulls k d ≤ℤ slice_index_or fulls n d
unfolding Climbs
climbs_to fulls k n d climbs order h = elim (cases_lt k n) [
  | inl less ↦ climbs k n d less h
  | inr over ↦ let here : k ≡ n = omega (arith, order, over) in let is = ap (λ j. slice_index_or fulls j d) here in omega (arith, ints, is)
]

-- ---- a member that begins at low or after it
-- past the last full interval that it isn't within
pub raise_spares : (box : List (List ℤ)) (xs : List Term) (taken : List ℤ) (low : ℤ) (fulls : List ℤ) (t : Term) (number : ℤ) (k n : ℕ) (d high : ℤ) → IsReady box xs → AreFull xs taken low fulls box → Contains xs t → low ≤ℤ term_low box t
    → high ≡ term_high box t → IsSplit fulls high n → k < n → number ≡ slice_index_or fulls k d → Spares (λ z. number <ℤ z) (Holds (con.AllDiffExcept xs taken)) t box
raise_spares box xs taken low fulls t number k n d high ready are at from is split less e θ lies holds =
    let inside = member_in box xs t ready at in
    let below = split.before k d less in
    let beyond : number <ℤ term_high box t = omega (arith, ints, below, is, e) in
    let full : IsFull box xs taken low number = subst (IsFull box xs taken low) (sym e) (are.full k d (omega (arith, less, split.within))) in
    let low_value = val_low box t θ ready.well_formed inside lies in
    elim (outside_full box xs taken low number θ ready lies holds t full.many at (and_right (int_le low (term_low box t)) (int_le (term_high box t) number) (test_from_gt (term_high box t) number beyond))) [
      | inl under ↦ absurd (omega (arith, ints, under, low_value, from))
      | inr over ↦ over
    ]

-- where it begins past that, it is apart
pub raised_apart : (box : List (List ℤ)) (low : ℤ) (fulls : List ℤ) (t : Term) (n : ℕ) (high : ℤ) → Climbs fulls → low ≤ℤ term_low box t → high ≡ term_high box t → IsSplit fulls high n
    → ((d : ℤ) → 0 < n → slice_index_or fulls (n - 1) d <ℤ term_low box t) → IsApart low fulls t box
unfolding IsApart IsClear
raised_apart box low fulls t n high climbs from is split past k d h = elim (cases_lt k n) [
  | inl less ↦
      let up = climbs_to fulls k (n - 1) d climbs (omega (arith, less)) (omega (arith, less, split.within)) in
      let begins = past d (omega (arith, less)) in
      let ends = split.before k d less in
      inr (inr (omega (arith, ints, up, begins)), inr (omega (arith, ints, ends, is)))
  | inr more ↦ let after = split.after k d more h in inl (is_inside_from box low (slice_index_or fulls k d) t from (omega (arith, ints, after, is)))
]

-- ---- a member that begins before low
-- and ends in a full interval
pub cap_spares : (box : List (List ℤ)) (xs : List Term) (taken : List ℤ) (low : ℤ) (fulls : List ℤ) (t : Term) (n : ℕ) (high : ℤ) → IsReady box xs → AreFull xs taken low fulls box → Contains xs t → term_low box t <ℤ low
    → high ≡ term_high box t → IsSplit fulls high n → n < length fulls → Spares (λ z. z <ℤ low) (Holds (con.AllDiffExcept xs taken)) t box
cap_spares box xs taken low fulls t n high ready are at before is split less θ lies holds =
    let inside = member_in box xs t ready at in
    let number : ℤ = slice_index_or fulls n high in
    let ends : high ≤ℤ number = split.after n high (omega arith) less in
    let high_value = val_high box t θ ready.well_formed inside lies in
    let full : IsFull box xs taken low number = are.full n high less in
    elim (outside_full box xs taken low number θ ready lies holds t full.many at (and_left (int_le low (term_low box t)) (int_le (term_high box t) number) (test_from_gt low (term_low box t) before))) [
      | inl under ↦ under
      | inr over ↦ absurd (omega (arith, ints, over, high_value, ends, is))
    ]

-- or it ends before low, or beyond all full intervals
pub apart_before : (box : List (List ℤ)) (low : ℤ) (fulls : List ℤ) (t : Term) → term_low box t <ℤ low → term_high box t <ℤ low → IsApart low fulls t box
unfolding IsApart IsClear
apart_before box low fulls t begins ends k d h = inr (inl begins, inl ends)

pub apart_around : (box : List (List ℤ)) (low : ℤ) (fulls : List ℤ) (t : Term) (high : ℤ) (n : ℕ) → term_low box t <ℤ low → high ≡ term_high box t → IsSplit fulls high n → n ≡ length fulls → IsApart low fulls t box
unfolding IsApart IsClear
apart_around box low fulls t high n begins is split all k d h =
    let ends = split.before k d (omega (arith, h, all)) in
    inr (inl begins, inr (omega (arith, ints, ends, is)))

-- ---- what a narrowing reaches
pub capped_apart : (old new : List (List ℤ)) (low : ℤ) (fulls : List ℤ) (t : Term) → term_low old t <ℤ low → new ≡ old → HighIsBelow t low new → IsApart low fulls t new
unfolding HighIsBelow
capped_apart old new low fulls t begins same ends = apart_before new low fulls t (subst (λ box. term_low box t <ℤ low) (sym same) begins) ends

pub passed_apart : (old new : List (List ℤ)) (low : ℤ) (fulls : List ℤ) (t : Term) (n : ℕ) (d number : ℤ) → Climbs fulls → low ≤ℤ term_low old t → IsSplit fulls (term_high old t) n → 0 < n → number ≡ slice_index_or fulls (n - 1) d → new ≡ old → LowIsAbove t number new → IsApart low fulls t new
unfolding LowIsAbove
passed_apart old new low fulls t n d number climbs from split some is same past =
    raised_apart new low fulls t n (term_high new t) climbs (subst (λ box. low ≤ℤ term_low box t) (sym same) from) refl (subst (λ box. IsSplit fulls (term_high box t) n) (sym same) split)
    (λ e h. let one = get_or_default fulls (n - 1) d e (omega (arith, some, split.within)) in omega (arith, ints, past, is, one))
