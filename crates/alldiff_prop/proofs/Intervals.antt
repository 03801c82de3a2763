-- Where nothing went, each interval from the least value of a member on is as it is to be.
use Rattle.std.proofs.Common.{◌≡◌, ℕ, zero, suc, ◌+◌, ◌<◌, ◌≤◌, List, length, refl, sym, ap, subst, arith, inl, inr}
use Rattle.std.specs.Prelude.{ℤ, pos, ◌≤ℤ◌, ◌<ℤ◌, int_le, slice_index_or, All, Contains}
use Rattle.std.proofs.lemmas.Int.{ints, by_lt_z}
use Rattle.std.proofs.lemmas.Bool.{cases_lt}
use Rattle.std.proofs.lemmas.List.{get_or_default}
use Rattle.std.proofs.lemmas.List.Elements.{All-contains}
use Rattle.int_domain.proofs.Narrowed.{test_from_gt}
use Rattle.fzn_model.specs.declared.term.Term.{Term}
use Rattle.fzn_model.specs.declared.con.Con.TheVariants as con
use Rattle.dom_store.specs.declared.pass.Passed.{Passed}
use Rattle.dom_store.specs.Stores.{Stored}
use Rattle.fzn_model.specs.Bounds.{term_low, term_high}
use Rattle.dom_store.specs.Strength.{free_count, IsOutside, IsHallInterval}
use Rattle.alldiff_prop.specs.Rising.{Climbs, how_many_to}
use Rattle.dom_store.specs.Steps.{Step, EachTo}
use Rattle.alldiff_prop.specs.Untaken.{BoundsAreFree}
use Rattle.alldiff_prop.specs.Highs.{IsHighs}
use Rattle.alldiff_prop.specs.Fulls.{AreFullsTo}
use Rattle.alldiff_prop.specs.Halls.{IsClear, IsApart, IsNarrowedFrom}
use Rattle.alldiff_prop.proofs.Counting.{back_fails}
use Rattle.alldiff_prop.proofs.Free.{free_first, free_more, free_beyond}
use Rattle.alldiff_prop.proofs.Crowding.{inside_is, is_inside_from}
use Rattle.dom_store.proofs.Stepping.{step_as}
use Rattle.fzn_model.specs.Meaning.{Holds}

module _ (box : List (List ℤ)) (xs : List Term) (taken : List ℤ) (low : ℤ) (highs fulls : List ℤ) (are : IsHighs box xs low highs) (to : AreFullsTo taken low highs fulls (length highs)) (apart : EachTo (IsApart low fulls) xs (length xs) box) (free : All (λ x. BoundsAreFree taken x box) xs) (first : Contains taken low → ⊥) where
  -- the last of so many is at most the number
  last_to : (high : ℤ) (k : ℕ) → suc k ≡ how_many_to high highs → slice_index_or highs k (pos 0) ≤ℤ high
  unfolding how_many_to Climbs
  last_to high k count = by_lt_z high (slice_index_or highs k (pos 0))
      (λ above.
      let few = back_fails (λ z. int_le z high) highs k (λ i d from h. test_from_gt (slice_index_or highs i d) high (beyond i d from h above)) in
      absurd (omega (arith, few, count)))
      (λ below. below)
    where
      beyond : (i : ℕ) (d : ℤ) → k ≤ i → i < length highs → high <ℤ slice_index_or highs k (pos 0) → high <ℤ slice_index_or highs i d
      beyond i d from h above =
          let same = get_or_default highs i d (pos 0) h in
          elim (cases_lt k i) [
            | inl less ↦ let up = are.climbs k i (pos 0) less h in omega (arith, ints, up, same, above)
            | inr over ↦ let here : i ≡ k = omega (arith, from, over) in let is = ap (λ j. slice_index_or highs j (pos 0)) here in omega (arith, ints, same, is, above)
          ]

  count_within : (high : ℤ) → how_many_to high highs ≤ length highs
  unfolding how_many_to
  count_within high = back_fails (λ z. int_le z high) highs (length highs) (λ k d from h. absurd (omega (arith, from, h)))

  -- a bound beyond a full interval, in one with as many free numbers, is taken
  out_by : (near far b : ℤ) → near ≤ℤ far → free_count taken low far ≤ free_count taken low near → (Contains taken b → ⊥) → IsOutside low near b → IsOutside low far b
  out_by near far b order same free_b out = elim out [
    | inl under ↦ inl under
    | inr over ↦ by_lt_z far b
        (λ beyond. inr beyond)
        (λ within. by_lt_z b low
        (λ under. inl under)
        (λ from. absurd (free_beyond taken low near far b order same from over within free_b)))
  ]

  clear_by : (near far : ℤ) (x : Term) → near ≤ℤ far → free_count taken low far ≤ free_count taken low near → BoundsAreFree taken x box → IsClear box x low near → IsClear box x low far
  unfolding IsClear BoundsAreFree
  clear_by near far x order same free_x clear = elim clear [
    | inl inside ↦ let i = inside_is box low near x inside in inl (is_inside_from box low far x i.0 (omega (arith, ints, i, order)))
    | inr outside ↦ inr (out_by near far (term_low box x) order same free_x.0 outside.0, out_by near far (term_high box x) order same free_x.1 outside.1)
  ]

  intervals_by : (high : ℤ) (n : ℕ) → low ≤ℤ high → n ≡ how_many_to high highs → IsHallInterval box xs taken low high
  unfolding EachTo IsApart IsClear
  intervals_by high zero order count =
      let counts = are.counts high in
      let some = free_first taken low high first order in
      record { few = omega (arith, counts, count); full = λ e. absurd (omega (arith, counts, count, some, e)) }
  intervals_by high (suc k) order count =
      let counts = are.counts high in
      let within = count_within high in
      let here : k < length highs = omega (arith, within, count) in
      let near : ℤ = slice_index_or highs k (pos 0) in
      let up : near ≤ℤ high = last_to high k count in
      let more = free_more taken low near high up in
      let few = to.few k here in
      record {
        few = omega (arith, counts, count, more, few);
        full = λ e.
            let full : k + 1 ≡ free_count taken low near = omega (arith, counts, count, more, few, e) in
            let at : Contains fulls near = to.listed k here full in
            λ i d h. clear_by near high (slice_index_or xs i d) up (omega (arith, full, counts, count, e)) (free i d h) (All-contains (IsClear box (slice_index_or xs i d) low) fulls near (apart i d h) at);
      }

pub intervals_hold : (box : List (List ℤ)) (xs : List Term) (taken : List ℤ) (low : ℤ) (highs fulls : List ℤ) → IsHighs box xs low highs → AreFullsTo taken low highs fulls (length highs) → EachTo (IsApart low fulls) xs (length xs) box → IsNarrowedFrom xs taken low box
unfolding IsNarrowedFrom
intervals_hold box xs taken low highs fulls are to apart free first high order = intervals_by box xs taken low highs fulls are to apart free first high (how_many_to high highs) order refl

-- the steps for the intervals from one number on
pub narrowed_step : (xs : List Term) (taken : List ℤ) (low : ℤ) (highs fulls : List ℤ) (old new : Stored) (result : Passed) → IsHighs old.box xs low highs → AreFullsTo taken low highs fulls (length highs)
    → Step (EachTo (IsApart low fulls) xs (length xs)) (Holds (con.AllDiffExcept xs taken)) old new result → Step (IsNarrowedFrom xs taken low) (Holds (con.AllDiffExcept xs taken)) old new result
narrowed_step xs taken low highs fulls old new result are to step =
    step_as (EachTo (IsApart low fulls) xs (length xs)) (IsNarrowedFrom xs taken low) (Holds (con.AllDiffExcept xs taken)) old new result
    (λ same apart. intervals_hold new.box xs taken low highs fulls (subst (λ box. IsHighs box xs low highs) (sym same) are) to apart) step
