-- The runs of a set, and its numbers next to a number.
use Rattle.std.proofs.Common.{◌≡◌, ℕ, ◌+◌, ◌-◌, ◌<◌, ◌≤◌, List, length, get_or, subst, ◌∙◌, arith, Bool, true, false, inl, inr}
use Rattle.std.specs.Prelude.{ℤ, pos, ◌≤ℤ◌, ◌<ℤ◌, int_le, Any}
use Rattle.std.specs.Int.{int_min, int_max}
use Rattle.std.specs.List.Sorted.{IsPartitionPoint, IsPartitionedBy}
use Rattle.std.proofs.lemmas.Int.{ints}
use Rattle.std.proofs.lemmas.Bool.{cases_lt}
use Rattle.std.proofs.lemmas.List.{get_or_default}
use Rattle.fzn_model.specs.Sets.{IsIn, IsWithin, AreRuns}
use Rattle.fzn_model.specs.Reached.{IsFirstReaching}
use Rattle.fzn_model.proofs.Reaching.{run_ends, both_rise}
use Rattle.dom_store.proofs.Comparing.{le_test, test_le, le_fails, max_first, max_second, max_least, min_first, min_second, min_greatest}
use Rattle.dom_store.specs.declared.extreme.Extreme.TheVariants as extreme
use Rattle.bool_prop.specs.Neighbours.{IsNear, NoneNear, BeginBy}

-- ---- the runs before a number
abbrev pub begins_by : ℤ → ℤ × ℤ → Bool
begins_by number run = int_le run.0 number

pub begins_parted : (runs : List (ℤ × ℤ)) (number : ℤ) → AreRuns runs → IsPartitionedBy (begins_by number) runs
begins_parted runs number a i j d le h passes =
    let rise = both_rise runs i j d a le h in
    let most = le_test (get_or runs j d).0 number passes in
    test_le (get_or runs i d).0 number (omega (arith, ints, rise.0, most))

pub begin_by_at : (runs : List (ℤ × ℤ)) (number : ℤ) (count : ℕ) → count ≤ length runs → IsPartitionPoint (λ r. begins_by number r ≡ true) (λ r. begins_by number r ≡ false) runs count → BeginBy runs number count
begin_by_at runs number count bound point = record {
  bound = bound;
  below = λ k d h. le_test _ _ (point.0 k d (omega arith) h);
  above = λ k d le h. le_fails _ _ (point.1 k d le h);
}

-- ---- the next number, and the one before
pub none_from : (set : List (ℤ × ℤ)) (low : ℤ) (count : ℕ) → IsFirstReaching set low count → length set ≤ count → NoneNear extreme.Least set low
unfolding NoneNear IsIn IsWithin
none_from set low count ends all z (k, x, h, is, w) from =
    let below : (get_or set k x).1 <ℤ low = ends.before k x (omega arith) in
    let to : z ≤ℤ (get_or set k x).1 = rw is w.1 in
    omega (arith, ints, below, to, from)

pub none_to : (set : List (ℤ × ℤ)) (high : ℤ) → BeginBy set high 0 → NoneNear extreme.Greatest set high
unfolding NoneNear IsIn IsWithin
none_to set high begins z (k, x, h, is, w) to =
    let above : high <ℤ (get_or set k x).0 = begins.above k x (omega arith) h in
    let from : (get_or set k x).0 ≤ℤ z = rw is w.0 in
    omega (arith, ints, above, from, to)

next_at : (set : List (ℤ × ℤ)) (low number : ℤ) (count : ℕ) (run : ℤ × ℤ) → AreRuns set → IsFirstReaching set low count → count < length set → get_or set count run ≡ run → number ≡ int_max run.0 low → IsNear extreme.Least set low number
unfolding IsIn IsWithin
next_at set low number count run a ends h here is =
    let above : low ≤ℤ run.1 = subst (λ r. low ≤ℤ r.1) here (ends.after count run (omega arith) h) in
    let order : run.0 ≤ℤ run.1 = subst (λ r. r.0 ≤ℤ r.1) here (run_ends set count run a h) in
    record {
      has = (count, run, h, here, (max_first number run.0 low is, max_least number run.0 low run.1 is order above));
      bounded = max_second number run.0 low is;
      nearest = λ z has from. least_at z has from;
    }
  where
    least_at : (z : ℤ) → Any (λ r. (r.0 ≤ℤ z) × (z ≤ℤ r.1)) set → low ≤ℤ z → number ≤ℤ z
    least_at z (k, x, inside, at, w) from =
        let to : z ≤ℤ (get_or set k x).1 = rw at w.1 in
        let begins : (get_or set k x).0 ≤ℤ z = rw at w.0 in
        elim (cases_lt k count) [
          | inl before ↦ let below : (get_or set k x).1 <ℤ low = ends.before k x before in absurd (omega (arith, ints, below, to, from))
          | inr after ↦
              let rise = both_rise set count k x a after inside in
              let same : get_or set count x ≡ run = get_or_default set count x run h ∙ here in
              let first : run.0 ≤ℤ (get_or set k x).0 = subst (λ r. r.0 ≤ℤ (get_or set k x).0) same rise.0 in
              max_least number run.0 low z is (omega (arith, ints, first, begins)) from
        ]

previous_at : (set : List (ℤ × ℤ)) (high number : ℤ) (count : ℕ) (run : ℤ × ℤ) → AreRuns set → BeginBy set high (count + 1) → get_or set count run ≡ run → number ≡ int_min run.1 high → IsNear extreme.Greatest set high number
unfolding IsIn IsWithin
previous_at set high number count run a begins here is =
    let h : count < length set = let most = begins.bound in omega arith in
    let below : run.0 ≤ℤ high = subst (λ r. r.0 ≤ℤ high) here (begins.below count run (omega arith)) in
    let order : run.0 ≤ℤ run.1 = subst (λ r. r.0 ≤ℤ r.1) here (run_ends set count run a h) in
    record {
      has = (count, run, h, here, (min_greatest number run.1 high run.0 is order below, min_first number run.1 high is));
      bounded = min_second number run.1 high is;
      nearest = λ z has to. greatest_at h z has to;
    }
  where
    greatest_at : count < length set → (z : ℤ) → Any (λ r. (r.0 ≤ℤ z) × (z ≤ℤ r.1)) set → z ≤ℤ high → z ≤ℤ number
    greatest_at h z (k, x, inside, at, w) to =
        let ends : z ≤ℤ (get_or set k x).1 = rw at w.1 in
        let from : (get_or set k x).0 ≤ℤ z = rw at w.0 in
        elim (cases_lt count k) [
          | inl after ↦ let above : high <ℤ (get_or set k x).0 = begins.above k x (omega arith) inside in absurd (omega (arith, ints, above, from, to))
          | inr before ↦
              let rise = both_rise set k count x a before h in
              let same : get_or set count x ≡ run = get_or_default set count x run h ∙ here in
              let last : (get_or set k x).1 ≤ℤ run.1 = subst (λ r. (get_or set k x).1 ≤ℤ r.1) same rise.1 in
              min_greatest number run.1 high z is (omega (arith, ints, last, ends)) to
        ]

-- what stands for the run of a place that a list doesn't have
abbrev none : ℤ × ℤ
none = (pos 0, pos 0)

pub next_is : (set : List (ℤ × ℤ)) (low number : ℤ) (count : ℕ) → AreRuns set → IsFirstReaching set low count → (count ≡ length set → ⊥) → number ≡ int_max (get_or set count none).0 low → IsNear extreme.Least set low number
next_is set low number count a ends differs is =
    let inside : count < length set = let most = ends.bound in omega arith in
    next_at set low number count (get_or set count none) a ends inside (get_or_default set count (get_or set count none) none inside) is

pub previous_is : (set : List (ℤ × ℤ)) (high number : ℤ) (after : ℕ) → AreRuns set → BeginBy set high after → (after ≡ 0 → ⊥) → number ≡ int_min (get_or set (after - 1) none).1 high → IsNear extreme.Greatest set high number
previous_is set high number after a begins some is =
    let count : after ≡ (after - 1) + 1 = omega arith in
    let inside : after - 1 < length set = let most = begins.bound in omega arith in
    previous_at set high number (after - 1) (get_or set (after - 1) none) a (subst (BeginBy set high) count begins) (get_or_default set (after - 1) (get_or set (after - 1) none) none inside) is
