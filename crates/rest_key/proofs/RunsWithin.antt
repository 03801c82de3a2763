-- One set of runs within another.
use Rattle.std.proofs.Common.{◌≡◌, ℕ, ◌<◌, List, length, get_or, sym, subst, arith, ℤ, pos, ◌+ℤ◌, ◌≤ℤ◌, ◌<ℤ◌}
use Rattle.std.specs.Prelude.{All}
use Rattle.std.proofs.lemmas.Int.{ints, by_lt_z}
use Rattle.std.proofs.lemmas.List.{get_or_default}
use Rattle.fzn_model.specs.Sets.{IsIn, IsWithin, AreRuns}
use Rattle.rest_key.specs.Weaker.{SetWithin}
use Rattle.fzn_model.specs.Reached.{IsFirstReaching}
use Rattle.fzn_model.proofs.Reaching.{run_ends, gap, ends_rise, Meets, meets, meets_first}
use Rattle.rest_key.specs.PartTests.{RunWithin, AreRunsWithin, Encloses, IsRun}

pub are_runs : (set : List (ℤ × ℤ)) → AreRuns set → All IsRun set
unfolding IsRun
are_runs set a k d h = run_ends set k d a h

-- a run within another one of the set
pub enclosed_within : (other : List (ℤ × ℤ)) (run : ℤ × ℤ) (k : ℕ) (d : ℤ × ℤ) → k < length other → Encloses (get_or other k d) run → RunWithin other run
unfolding Encloses RunWithin IsIn IsWithin
enclosed_within other run k d h e z w = (k, get_or other k d, h, get_or_default other k (get_or other k d) d h, (omega (arith, ints, e.0, w.0), omega (arith, ints, e.1, w.1)))

pub within_some : (other : List (ℤ × ℤ)) (run : ℤ × ℤ) (place : ℕ) → AreRuns other → IsRun run → IsFirstReaching other run.0 place → RunWithin other run → place < length other
unfolding RunWithin IsWithin IsRun
within_some other run place a ends first within =
    let m = meets other run.0 (within run.0 (omega (arith, ints), ends)) in
    omega (arith, m.inside, meets_first other run.0 place a first m)

-- no number right above a run is in the set
above_is_out : (other : List (ℤ × ℤ)) (k : ℕ) (d : ℤ × ℤ) → AreRuns other → k < length other → (m : Meets other ((get_or other k d).1 +ℤ pos 1)) → ⊥
above_is_out other k d a h m =
    let low = m.low d in
    let high = m.high d in
    let same : m.at ≡ k → ⊥ = λ e. absurd (let q : ((get_or other k d).1 +ℤ pos 1) ≤ℤ (get_or other k d).1 = subst (λ (n : ℕ). ((get_or other k d).1 +ℤ pos 1) ≤ℤ (get_or other n d).1) e high in omega (arith, ints, q)) in
    let up : m.at < k → ⊥ = λ l. absurd (let p = ends_rise other m.at k d d a l h in omega (arith, ints, p, high)) in
    let down : k < m.at → ⊥ = λ l. absurd (let p = gap other k m.at d d a l m.inside in omega (arith, ints, p, low)) in
    absurd (omega (arith, same, up, down))

pub within_enclosed : (other : List (ℤ × ℤ)) (run : ℤ × ℤ) (place : ℕ) (d : ℤ × ℤ) → AreRuns other → IsRun run → IsFirstReaching other run.0 place → RunWithin other run → Encloses (get_or other place d) run
unfolding RunWithin Encloses IsWithin IsRun
within_enclosed other run place d a ends first within =
    let m = meets other run.0 (within run.0 (omega (arith, ints), ends)) in
    let e = meets_first other run.0 place a first m in
    let low : (get_or other place d).0 ≤ℤ run.0 = subst (λ (n : ℕ). (get_or other n d).0 ≤ℤ run.0) e (m.low d) in
    let high : run.0 ≤ℤ (get_or other place d).1 = subst (λ (n : ℕ). run.0 ≤ℤ (get_or other n d).1) e (m.high d) in
    let inside : place < length other = omega (arith, m.inside, e) in
    let over : (get_or other place d).1 <ℤ run.1 → ⊥ = λ h. above_is_out other place d a inside (meets other _ (within ((get_or other place d).1 +ℤ pos 1) (omega (arith, ints, high), omega (arith, ints, h)))) in
    (low, by_lt_z (get_or other place d).1 run.1 (λ h. absurd (over h)) (λ h. h))

pub all_within : (set other : List (ℤ × ℤ)) → AreRunsWithin other set → SetWithin set other
unfolding SetWithin RunWithin AreRunsWithin IsIn
all_within set other all z (k, x, h, is, w) = all k x h z (subst (λ (r : ℤ × ℤ). IsWithin r z) (sym is) w)

pub within_all : (set other : List (ℤ × ℤ)) → SetWithin set other → AreRunsWithin other set
unfolding SetWithin RunWithin AreRunsWithin IsIn
within_all set other within k d h z w = within z (k, get_or set k d, h, get_or_default set k (get_or set k d) d h, w)
