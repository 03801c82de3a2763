-- The least and the greatest number of a set, and the greatest cost of a goal.
use Rattle.std.proofs.Common.{◌≡◌, suc, zero, ◌-◌, ◌<◌, List, [], ◌∷◌, length, get_or, refl, arith, subst, ℤ, pos, negsuc, neg_ℤ, ◌+ℤ◌, ◌-ℤ◌, ◌≤ℤ◌}
use Rattle.std.proofs.lemmas.Int.{ints}
use Rattle.std.proofs.lemmas.List.{get_or_default}
use Rattle.fzn_model.specs.declared.term.Term.{Term}
use Rattle.fzn_model.specs.declared.goal.Goal.TheVariants as goal
use Rattle.fzn_model.specs.Solutions.{IsTop, CanBe}
use Rattle.fzn_model.specs.Sets.{IsIn, IsWithin, AreRuns, low_of, high_of}
use Rattle.fzn_model.proofs.Reaching.{run_ends, both_rise}

-- stands for the run of a place that a list doesn't have
abbrev pub none : ℤ × ℤ
none = (pos 0, pos 0)

-- no number of a set is above the greatest
pub greatest : (set : List (ℤ × ℤ)) (z : ℤ) → AreRuns set → IsIn set z → z ≤ℤ high_of set
unfolding IsIn IsWithin
greatest set z a (k, x, h, is, w) =
    let rise = both_rise set k (length set - 1) x a (omega arith) (omega arith) in
    let last : get_or set (length set - 1) x ≡ get_or set (length set - 1) none = get_or_default set (length set - 1) x none (omega arith) in
    let q : z ≤ℤ (get_or set k x).1 = rw is w.1 in
    subst (λ (r : ℤ × ℤ). z ≤ℤ r.1) last (omega (arith, ints, rise, q))

-- no number of a set is below the least
pub least : (set : List (ℤ × ℤ)) (z : ℤ) → AreRuns set → IsIn set z → low_of set ≤ℤ z
unfolding IsIn IsWithin
least set z a (k, x, h, is, w) =
    let rise = both_rise set 0 k x a (omega arith) h in
    let first : get_or set 0 x ≡ get_or set 0 none = get_or_default set 0 x none (omega arith) in
    let q : (get_or set k x).0 ≤ℤ z = rw is w.0 in
    subst (λ (r : ℤ × ℤ). r.0 ≤ℤ z) first (omega (arith, ints, rise, q))

-- the greatest number is in the set
pub high_in : (set : List (ℤ × ℤ)) → AreRuns set → 0 < length set → IsIn set (high_of set)
unfolding IsIn IsWithin
high_in set a h =
    let k : length set - 1 < length set = omega arith in
    let x : ℤ × ℤ = get_or set (length set - 1) none in
    (length set - 1, x, k, get_or_default set (length set - 1) x none k, (run_ends set (length set - 1) none a k, omega (arith, ints)))

-- the least number is in the set
pub low_in : (set : List (ℤ × ℤ)) → AreRuns set → 0 < length set → IsIn set (low_of set)
unfolding IsIn IsWithin
low_in [] a h = absurd (omega arith)
low_in (r ∷ rs) a h = (0, r, omega arith, refl, (omega (arith, ints), a.0))

-- the sign turned twice
neg_neg : (z : ℤ) → z ≡ neg_ℤ (neg_ℤ z)
neg_neg (pos zero) = refl
neg_neg (pos (suc n)) = refl
neg_neg (negsuc n) = refl

-- one more than the greatest cost of each kind of goal
pub top_satisfy : (ds : List (List (ℤ × ℤ))) → IsTop ds goal.Satisfy (pos 1)
top_satisfy ds = record { reached = (pos 0, refl, refl); above = λ c h. omega (arith, ints, h) }

pub top_minimise : (ds : List (List (ℤ × ℤ))) (t : Term) (high : ℤ) (top : ℤ) → CanBe ds t high → ((z : ℤ) → CanBe ds t z → z ≤ℤ high) → top ≡ (high +ℤ pos 1) → IsTop ds (goal.Minimise t) top
top_minimise ds t high top r f is = record { reached = (high, r, is); above = λ c h. let p = f c h in omega (arith, ints) }

pub top_maximise : (ds : List (List (ℤ × ℤ))) (t : Term) (low : ℤ) (top : ℤ) → CanBe ds t low → ((z : ℤ) → CanBe ds t z → low ≤ℤ z) → top ≡ (pos 1 -ℤ low) → IsTop ds (goal.Maximise t) top
top_maximise ds t low top r f is = record {
  reached = (neg_ℤ low, subst (CanBe ds t) (neg_neg low) r, omega (arith, ints));
  above = λ c h. let p = f (neg_ℤ c) h in omega (arith, ints);
}
