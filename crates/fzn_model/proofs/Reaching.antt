-- The runs of a set in order, and the first that ends at a number or above it.
use Rattle.std.proofs.Common.{◌≡◌, ℕ, suc, zero, ◌+◌, ◌<◌, ◌≤◌, List, [], ◌∷◌, length, get_or, sym, subst, arith, below_more, inl, inr, ℤ, pos, ◌+ℤ◌, ◌≤ℤ◌, ◌<ℤ◌, ◌∙◌}
use Rattle.std.proofs.lemmas.Int.{ints, by_lt_z}
use Rattle.std.proofs.lemmas.Bool.{cases_lt}
use Rattle.std.proofs.lemmas.List.{get_or_default}
use Rattle.fzn_model.specs.Sets.{IsIn, IsWithin, AreAbove, AreRuns}
use Rattle.fzn_model.specs.Reached.{IsFirstReaching}

-- a run of those above a number begins above it with a gap, and has its ends in order
above_run : (before : ℤ) (runs : List (ℤ × ℤ)) (k : ℕ) (d : ℤ × ℤ) → AreAbove before runs → k < length runs → ((before +ℤ pos 1) <ℤ (get_or runs k d).0) × ((get_or runs k d).0 ≤ℤ (get_or runs k d).1)
above_run before [] k d a h = absurd (omega arith)
above_run before (r ∷ rs) zero d a h = (a.0, a.1)
above_run before (r ∷ rs) (suc k) d a h = let p = above_run r.1 rs k d a.2 (omega arith) in (omega (arith, ints, a.0, a.1, p.0), p.1)

above_gap : (before : ℤ) (runs : List (ℤ × ℤ)) (j k : ℕ) (d e : ℤ × ℤ) → AreAbove before runs → j < k → k < length runs → ((get_or runs j d).1 +ℤ pos 1) <ℤ (get_or runs k e).0
above_gap before [] j k d e a le h = absurd (omega arith)
above_gap before (r ∷ rs) j zero d e a le h = absurd (omega arith)
above_gap before (r ∷ rs) zero (suc k) d e a le h = (above_run r.1 rs k e a.2 (omega arith)).0
above_gap before (r ∷ rs) (suc j) (suc k) d e a le h = above_gap r.1 rs j k d e a.2 (omega arith) (omega arith)

-- the ends of a run are in order
pub run_ends : (runs : List (ℤ × ℤ)) (k : ℕ) (d : ℤ × ℤ) → AreRuns runs → k < length runs → (get_or runs k d).0 ≤ℤ (get_or runs k d).1
run_ends [] k d a h = absurd (omega arith)
run_ends (r ∷ rs) zero d a h = a.0
run_ends (r ∷ rs) (suc k) d a h = (above_run r.1 rs k d a.1 (omega arith)).1

-- between two runs there is a gap
pub gap : (runs : List (ℤ × ℤ)) (j k : ℕ) (d e : ℤ × ℤ) → AreRuns runs → j < k → k < length runs → ((get_or runs j d).1 +ℤ pos 1) <ℤ (get_or runs k e).0
gap [] j k d e a le h = absurd (omega arith)
gap (r ∷ rs) j zero d e a le h = absurd (omega arith)
gap (r ∷ rs) zero (suc k) d e a le h = (above_run r.1 rs k e a.1 (omega arith)).0
gap (r ∷ rs) (suc j) (suc k) d e a le h = above_gap r.1 rs j k d e a.1 (omega arith) (omega arith)

-- the ends rise
pub ends_rise : (runs : List (ℤ × ℤ)) (j k : ℕ) (d e : ℤ × ℤ) → AreRuns runs → j < k → k < length runs → (get_or runs j d).1 <ℤ (get_or runs k e).1
ends_rise runs j k d e a le h = let p = gap runs j k d e a le h in let q = run_ends runs k e a h in omega (arith, ints, p, q)

-- both ends of a run are at most those of a later one
pub both_rise : (runs : List (ℤ × ℤ)) (i j : ℕ) (d : ℤ × ℤ) → AreRuns runs → i ≤ j → j < length runs → ((get_or runs i d).0 ≤ℤ (get_or runs j d).0) × ((get_or runs i d).1 ≤ℤ (get_or runs j d).1)
both_rise runs i j d a le h = elim (cases_lt i j) [
  | inl before ↦
      let apart = gap runs i j d d a before h in
      let first = run_ends runs i d a (omega arith) in
      let then = run_ends runs j d a h in
      (omega (arith, ints, apart, first, then), omega (arith, ints, apart, first, then))
  | inr after ↦
      let same : i ≡ j = omega arith in
      subst (λ k. ((get_or runs i d).0 ≤ℤ (get_or runs k d).0) × ((get_or runs i d).1 ≤ℤ (get_or runs k d).1)) same (omega (arith, ints), omega (arith, ints))
]

-- runs up to one that ends below a value end below it, and from one that doesn't on none does
pub reach_more : (runs : List (ℤ × ℤ)) (z : ℤ) (m : ℕ) (e : ℤ × ℤ) → AreRuns runs → m < length runs → (get_or runs m e).1 <ℤ z → (k : ℕ) (d : ℤ × ℤ) → k < m + 1 → (get_or runs k d).1 <ℤ z
reach_more runs z m e a h below k d l = below_more (λ k. (d : ℤ × ℤ) → (get_or runs k d).1 <ℤ z) m (λ k n d. let p = ends_rise runs k m d e a n h in omega (arith, ints, p, below)) (λ d. subst (λ (r : ℤ × ℤ). r.1 <ℤ z) (get_or_default runs m e d h) below) k l d

pub reach_less : (runs : List (ℤ × ℤ)) (z : ℤ) (m : ℕ) (e : ℤ × ℤ) → AreRuns runs → m < length runs → ((get_or runs m e).1 <ℤ z → ⊥) → (k : ℕ) (d : ℤ × ℤ) → m ≤ k → k < length runs → z ≤ℤ (get_or runs k d).1
reach_less runs z m e a h not k d l i =
    let reaches : z ≤ℤ (get_or runs m e).1 = by_lt_z (get_or runs m e).1 z (λ n. absurd (not n)) (λ n. n) in
    by_lt_z (get_or runs k d).1 z (λ n.
    let up : m < k → ⊥ = λ o. absurd (let p = ends_rise runs m k e d a o i in omega (arith, ints, p, reaches, n)) in
    let same : k ≡ m → ⊥ = λ q. absurd (let p : z ≤ℤ (get_or runs k d).1 = subst (λ (n : ℕ). z ≤ℤ (get_or runs n d).1) (sym q) (subst (λ (r : ℤ × ℤ). z ≤ℤ r.1) (get_or_default runs m e d h) reaches) in omega (arith, ints, p, n)) in
    absurd (omega (arith, up, same, l))) (λ n. n)

-- the run of a set that has a number
pub record Meets (other : List (ℤ × ℤ)) (z : ℤ) : Type 0 where
  pub at : ℕ
  pub inside : at < length other
  pub low : (d : ℤ × ℤ) → (get_or other at d).0 ≤ℤ z
  pub high : (d : ℤ × ℤ) → z ≤ℤ (get_or other at d).1

pub meets : (other : List (ℤ × ℤ)) (z : ℤ) → IsIn other z → Meets other z
unfolding IsIn IsWithin
meets other z (k, x, h, is, w) = record {
  at = k;
  inside = h;
  low = λ d. subst (λ (r : ℤ × ℤ). r.0 ≤ℤ z) (sym is ∙ get_or_default other k x d h) w.0;
  high = λ d. subst (λ (r : ℤ × ℤ). z ≤ℤ r.1) (sym is ∙ get_or_default other k x d h) w.1;
}

-- only runs that end at the number or above it have it, and of these only the first
pub meets_first : (other : List (ℤ × ℤ)) (z : ℤ) (place : ℕ) → AreRuns other → IsFirstReaching other z place → (m : Meets other z) → m.at ≡ place
meets_first other z place a first m =
    let d : ℤ × ℤ = (pos 0, pos 0) in
    let up : m.at < place → ⊥ = λ h. absurd (let p = first.before m.at d h in let q = m.high d in omega (arith, ints, p, q)) in
    let down : place < m.at → ⊥ = λ h. absurd (let p = gap other place m.at d d a h m.inside in let q = first.after place d (omega arith) (omega (arith, m.inside)) in let r = m.low d in omega (arith, ints, p, q, r)) in
    omega (arith, up, down)

-- the number is in the set exactly where that run begins at it or below
pub in_first : (set : List (ℤ × ℤ)) (z : ℤ) (place : ℕ) (d : ℤ × ℤ) → IsFirstReaching set z place → place < length set → (get_or set place d).0 ≤ℤ z → IsIn set z
unfolding IsIn IsWithin
in_first set z place d first h low = (place, get_or set place d, h, get_or_default set place (get_or set place d) d h, (low, first.after place d (omega arith) h))

pub first_in : (set : List (ℤ × ℤ)) (z : ℤ) (place : ℕ) → AreRuns set → IsFirstReaching set z place → IsIn set z → (place < length set) × ((d : ℤ × ℤ) → (get_or set place d).0 ≤ℤ z)
first_in set z place a first is_in =
    let m = meets set z is_in in
    let e = meets_first set z place a first m in
    (omega (arith, m.inside, e), (λ d. subst (λ (n : ℕ). (get_or set n d).0 ≤ℤ z) e (m.low d)))
