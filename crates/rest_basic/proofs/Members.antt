-- Sets as runs, and which values are in them.
use Rattle.std.proofs.Common.{◌≡◌, zero, suc, List, [], ◌∷◌, refl, sym, subst, arith, ℤ, pos, ◌+ℤ◌, ◌≤ℤ◌, ◌<ℤ◌, Bool, true, false, inl, inr, ◌⊎◌}
use Rattle.std.specs.Prelude.{All, AllPairs, Contains, filter, ◌↔◌, ◌||◌, ◌&&◌, int_le, if◌then◌else◌}
use Rattle.std.specs.Ordering.{int_eq}
use Rattle.std.specs.List.{list_any, list_all}
use Rattle.std.proofs.lemmas.Int.{ints}
use Rattle.std.proofs.lemmas.Bool.{false≢true, and_parts, or_left, or_right}
use Rattle.std.proofs.lemmas.List.Elements.{All-cons, All-head, All-nil, All-tail}
use Rattle.std.proofs.lemmas.List.Kept.{AllPairs-filter}
use Rattle.fzn_model.specs.Sets.{IsWithin, IsIn, AreRuns}
use Rattle.fzn_model.proofs.Grouping.{runs_are, runs_have}
use Rattle.fzn_model.specs.Grouping.{run_before, runs_of}
use Rattle.rest_basic.specs.Forms.{in_set}
use Rattle.rest_basic.proofs.ListMembers.{has_cases, has_no, filter_passed, filter_kept, filter_has}

-- ---- the test of a set
or_cases : (a b : Bool) → (a || b) ≡ true → (a ≡ true) ⊎ (b ≡ true)
or_cases true b e = inl refl
or_cases false b e = inr e

run_within : (run : ℤ × ℤ) (z : ℤ) → (int_le run.0 z && int_le z run.1) ≡ true → IsWithin run z
unfolding IsWithin
run_within run z e = parts (int_le run.0 z) refl (int_le z run.1) refl e
  where
    parts : (a : Bool) → int_le run.0 z ≡ a → (b : Bool) → int_le z run.1 ≡ b → (a && b) ≡ true → (run.0 ≤ℤ z) × (z ≤ℤ run.1)
    parts true f true g h = (omega (arith, ints, f), omega (arith, ints, g))
    parts true f false g h = absurd (false≢true h)
    parts false f b g h = absurd (false≢true h)

within_run : (run : ℤ × ℤ) (z : ℤ) → IsWithin run z → (int_le run.0 z && int_le z run.1) ≡ true
unfolding IsWithin
within_run run z within = parts (int_le run.0 z) refl (int_le z run.1) refl
  where
    parts : (a : Bool) → int_le run.0 z ≡ a → (b : Bool) → int_le z run.1 ≡ b → (a && b) ≡ true
    parts true f true g = refl
    parts true f false g = absurd (omega (arith, ints, g, within.1))
    parts false f b g = absurd (omega (arith, ints, f, within.0))

pub in_none : (z : ℤ) → IsIn [] z → ⊥
unfolding IsIn
in_none z (k, r, h, is, within) = omega (arith, h)

pub in_first : (run : ℤ × ℤ) (set : List (ℤ × ℤ)) (z : ℤ) → IsWithin run z → IsIn (run ∷ set) z
unfolding IsIn
in_first run set z within = (zero, run, omega arith, refl, within)

pub in_later : (run : ℤ × ℤ) (set : List (ℤ × ℤ)) (z : ℤ) → IsIn set z → IsIn (run ∷ set) z
unfolding IsIn
in_later run set z (k, r, h, is, within) = (suc k, r, omega (arith, h), is, within)

pub in_cases : (run : ℤ × ℤ) (set : List (ℤ × ℤ)) (z : ℤ) → IsIn (run ∷ set) z → IsWithin run z ⊎ IsIn set z
unfolding IsIn
in_cases run set z (zero, r, h, is, within) = inl (subst (λ (x : ℤ × ℤ). IsWithin x z) (sym is) within)
in_cases run set z (suc k, r, h, is, within) = inr (k, r, omega (arith, h), is, within)

pub test_in : (set : List (ℤ × ℤ)) (z : ℤ) → in_set set z ≡ true → IsIn set z
unfolding in_set
test_in [] z e = absurd (false≢true e)
test_in (run ∷ set) z e = elim (or_cases (int_le run.0 z && int_le z run.1) (list_any (λ (r : ℤ × ℤ). int_le r.0 z && int_le z r.1) set) e) [
  | inl here ↦ in_first run set z (run_within run z here)
  | inr later ↦ in_later run set z (test_in set z later)
]

pub in_test : (set : List (ℤ × ℤ)) (z : ℤ) → IsIn set z → in_set set z ≡ true
unfolding in_set
in_test [] z has = absurd (in_none z has)
in_test (run ∷ set) z has = elim (in_cases run set z has) [
  | inl here ↦ or_left (int_le run.0 z && int_le z run.1) _ (within_run run z here)
  | inr later ↦ or_right (int_le run.0 z && int_le z run.1) _ (in_test set z later)
]

-- ---- tests of all members, and of one
pub all_pass : (p : ℤ → Bool) (xs : List ℤ) (z : ℤ) → list_all p xs ≡ true → Contains xs z → p z ≡ true
all_pass p [] z e has = absurd (has_no z has)
all_pass p (x ∷ xs) z e has =
    let both = and_parts (p x) (list_all p xs) e in
    elim (has_cases x xs z has) [
      | inl is ↦ subst (λ (y : ℤ). p y ≡ true) is both.0
      | inr later ↦ all_pass p xs z both.1 later
    ]

pub some_passes : (p : ℤ → Bool) (xs : List ℤ) (z : ℤ) → Contains xs z → p z ≡ true → list_any p xs ≡ true
some_passes p [] z has e = absurd (has_no z has)
some_passes p (x ∷ xs) z has e = elim (has_cases x xs z has) [
  | inl is ↦ or_left (p x) (list_any p xs) (subst (λ (y : ℤ). p y ≡ true) (sym is) e)
  | inr later ↦ or_right (p x) (list_any p xs) (some_passes p xs z later e)
]

-- ---- the ends of runs
-- the ends of runs are among the numbers
ends_before : (P : ℤ → Type 0) (z : ℤ) (runs : List (ℤ × ℤ)) → P z → All (λ (run : ℤ × ℤ). P run.0 × P run.1) runs → All (λ (run : ℤ × ℤ). P run.0 × P run.1) (run_before z runs)
ends_before P z [] here ends = All-cons (λ (run : ℤ × ℤ). P run.0 × P run.1) (z, z) [] (here, here) (All-nil (λ (run : ℤ × ℤ). P run.0 × P run.1))
ends_before P z (run ∷ runs) here ends = by_test (int_eq (z +ℤ pos 1) run.0)
  where
    by_test : (o : Bool) → All (λ (r : ℤ × ℤ). P r.0 × P r.1) (if o then (z, run.1) ∷ runs else (z, z) ∷ run ∷ runs)
    by_test true = All-cons (λ (r : ℤ × ℤ). P r.0 × P r.1) (z, run.1) runs (here, (All-head (λ (r : ℤ × ℤ). P r.0 × P r.1) run runs ends).1) (All-tail (λ (r : ℤ × ℤ). P r.0 × P r.1) run runs ends)
    by_test false = All-cons (λ (r : ℤ × ℤ). P r.0 × P r.1) (z, z) (run ∷ runs) (here, here) ends

pub ends_all : (P : ℤ → Type 0) (xs : List ℤ) → All P xs → All (λ (run : ℤ × ℤ). P run.0 × P run.1) (runs_of xs)
unfolding runs_of
ends_all P [] all = All-nil (λ (run : ℤ × ℤ). P run.0 × P run.1)
ends_all P (z ∷ zs) all = ends_before P z (runs_of zs) (All-head P z zs all) (ends_all P zs (All-tail P z zs all))

-- ---- a set without what lies outside a rising list
pub left_has : (xs : List ℤ) (set : List (ℤ × ℤ)) (z : ℤ) → AllPairs (λ x y. x <ℤ y) xs → IsIn (runs_of (filter (in_set set) xs)) z ↔ (Contains xs z × IsIn set z)
left_has xs set z rising =
    let both = runs_have (filter (in_set set) xs) z (AllPairs-filter (λ x y. x <ℤ y) (in_set set) xs rising) in (
      λ has. (filter_kept (in_set set) xs z (both.0 has), test_in set z (filter_passed (in_set set) xs z (both.0 has))),
      λ h. both.1 (filter_has (in_set set) xs z h.0 (in_test set z h.1)),
    )

pub left_runs : (xs : List ℤ) (set : List (ℤ × ℤ)) → AllPairs (λ x y. x <ℤ y) xs → AreRuns (runs_of (filter (in_set set) xs))
left_runs xs set rising = runs_are (filter (in_set set) xs) (AllPairs-filter (λ x y. x <ℤ y) (in_set set) xs rising)
