-- Runs with the same numbers are the same; the runs of a rising list have its numbers.
use Rattle.std.specs.Prelude.{◌≡◌, zero, suc, ◌⊎◌, ◌↔◌, Bool, true, false, List, [], ◌∷◌, slice_index_or, if◌then◌else◌, ℤ, pos, ◌+ℤ◌, ◌≤ℤ◌, ◌<ℤ◌, int_lt, AllPairs, Contains}
use Rattle.std.specs.Ordering.{int_eq}
use Rattle.std.proofs.Common.{refl, sym, subst, ap, ◌∙◌, arith, inl, inr}
use Rattle.std.proofs.lemmas.Int.{ints}
use Rattle.std.proofs.lemmas.Bool.{false≢true}
use Rattle.std.proofs.lemmas.Bool.Decides.{Decides-int_eq}
use Rattle.fzn_model.specs.Sets.{IsWithin, IsIn, AreAbove, AreRuns}
use Rattle.fzn_model.specs.Grouping.{run_before, runs_of}

-- the set has the number, run by run
abbrev Has : List (ℤ × ℤ) → ℤ → Type 0
Has [] z = ⊥
Has (run ∷ runs) z = ((run.0 ≤ℤ z) × (z ≤ℤ run.1)) ⊎ Has runs z

has_in : (runs : List (ℤ × ℤ)) (z : ℤ) → Has runs z → IsIn runs z
unfolding IsIn IsWithin
has_in [] z has = absurd has
has_in (run ∷ runs) z (inl within) = (zero, run, omega arith, refl, within)
has_in (run ∷ runs) z (inr later) = let (k, r, h, is, within) = has_in runs z later in (suc k, r, omega arith, is, within)

in_has : (runs : List (ℤ × ℤ)) (z : ℤ) → IsIn runs z → Has runs z
unfolding IsIn IsWithin
in_has [] z (k, r, h, is, within) = absurd (omega arith)
in_has (run ∷ runs) z (zero, r, h, is, within) = inl (subst (λ (x : ℤ × ℤ). (x.0 ≤ℤ z) × (z ≤ℤ x.1)) (sym is) within)
in_has (run ∷ runs) z (suc k, r, h, is, within) = inr (in_has runs z (k, r, omega arith, is, within))

-- each number of runs above another leaves a gap
above_has : (before : ℤ) (runs : List (ℤ × ℤ)) (z : ℤ) → AreAbove before runs → Has runs z → (before +ℤ pos 1) <ℤ z
above_has before [] z above has = absurd has
above_has before (run ∷ runs) z above (inl within) = omega (arith, ints, above.0, within.0)
above_has before (run ∷ runs) z above (inr later) =
    let more = above_has run.1 runs z above.2 later in
    omega (arith, ints, above.0, above.1, more)

runs_above : (before : ℤ) (runs : List (ℤ × ℤ)) → AreAbove before runs → AreRuns runs
runs_above before [] above = tt
runs_above before (run ∷ runs) (gap, low, more) = (low, more)

-- two lists of runs with the same numbers are the same
ends_equal : (a b : List (ℤ × ℤ)) (r s : ℤ × ℤ) → AreRuns (r ∷ a) → AreRuns (s ∷ b) → ((z : ℤ) → Has (r ∷ a) z ↔ Has (s ∷ b) z) → (r.0 ≡ s.0) × (r.1 ≡ s.1)
ends_equal a b r s runs others same = (low, high)
  where
    least : (xs : List (ℤ × ℤ)) (x : ℤ × ℤ) (z : ℤ) → AreRuns (x ∷ xs) → Has (x ∷ xs) z → x.0 ≤ℤ z
    least xs x z are (inl within) = within.0
    least xs x z are (inr later) = let above = above_has x.1 xs z are.1 later in omega (arith, ints, above, are.0)

    one : r.0 ≤ℤ s.0
    one = least a r s.0 runs ((same s.0).1 (inl (omega (arith, ints), others.0)))

    two : s.0 ≤ℤ r.0
    two = least b s r.0 others ((same r.0).0 (inl (omega (arith, ints), runs.0)))

    low : r.0 ≡ s.0
    low = omega (arith, ints, one, two)

    -- the number after the shorter run is in the other list, and not in its own
    beyond : (xs : List (ℤ × ℤ)) (x : ℤ × ℤ) → AreRuns (x ∷ xs) → Has (x ∷ xs) (x.1 +ℤ pos 1) → ⊥
    beyond xs x are (inl within) = omega (arith, ints, within.1)
    beyond xs x are (inr later) = let above = above_has x.1 xs _ are.1 later in omega (arith, ints, above)

    longer : (t : Bool) → int_lt r.1 s.1 ≡ t → s.1 ≤ℤ r.1
    longer true e = absurd (beyond a r runs ((same (r.1 +ℤ pos 1)).1 (inl (omega (arith, ints, e, low, runs.0), omega (arith, ints, e)))))
    longer false e = omega (arith, ints, e)

    shorter : (t : Bool) → int_lt s.1 r.1 ≡ t → r.1 ≤ℤ s.1
    shorter true e = absurd (beyond b s others ((same (s.1 +ℤ pos 1)).0 (inl (omega (arith, ints, e, low, others.0), omega (arith, ints, e)))))
    shorter false e = omega (arith, ints, e)

    high : r.1 ≡ s.1
    high = let le = longer (int_lt r.1 s.1) refl in let ge = shorter (int_lt s.1 r.1) refl in omega (arith, ints, le, ge)

tails_in : (a b : List (ℤ × ℤ)) (r s : ℤ × ℤ) (z : ℤ) → AreAbove r.1 a → r.1 ≡ s.1 → (Has (r ∷ a) z → Has (s ∷ b) z) → Has a z → Has b z
tails_in a b r s z above ends from has = elim (from (inr has)) [
  | inl within ↦ let more = above_has r.1 a z above has in absurd (omega (arith, ints, more, within.1, ends))
  | inr later ↦ later
]

same_by_numbers : (a b : List (ℤ × ℤ)) → AreRuns a → AreRuns b → ((z : ℤ) → Has a z ↔ Has b z) → a ≡ b
same_by_numbers [] [] runs others same = refl
same_by_numbers [] (s ∷ b) runs others same = absurd ((same s.0).1 (inl (omega (arith, ints), others.0)))
same_by_numbers (r ∷ a) [] runs others same = absurd ((same r.0).0 (inl (omega (arith, ints), runs.0)))
same_by_numbers (r ∷ a) (s ∷ b) runs others same =
    let ends = ends_equal a b r s runs others same in
    let rest = same_by_numbers a b (runs_above r.1 a runs.1) (runs_above s.1 b others.1)
    (λ z. (tails_in a b r s z runs.1 ends.1 (same z).0, tails_in b a s r z others.1 (sym ends.1) (same z).1)) in
    subst (λ (x : ℤ × ℤ). (r ∷ a) ≡ (x ∷ b)) (pair_same r s ends.0 ends.1) (ap (λ (xs : List (ℤ × ℤ)). r ∷ xs) rest)
  where
    pair_same : (x y : ℤ × ℤ) → x.0 ≡ y.0 → x.1 ≡ y.1 → x ≡ y
    pair_same x y e f = subst (λ (w : ℤ). x ≡ (y.0, w)) f (subst (λ (w : ℤ). x ≡ (w, x.1)) e refl)

pub same_runs : (a b : List (ℤ × ℤ)) → AreRuns a → AreRuns b → ((z : ℤ) → IsIn a z ↔ IsIn b z) → a ≡ b
same_runs a b runs others same = same_by_numbers a b runs others (λ z.
    ((λ has. in_has b z ((same z).0 (has_in a z has))), (λ has. in_has a z ((same z).1 (has_in b z has)))))

-- the runs of a rising list have its numbers, and are runs
before_has : (z w : ℤ) (runs : List (ℤ × ℤ)) → AreRuns runs → ((y : ℤ) → Has runs y → z <ℤ y) → Has (run_before z runs) w ↔ ((w ≡ z) ⊎ Has runs w)
before_has z w [] are above = (
  (λ has. elim has [ inl within ↦ inl (omega (arith, ints, within.0, within.1)) | inr none ↦ absurd none ]),
  (λ has. elim has [ inl is ↦ inl (omega (arith, ints, is), omega (arith, ints, is)) | inr none ↦ absurd none ]),
)
before_has z w (run ∷ runs) are above = by_test (int_eq (z +ℤ pos 1) run.0) refl
  where
    first : z <ℤ run.0
    first = above run.0 (inl (omega (arith, ints), are.0))

    joined : (z +ℤ pos 1) ≡ run.0 → Has ((z, run.1) ∷ runs) w ↔ ((w ≡ z) ⊎ Has (run ∷ runs) w)
    joined e = (
      (λ has. elim has [ inl within ↦ split (int_lt z w) refl within.0 within.1 | inr later ↦ inr (inr later) ]),
      (λ has. elim has [
        | inl is ↦ inl (omega (arith, ints, is), omega (arith, ints, is, first, are.0))
        | inr old ↦ elim old [ inl within ↦ inl (omega (arith, ints, within.0, first), within.1) | inr later ↦ inr later ]
      ]),
    )
      where
        split : (u : Bool) → int_lt z w ≡ u → z ≤ℤ w → w ≤ℤ run.1 → (w ≡ z) ⊎ Has (run ∷ runs) w
        split true f from to = inr (inl (omega (arith, ints, e, f), to))
        split false f from to = inl (omega (arith, ints, f, from))

    apart : Has ((z, z) ∷ run ∷ runs) w ↔ ((w ≡ z) ⊎ Has (run ∷ runs) w)
    apart = (
      (λ has. elim has [ inl within ↦ inl (omega (arith, ints, within.0, within.1)) | inr later ↦ inr later ]),
      (λ has. elim has [ inl is ↦ inl (omega (arith, ints, is), omega (arith, ints, is)) | inr old ↦ inr old ]),
    )

    by_test : (u : Bool) → int_eq (z +ℤ pos 1) run.0 ≡ u → Has (if u then (z, run.1) ∷ runs else (z, z) ∷ run ∷ runs) w ↔ ((w ≡ z) ⊎ Has (run ∷ runs) w)
    by_test true e = joined ((Decides-int_eq (z +ℤ pos 1) run.0).0 e)
    by_test false e = apart

before_runs : (z : ℤ) (runs : List (ℤ × ℤ)) → AreRuns runs → ((y : ℤ) → Has runs y → z <ℤ y) → AreRuns (run_before z runs)
before_runs z [] are above = (omega (arith, ints), tt)
before_runs z (run ∷ runs) are above = by_test (int_eq (z +ℤ pos 1) run.0) refl
  where
    first : z <ℤ run.0
    first = above run.0 (inl (omega (arith, ints), are.0))

    by_test : (u : Bool) → int_eq (z +ℤ pos 1) run.0 ≡ u → AreRuns (if u then (z, run.1) ∷ runs else (z, z) ∷ run ∷ runs)
    by_test true e = (omega (arith, ints, first, are.0), are.1)
    by_test false e =
        let not : (z +ℤ pos 1) ≡ run.0 → ⊥ = λ same. false≢true (sym e ∙ (Decides-int_eq (z +ℤ pos 1) run.0).1 same) in
        let gap : (z +ℤ pos 1) <ℤ run.0 = omega (arith, ints, first, not) in
        (omega (arith, ints), (gap, are.0, are.1))

-- the numbers of a rising list, one by one
abbrev Among : List ℤ → ℤ → Type 0
Among [] w = ⊥
Among (z ∷ zs) w = (w ≡ z) ⊎ Among zs w

among_contains : (zs : List ℤ) (w : ℤ) → Among zs w → Contains zs w
among_contains [] w among = absurd among
among_contains (z ∷ zs) w (inl is) = (zero, omega arith, sym is)
among_contains (z ∷ zs) w (inr later) = let (k, h, is) = among_contains zs w later in (suc k, omega arith, is)

contains_among : (zs : List ℤ) (w : ℤ) → Contains zs w → Among zs w
contains_among [] w (k, h, is) = absurd (omega arith)
contains_among (z ∷ zs) w (zero, h, is) = inl (sym is)
contains_among (z ∷ zs) w (suc k, h, is) = inr (contains_among zs w (k, omega arith, is))

rising_rest : (z : ℤ) (zs : List ℤ) → AllPairs (λ x y. x <ℤ y) (z ∷ zs) → AllPairs (λ x y. x <ℤ y) zs
rising_rest z zs rising i j d lt inside = rising (suc i) (suc j) d (omega arith) (omega arith)

rising_above : (z : ℤ) (zs : List ℤ) (w : ℤ) → AllPairs (λ x y. x <ℤ y) (z ∷ zs) → Among zs w → z <ℤ w
rising_above z zs w rising among =
    let (k, h, is) = among_contains zs w among in
    let less : z <ℤ slice_index_or zs k w = rising zero (suc k) w (omega arith) (omega arith) in
    subst (λ (y : ℤ). z <ℤ y) is less

grouped : (zs : List ℤ) → AllPairs (λ x y. x <ℤ y) zs → AreRuns (runs_of zs) × ((w : ℤ) → Has (runs_of zs) w ↔ Among zs w)
unfolding runs_of
grouped [] rising = (tt, (λ w. ((λ none. none), (λ none. none))))
grouped (z ∷ zs) rising =
    let (are, same) = grouped zs (rising_rest z zs rising) in
    let above : (y : ℤ) → Has (runs_of zs) y → z <ℤ y = λ y has. rising_above z zs y rising ((same y).0 has) in (
      before_runs z (runs_of zs) are above,
      (λ w. let both = before_has z w (runs_of zs) are above in (
        (λ has. elim (both.0 has) [ inl is ↦ inl is | inr old ↦ inr ((same w).0 old) ]),
        (λ among. both.1 (elim among [ inl is ↦ inl is | inr later ↦ inr ((same w).1 later) ])),
      )),
    )

pub runs_are : (zs : List ℤ) → AllPairs (λ x y. x <ℤ y) zs → AreRuns (runs_of zs)
runs_are zs rising = (grouped zs rising).0

pub runs_have : (zs : List ℤ) (w : ℤ) → AllPairs (λ x y. x <ℤ y) zs → IsIn (runs_of zs) w ↔ Contains zs w
runs_have zs w rising =
    let both = (grouped zs rising).1 w in (
      (λ has. among_contains zs w (both.0 (in_has (runs_of zs) w has))),
      (λ has. has_in (runs_of zs) w (both.1 (contains_among zs w has))),
    )
