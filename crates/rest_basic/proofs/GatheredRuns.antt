-- Runs that are made number by number.
use Rattle.std.proofs.Common.{◌≡◌, zero, suc, List, [], ◌∷◌, ◌++◌, length, refl, ap, sym, subst, arith, ℤ, pos, ◌+ℤ◌, ◌-ℤ◌, ◌≤ℤ◌, ◌<ℤ◌, Bool, true, false, inl, inr, ◌⊎◌}
use Rattle.std.specs.Prelude.{Contains, filter, ◌↔◌, int_le, int_lt}
use Rattle.std.specs.Int.{int_min}
use Rattle.std.proofs.lemmas.Int.{ints, clamps}
use Rattle.fzn_model.specs.declared.term.Term.{Term}
use Rattle.fzn_model.specs.Sets.{IsWithin, IsIn, AreAbove, AreRuns}
use Rattle.fzn_model.specs.Boxes.{IsDomain, low_value}
use Rattle.fzn_model.specs.Bounds.{term_low, term_high}
use Rattle.fzn_model.proofs.Domains.{between, low_in}
use Rattle.fzn_model.proofs.Grouping.{same_runs}
use Rattle.fzn_model.specs.Grouping.{runs_of}
use Rattle.rest_basic.specs.Forms.{in_set, term_values, set_left}
use Rattle.rest_basic.specs.Gathered.{Gathered, AreBelow, IsAdded, HasAll, cut, clipped}
use Rattle.rest_basic.proofs.Members.{in_test, in_none, in_first, in_later, in_cases, left_has, left_runs}
use Rattle.rest_basic.proofs.Values.{low_is_first, high_is_last}

-- ---- a last run
last_above : (before : ℤ) (front : List (ℤ × ℤ)) (last : ℤ × ℤ) → AreAbove before (front ++ last ∷ []) → last.0 ≤ℤ last.1
last_above before [] last above = above.1
last_above before (run ∷ front) last above = last_above run.1 front last above.2

last_ordered : (front : List (ℤ × ℤ)) (last : ℤ × ℤ) → AreRuns (front ++ last ∷ []) → last.0 ≤ℤ last.1
last_ordered [] last are = are.0
last_ordered (run ∷ front) last are = last_above run.1 front last are.1

wider_above : (before : ℤ) (front : List (ℤ × ℤ)) (last : ℤ × ℤ) (number : ℤ) → last.1 ≤ℤ number → AreAbove before (front ++ last ∷ []) → AreAbove before (front ++ (last.0, number) ∷ [])
wider_above before [] last number more above = (above.0, omega (arith, ints, above.1, more), tt)
wider_above before (run ∷ front) last number more above = (above.0, above.1, wider_above run.1 front last number more above.2)

wider : (front : List (ℤ × ℤ)) (last : ℤ × ℤ) (number : ℤ) → last.1 ≤ℤ number → AreRuns (front ++ last ∷ []) → AreRuns (front ++ (last.0, number) ∷ [])
wider [] last number more are = (omega (arith, ints, are.0, more), tt)
wider (run ∷ front) last number more are = (are.0, wider_above run.1 front last number more are.1)

longer_above : (before : ℤ) (front : List (ℤ × ℤ)) (last : ℤ × ℤ) (number : ℤ) → (last.1 +ℤ pos 1) <ℤ number → AreAbove before (front ++ last ∷ []) → AreAbove before ((front ++ last ∷ []) ++ (number, number) ∷ [])
longer_above before [] last number gap above = (above.0, above.1, (gap, omega (arith, ints), tt))
longer_above before (run ∷ front) last number gap above = (above.0, above.1, longer_above run.1 front last number gap above.2)

longer : (front : List (ℤ × ℤ)) (last : ℤ × ℤ) (number : ℤ) → (last.1 +ℤ pos 1) <ℤ number → AreRuns (front ++ last ∷ []) → AreRuns ((front ++ last ∷ []) ++ (number, number) ∷ [])
longer [] last number gap are = (are.0, (gap, omega (arith, ints), tt))
longer (run ∷ front) last number gap are = (are.0, longer_above run.1 front last number gap are.1)

-- ---- the numbers of two sets, one after the other
in_front : (xs ys : List (ℤ × ℤ)) (z : ℤ) → IsIn xs z → IsIn (xs ++ ys) z
in_front [] ys z has = absurd (in_none z has)
in_front (run ∷ xs) ys z has = elim (in_cases run xs z has) [
  | inl here ↦ in_first run (xs ++ ys) z here
  | inr later ↦ in_later run (xs ++ ys) z (in_front xs ys z later)
]

in_back : (xs ys : List (ℤ × ℤ)) (z : ℤ) → IsIn ys z → IsIn (xs ++ ys) z
in_back [] ys z has = has
in_back (run ∷ xs) ys z has = in_later run (xs ++ ys) z (in_back xs ys z has)

in_either : (xs ys : List (ℤ × ℤ)) (z : ℤ) → IsIn (xs ++ ys) z → IsIn xs z ⊎ IsIn ys z
in_either [] ys z has = inr has
in_either (run ∷ xs) ys z has = elim (in_cases run (xs ++ ys) z has) [
  | inl here ↦ inl (in_first run xs z here)
  | inr later ↦ elim (in_either xs ys z later) [ inl old ↦ inl (in_later run xs z old) | inr new ↦ inr new ]
]

pub in_one : (run : ℤ × ℤ) (z : ℤ) → IsIn (run ∷ []) z → (run.0 ≤ℤ z) × (z ≤ℤ run.1)
unfolding IsWithin
in_one run z has = elim (in_cases run [] z has) [ inl here ↦ here | inr none ↦ absurd (in_none z none) ]

pub one_in : (run : ℤ × ℤ) (z : ℤ) → (run.0 ≤ℤ z) → (z ≤ℤ run.1) → IsIn (run ∷ []) z
unfolding IsWithin
one_in run z from to = in_first run [] z (from, to)

-- ---- one number more
first_added : (number : ℤ) → IsAdded number [] ((number, number) ∷ [])
first_added number = record {
  are = (omega (arith, ints), tt);
  has = λ z. (
    λ has. let within = in_one (number, number) z has in inr (omega (arith, ints, within.0, within.1)),
    λ either. elim either [ inl old ↦ absurd (in_none z old) | inr e ↦ one_in (number, number) z (omega (arith, ints, e)) (omega (arith, ints, e)) ],
  );
}

pub add_first : (number : ℤ) (runs front after : List (ℤ × ℤ)) → runs ≡ front ++ [] → length runs ≡ 0 → after ≡ front ++ (number, number) ∷ [] → IsAdded number runs after
add_first number runs [] after was none is = rw (was, is) (first_added number)
add_first number runs (run ∷ front) after was none is = absurd (omega (arith, none, ap length was))

pub split_at : (z number : ℤ) → z ≤ℤ number → (t : Bool) → int_lt z number ≡ t → (z <ℤ number) ⊎ (z ≡ number)
split_at z number le true e = inl (omega (arith, ints, e))
split_at z number le false e = inr (omega (arith, ints, le, e))

touching_added : (number : ℤ) (front : List (ℤ × ℤ)) (last : ℤ × ℤ) → AreRuns (front ++ last ∷ []) → last.1 +ℤ pos 1 ≡ number → IsAdded number (front ++ last ∷ []) (front ++ (last.0, number) ∷ [])
touching_added number front last are next = record {
  are = wider front last number (omega (arith, ints, next)) are;
  has = λ z. (
    λ has. elim (in_either front ((last.0, number) ∷ []) z has) [
      | inl old ↦ inl (in_front front (last ∷ []) z old)
      | inr new ↦ let within = in_one (last.0, number) z new in elim (split_at z number within.1 (int_lt z number) refl) [
        | inl less ↦ inl (in_back front (last ∷ []) z (one_in last z within.0 (omega (arith, ints, less, next))))
        | inr is ↦ inr is
      ]
    ],
    λ either. elim either [
      | inl old ↦ elim (in_either front (last ∷ []) z old) [
        | inl before ↦ in_front front ((last.0, number) ∷ []) z before
        | inr there ↦ let within = in_one last z there in in_back front ((last.0, number) ∷ []) z (one_in (last.0, number) z within.0 (omega (arith, ints, within.1, next)))
      ]
      | inr is ↦ in_back front ((last.0, number) ∷ []) z (one_in (last.0, number) z (let order = last_ordered front last are in omega (arith, ints, is, next, order)) (omega (arith, ints, is)))
    ],
  );
}

pub add_touching : (number : ℤ) (runs front after : List (ℤ × ℤ)) (last : ℤ × ℤ) → AreBelow number runs → runs ≡ front ++ last ∷ [] → last.1 +ℤ pos 1 ≡ number → after ≡ front ++ (last.0, number) ∷ [] → IsAdded number runs after
add_touching number runs front after last below was next is = rw (was, is) (touching_added number front last (subst (λ (rs : List (ℤ × ℤ)). AreRuns rs) was below.are) next)

apart_added : (number : ℤ) (front : List (ℤ × ℤ)) (last : ℤ × ℤ) → AreBelow number (front ++ last ∷ []) → (last.1 +ℤ pos 1 ≡ number → ⊥) → IsAdded number (front ++ last ∷ []) ((front ++ last ∷ []) ++ (number, number) ∷ [])
apart_added number front last runs apart = record {
  are = longer front last number gap runs.are;
  has = λ z. (
    λ has. elim (in_either (front ++ last ∷ []) ((number, number) ∷ []) z has) [
      | inl old ↦ inl old
      | inr new ↦ let within = in_one (number, number) z new in inr (omega (arith, ints, within.0, within.1))
    ],
    λ either. elim either [
      | inl old ↦ in_front (front ++ last ∷ []) ((number, number) ∷ []) z old
      | inr is ↦ in_back (front ++ last ∷ []) ((number, number) ∷ []) z (one_in (number, number) z (omega (arith, ints, is)) (omega (arith, ints, is)))
    ],
  );
}
  where
    under : last.1 <ℤ number
    under = runs.below last.1 (in_back front (last ∷ []) last.1 (one_in last last.1 (last_ordered front last runs.are) (omega (arith, ints))))

    gap : (last.1 +ℤ pos 1) <ℤ number
    gap = omega (arith, ints, under, apart)

pub add_apart : (number : ℤ) (runs front between after : List (ℤ × ℤ)) (last : ℤ × ℤ) → AreBelow number runs → runs ≡ front ++ last ∷ [] → (last.1 +ℤ pos 1 ≡ number → ⊥) → between ≡ front ++ last ∷ [] → after ≡ between ++ (number, number) ∷ [] → IsAdded number runs after
add_apart number runs front between after last below was apart there is = rw (is, there, was) (apart_added number front last (subst (λ (rs : List (ℤ × ℤ)). AreBelow number rs) was below) apart)

-- ---- the runs of what a term can have
pub are_below : (values : List ℤ) (set : List (ℤ × ℤ)) (number : ℤ) (runs : List (ℤ × ℤ)) → Gathered values set number runs → AreBelow number runs
are_below values set number runs gathered = record { are = gathered.are; below = λ z has. ((gathered.has z).0 has).2 }

pub added : (values : List ℤ) (set : List (ℤ × ℤ)) (number : ℤ) (runs after : List (ℤ × ℤ)) → Gathered values set number runs → (Contains values number × IsIn set number) → IsAdded number runs after → Gathered values set (number +ℤ pos 1) after
added values set number runs after gathered both more = record {
  are = more.are;
  has = λ z. (
    λ has. elim ((more.has z).0 has) [
      | inl old ↦ let was = (gathered.has z).0 old in (was.0, was.1, omega (arith, ints, was.2))
      | inr is ↦ (subst (λ (y : ℤ). Contains values y) (sym is) both.0, subst (λ (y : ℤ). IsIn set y) (sym is) both.1, omega (arith, ints, is))
    ],
    λ h. elim (split_at z number (omega (arith, ints, h.2)) (int_lt z number) refl) [
      | inl less ↦ (more.has z).1 (inl ((gathered.has z).1 (h.0, h.1, less)))
      | inr is ↦ (more.has z).1 (inr is)
    ],
  );
}

pub passed : (values : List ℤ) (set : List (ℤ × ℤ)) (number : ℤ) (runs : List (ℤ × ℤ)) → Gathered values set number runs → (Contains values number × IsIn set number → ⊥) → Gathered values set (number +ℤ pos 1) runs
passed values set number runs gathered not = record {
  are = gathered.are;
  has = λ z. (
    λ has. let was = (gathered.has z).0 has in (was.0, was.1, omega (arith, ints, was.2)),
    λ h. elim (split_at z number (omega (arith, ints, h.2)) (int_lt z number) refl) [
      | inl less ↦ (gathered.has z).1 (h.0, h.1, less)
      | inr is ↦ absurd (not (subst (λ (y : ℤ). Contains values y) is h.0, subst (λ (y : ℤ). IsIn set y) is h.1))
    ],
  );
}

pub gathered_none : (box : List (List ℤ)) (x : Term) (set : List (ℤ × ℤ)) → IsDomain (term_values box x) → Gathered (term_values box x) set (term_low box x) []
gathered_none box x set domain = record {
  are = tt;
  has = λ z. (λ has. absurd (in_none z has), λ h. let ends = between (term_values box x) z domain h.0 in let first = low_is_first box x in absurd (omega (arith, ints, ends.0, h.2, first)));
}

pub gathered_all : (box : List (List ℤ)) (x : Term) (set : List (ℤ × ℤ)) (before : ℤ) (runs : List (ℤ × ℤ)) → IsDomain (term_values box x) → term_high box x <ℤ before → Gathered (term_values box x) set before runs → runs ≡ set_left box set x
unfolding set_left
gathered_all box x set before runs domain past gathered =
    same_runs runs (runs_of (filter (in_set set) (term_values box x))) gathered.are (left_runs (term_values box x) set domain.rising) (λ z.
    let left = left_has (term_values box x) set z domain.rising in (
      λ has. let h = (gathered.has z).0 has in left.1 (h.0, h.1),
      λ has. let h = left.0 has in
          let ends = between (term_values box x) z domain h.0 in
          let last = high_is_last box x in
          (gathered.has z).1 (h.0, h.1, omega (arith, ints, ends.1, last, past)),
    ))

-- ---- the runs of a set that are cut off
clipped_first : (low high : ℤ) (run : ℤ × ℤ) (set : List (ℤ × ℤ)) (z : ℤ) → (IsIn (clipped low high set) z ↔ (IsIn set z × (low ≤ℤ z) × (z ≤ℤ high)))
    → (t u : Bool) → int_le run.0 high ≡ t → int_le low run.1 ≡ u → IsIn (clipped low high (run ∷ set)) z ↔ (IsIn (run ∷ set) z × (low ≤ℤ z) × (z ≤ℤ high))
unfolding clipped IsWithin
clipped_first low high run set z rest true true e f = rw (e, f) (
  λ has. elim (in_cases (cut low high run) (clipped low high set) z has) [
    | inl here ↦ (in_first run set z (omega (arith, ints, clamps, here.0), omega (arith, ints, clamps, here.1)), omega (arith, ints, clamps, here.0), omega (arith, ints, clamps, here.1))
    | inr later ↦ let old = rest.0 later in (in_later run set z old.0, old.1, old.2)
  ],
  λ h. elim (in_cases run set z h.0) [
    | inl here ↦ in_first (cut low high run) (clipped low high set) z (omega (arith, ints, clamps, here.0, h.1), omega (arith, ints, clamps, here.1, h.2))
    | inr later ↦ in_later (cut low high run) (clipped low high set) z (rest.1 (later, h.1, h.2))
  ],
)
clipped_first low high run set z rest true false e f = rw (e, f) (
  λ has. let old = rest.0 has in (in_later run set z old.0, old.1, old.2),
  λ h. elim (in_cases run set z h.0) [ inl here ↦ absurd (omega (arith, ints, here.0, here.1, h.1, h.2, f)) | inr later ↦ rest.1 (later, h.1, h.2) ],
)
clipped_first low high run set z rest false u e f = rw e (
  λ has. let old = rest.0 has in (in_later run set z old.0, old.1, old.2),
  λ h. elim (in_cases run set z h.0) [ inl here ↦ absurd (omega (arith, ints, here.0, here.1, h.1, h.2, e)) | inr later ↦ rest.1 (later, h.1, h.2) ],
)

clipped_has : (low high : ℤ) (set : List (ℤ × ℤ)) (z : ℤ) → IsIn (clipped low high set) z ↔ (IsIn set z × (low ≤ℤ z) × (z ≤ℤ high))
unfolding clipped
clipped_has low high [] z = (λ has. absurd (in_none z has), λ h. absurd (in_none z h.0))
clipped_has low high (run ∷ set) z = clipped_first low high run set z (clipped_has low high set z) (int_le run.0 high) (int_le low run.1) refl refl

lower_above : (before less : ℤ) (runs : List (ℤ × ℤ)) → less ≤ℤ before → AreAbove before runs → AreAbove less runs
lower_above before less [] le above = tt
lower_above before less (run ∷ runs) le above = (omega (arith, ints, above.0, le), above.1, above.2)

clipped_step : (low high : ℤ) → low ≤ℤ high → (before : ℤ) (run : ℤ × ℤ) (set : List (ℤ × ℤ)) → AreAbove before (run ∷ set) → AreAbove run.1 (clipped low high set)
    → (t u : Bool) → int_le run.0 high ≡ t → int_le low run.1 ≡ u → AreAbove before (clipped low high (run ∷ set))
unfolding clipped
clipped_step low high order before run set above rest true true e f = rw (e, f) (
  omega (arith, ints, clamps, above.0),
  omega (arith, ints, clamps, above.1, e, f, order),
  lower_above run.1 (int_min run.1 high) (clipped low high set) (omega (arith, ints, clamps)) rest,
)
clipped_step low high order before run set above rest true false e f = rw (e, f) (lower_above run.1 before (clipped low high set) (omega (arith, ints, above.0, above.1)) rest)
clipped_step low high order before run set above rest false u e f = rw e (lower_above run.1 before (clipped low high set) (omega (arith, ints, above.0, above.1)) rest)

clipped_above : (low high : ℤ) → low ≤ℤ high → (before : ℤ) (set : List (ℤ × ℤ)) → AreAbove before set → AreAbove before (clipped low high set)
unfolding clipped
clipped_above low high order before [] above = tt
clipped_above low high order before (run ∷ set) above = clipped_step low high order before run set above (clipped_above low high order run.1 set above.2) (int_le run.0 high) (int_le low run.1) refl refl

above_runs : (before : ℤ) (runs : List (ℤ × ℤ)) → AreAbove before runs → AreRuns runs
above_runs before [] above = tt
above_runs before (run ∷ runs) above = (above.1, above.2)

runs_above : (run : ℤ × ℤ) (runs : List (ℤ × ℤ)) → AreRuns (run ∷ runs) → AreAbove (run.0 -ℤ pos 2) (run ∷ runs)
runs_above run runs are = (omega (arith, ints), are.0, are.1)

pub clipped_runs : (low high : ℤ) (set : List (ℤ × ℤ)) → low ≤ℤ high → AreRuns set → AreRuns (clipped low high set)
unfolding clipped
clipped_runs low high [] order are = tt
clipped_runs low high (run ∷ set) order are = above_runs (run.0 -ℤ pos 2) (clipped low high (run ∷ set)) (clipped_above low high order (run.0 -ℤ pos 2) (run ∷ set) (runs_above run set are))

pub domain_order : (box : List (List ℤ)) (x : Term) → IsDomain (term_values box x) → term_low box x ≤ℤ term_high box x
domain_order box x domain =
    let ends = between (term_values box x) (low_value (term_values box x)) domain (low_in (term_values box x) domain) in
    let first = low_is_first box x in
    let last = high_is_last box x in
    omega (arith, ints, ends.1, first, last)

-- a domain that has all numbers between its bounds
pub clipped_left : (box : List (List ℤ)) (x : Term) (set : List (ℤ × ℤ)) → IsDomain (term_values box x) → AreRuns set → HasAll (term_values box x) (term_low box x) (term_high box x) → clipped (term_low box x) (term_high box x) set ≡ set_left box set x
unfolding set_left
clipped_left box x set domain are whole =
    let values = term_values box x in
    let first = low_is_first box x in
    let last = high_is_last box x in
    same_runs (clipped (term_low box x) (term_high box x) set) (runs_of (filter (in_set set) values)) (clipped_runs (term_low box x) (term_high box x) set (domain_order box x domain) are) (left_runs values set domain.rising) (λ z.
    let left = left_has values set z domain.rising in
    let clip = clipped_has (term_low box x) (term_high box x) set z in (
      λ has. let h = clip.0 has in left.1 (whole.has z h.1 h.2, h.0),
      λ has. let h = left.0 has in let ends = between values z domain h.0 in clip.1 (h.1, omega (arith, ints, ends.0, first), omega (arith, ints, ends.1, last)),
    ))

-- a set that has all values
filter_all : (p : ℤ → Bool) (xs : List ℤ) → ((z : ℤ) → Contains xs z → p z ≡ true) → filter p xs ≡ xs
filter_all p [] all = refl
filter_all p (x ∷ xs) all =
    let first : p x ≡ true = all x (zero, omega arith, refl) in
    let rest = filter_all p xs (λ z has. let (k, h, is) = has in all z (suc k, omega (arith, h), is)) in
    rw first (ap (λ (ys : List ℤ). x ∷ ys) rest)

pub all_left : (box : List (List ℤ)) (x : Term) (set : List (ℤ × ℤ)) → ((z : ℤ) → Contains (term_values box x) z → in_set set z ≡ true) → set_left box set x ≡ runs_of (term_values box x)
unfolding set_left
all_left box x set all = ap runs_of (filter_all (in_set set) (term_values box x) all)

pub whole_left : (box : List (List ℤ)) (x : Term) (whole : List (ℤ × ℤ)) (bounds : ℤ × ℤ) → IsDomain (term_values box x) → whole ≡ bounds ∷ [] → bounds.0 ≡ term_low box x → bounds.1 ≡ term_high box x → set_left box whole x ≡ runs_of (term_values box x)
whole_left box x whole bounds domain is low high = all_left box x whole (λ z has.
    let ends = between (term_values box x) z domain has in
    let first = low_is_first box x in
    let last = high_is_last box x in
    rw is (in_test (bounds ∷ []) z (one_in bounds z (omega (arith, ints, ends.0, first, low)) (omega (arith, ints, ends.1, last, high)))))
