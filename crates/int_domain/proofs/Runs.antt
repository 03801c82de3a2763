-- The values of runs: which they are, that they rise, and where they lie.
use Rattle.std.proofs.Common.{◌≡◌, ℕ, suc, zero, ◌+◌, ◌-◌, ◌<◌, ◌⊎◌, List, [], ◌∷◌, ◌++◌, length, get_or, take, refl, sym, ap, subst, ◌∙◌, arith, Bool, true, false, ◌||◌, ◌&&◌, inl, inr, ⊎_elim, Option, Some, None, append-nil}
use Rattle.std.specs.Prelude.{ℤ, pos, ◌+ℤ◌, ◌-ℤ◌, ◌≤ℤ◌, ◌<ℤ◌, int_le, IfSome}
use Rattle.std.proofs.lemmas.Int.{ints, by_lt_z}
use Rattle.std.proofs.lemmas.Bool.{false≢true, or_cases, or_left, or_right, and_parts, and_from, and_left, and_right, false_from_ne_true, cases_eq, cases_lt}
use Rattle.std.proofs.lemmas.List.Folds.{list_any_more}
use Rattle.int_domain.specs.declared.TheConstants.{LARGEST_VALUE, LARGEST_NARROW_HULL}
use Rattle.int_domain.specs.declared.bitmap.Bitmap.{Bitmap}
use Rattle.int_domain.specs.Values.{range, values_of, is_in_runs, AreRuns, LieBetween, IsWithin, is_wide, low_of, high_of}
use Rattle.int_domain.specs.Bits.{marks}
use Rattle.int_domain.specs.Kept.{keeps, kept_between, FitsHull, IsSound}
use Rattle.int_domain.proofs.Members.{Has, Rises, all_has, all_of_has, same_by_members, has_range, range_has, rises_range, low_is, high_is}
use Rattle.int_domain.proofs.Narrowed.{le_from_test, test_from_le, test_from_gt, test_from_lt, lt_from_test, has_kept, kept_has, rises_kept, all_kept}

abbrev pub Run : Type 0
Run = ℤ × ℤ

has_left : (v : ℤ) (xs ys : List ℤ) → Has v xs → Has v (xs ++ ys)
has_left v [] ys h = absurd h
has_left v (x ∷ xs) ys h = elim h [ inl e ↦ inl e | inr k ↦ inr (has_left v xs ys k) ]

has_right : (v : ℤ) (xs ys : List ℤ) → Has v ys → Has v (xs ++ ys)
has_right v [] ys h = h
has_right v (x ∷ xs) ys h = inr (has_right v xs ys h)

has_parts : (v : ℤ) (xs ys : List ℤ) → Has v (xs ++ ys) → Has v xs ⊎ Has v ys
has_parts v [] ys h = inr h
has_parts v (x ∷ xs) ys h = elim h [ inl e ↦ inl (inl e) | inr k ↦ elim (has_parts v xs ys k) [ inl a ↦ inl (inr a) | inr b ↦ inr b ] ]

rises_append : (xs ys : List ℤ) → Rises xs → Rises ys → ((v w : ℤ) → Has v xs → Has w ys → v <ℤ w) → Rises (xs ++ ys)
rises_append [] ys r s apart = s
rises_append (x ∷ xs) ys r s apart = (
  all_of_has (λ y. x <ℤ y) (xs ++ ys) (λ v h. elim (has_parts v xs ys h) [ inl a ↦ all_has (λ y. x <ℤ y) xs v r.0 a | inr b ↦ apart x v (inl refl) b ]),
  rises_append xs ys r.1 s (λ v w h k. apart v w (inr h) k),
)

-- the run that has a number
pub in_run_at : (runs : List Run) (v : ℤ) (d : Run) → is_in_runs runs v ≡ true → (k : ℕ) × (k < length runs) × ((get_or runs k d).0 ≤ℤ v) × (v ≤ℤ (get_or runs k d).1)
unfolding is_in_runs
in_run_at [] v d e = absurd (false≢true e)
in_run_at (r ∷ rs) v d e =
    elim (or_cases (int_le r.0 v && int_le v r.1) (is_in_runs rs v) e) [
      | inl h ↦ let p = and_parts (int_le r.0 v) (int_le v r.1) h in (zero, omega arith, le_from_test r.0 v p.0, le_from_test v r.1 p.1)
      | inr h ↦ let t = in_run_at rs v d h in (suc t.0, omega (arith, t.1), t.2, t.3)
    ]

pub in_runs_from : (runs : List Run) (v : ℤ) (d : Run) (k : ℕ) → k < length runs → (get_or runs k d).0 ≤ℤ v → v ≤ℤ (get_or runs k d).1 → is_in_runs runs v ≡ true
unfolding is_in_runs
in_runs_from [] v d k h p q = absurd (omega arith)
in_runs_from (r ∷ rs) v d zero h p q = or_left (int_le r.0 v && int_le v r.1) (is_in_runs rs v) (and_from (int_le r.0 v) (int_le v r.1) (test_from_le r.0 v p) (test_from_le v r.1 q))
in_runs_from (r ∷ rs) v d (suc k) h p q = or_right (int_le r.0 v && int_le v r.1) (is_in_runs rs v) (in_runs_from rs v d k (omega arith) p q)

has_values : (runs : List Run) (v : ℤ) → Has v (values_of runs) → is_in_runs runs v ≡ true
unfolding values_of is_in_runs
has_values [] v h = absurd h
has_values (r ∷ rs) v h =
    elim (has_parts v (range r.0 r.1) (values_of rs) h) [
      | inl a ↦ let k = has_range r.0 r.1 v a in or_left (int_le r.0 v && int_le v r.1) (is_in_runs rs v) (and_from (int_le r.0 v) (int_le v r.1) (test_from_le r.0 v k.0) (test_from_le v r.1 k.1))
      | inr b ↦ or_right (int_le r.0 v && int_le v r.1) (is_in_runs rs v) (has_values rs v b)
    ]

values_has : (runs : List Run) (v : ℤ) → is_in_runs runs v ≡ true → Has v (values_of runs)
unfolding values_of is_in_runs
values_has [] v e = absurd (false≢true e)
values_has (r ∷ rs) v e =
    elim (or_cases (int_le r.0 v && int_le v r.1) (is_in_runs rs v) e) [
      | inl h ↦ let p = and_parts (int_le r.0 v) (int_le v r.1) h in has_left v (range r.0 r.1) (values_of rs) (range_has r.0 r.1 v (le_from_test r.0 v p.0) (le_from_test v r.1 p.1))
      | inr h ↦ has_right v (range r.0 r.1) (values_of rs) (values_has rs v h)
    ]

-- ---- runs in order
later_runs : (r : Run) (rs : List Run) → AreRuns (r ∷ rs) → AreRuns rs
later_runs r rs s = record {
  ordered = λ k d h. s.ordered (suc k) d (omega arith);
  apart = λ i j d p q. s.apart (suc i) (suc j) d (omega arith) (omega arith);
  within = λ k d h. s.within (suc k) d (omega arith);
}

rises_values : (runs : List Run) → AreRuns runs → Rises (values_of runs)
unfolding values_of
rises_values [] s = tt
rises_values (r ∷ rs) s =
    rises_append (range r.0 r.1) (values_of rs) (rises_range r.0 r.1) (rises_values rs (later_runs r rs s))
    (λ v w h k.
    let low = has_range r.0 r.1 v h in
    let high = in_run_at rs w r (has_values rs w k) in
    let gap : (r.1 +ℤ pos 1) <ℤ (get_or rs high.0 r).0 = s.apart zero (suc high.0) r (omega arith) (omega (arith, high.1)) in
    omega (arith, ints, low.1, gap, high.2))

get_same : (runs : List Run) (k : ℕ) (d e : Run) → k < length runs → get_or runs k d ≡ get_or runs k e
get_same [] k d e h = absurd (omega arith)
get_same (r ∷ rs) zero d e h = refl
get_same (r ∷ rs) (suc k) d e h = get_same rs k d e (omega arith)

-- each run lies between the first number of the first and the last number of the last
from_first : (runs : List Run) (k : ℕ) (d : Run) → AreRuns runs → k < length runs → (get_or runs 0 d).0 ≤ℤ (get_or runs k d).0
from_first runs k d s h =
    ⊎_elim
    (λ same. subst (λ j. (get_or runs 0 d).0 ≤ℤ (get_or runs j d).0) (sym same) (omega (arith, ints)))
    (λ later.
    let gap : ((get_or runs 0 d).1 +ℤ pos 1) <ℤ (get_or runs k d).0 = s.apart 0 k d (omega arith) h in
    let order : (get_or runs 0 d).0 ≤ℤ (get_or runs 0 d).1 = s.ordered 0 d (omega arith) in
    omega (arith, ints))
    (cases_eq k 0)

to_last : (runs : List Run) (k : ℕ) (d : Run) → AreRuns runs → k < length runs → (get_or runs k d).1 ≤ℤ (get_or runs (length runs - 1) d).1
to_last runs k d s h =
    ⊎_elim
    (λ same. subst (λ j. (get_or runs k d).1 ≤ℤ (get_or runs j d).1) same (omega (arith, ints)))
    (λ earlier.
    let gap : ((get_or runs k d).1 +ℤ pos 1) <ℤ (get_or runs (length runs - 1) d).0 = s.apart k (length runs - 1) d (omega arith) (omega arith) in
    let order : (get_or runs (length runs - 1) d).0 ≤ℤ (get_or runs (length runs - 1) d).1 = s.ordered (length runs - 1) d (omega arith) in
    omega (arith, ints))
    (cases_eq k (length runs - 1))

pub first_to_last : (runs : List Run) (d : Run) → AreRuns runs → 0 < length runs → (get_or runs 0 d).0 ≤ℤ (get_or runs (length runs - 1) d).1
first_to_last runs d s h =
    let order : (get_or runs 0 d).0 ≤ℤ (get_or runs 0 d).1 = s.ordered 0 d h in
    let last : (get_or runs 0 d).1 ≤ℤ (get_or runs (length runs - 1) d).1 = to_last runs 0 d s h in
    omega (arith, ints)

pub lie_between : (runs : List Run) (d : Run) (low high : ℤ) → AreRuns runs → low ≡ (get_or runs 0 d).0 → high ≡ (get_or runs (length runs - 1) d).1 → LieBetween runs low high
lie_between runs d low high s low_is high_is = record {
  each = λ k e h.
      let first : (get_or runs 0 e).0 ≤ℤ (get_or runs k e).0 = from_first runs k e s h in
      let order : (get_or runs k e).0 ≤ℤ (get_or runs k e).1 = s.ordered k e h in
      let last : (get_or runs k e).1 ≤ℤ (get_or runs (length runs - 1) e).1 = to_last runs k e s h in
      let low_at : low ≡ (get_or runs 0 e).0 = low_is ∙ ap (λ (r : Run). r.0) (get_same runs 0 d e (omega arith)) in
      let high_at : high ≡ (get_or runs (length runs - 1) e).1 = high_is ∙ ap (λ (r : Run). r.1) (get_same runs (length runs - 1) d e (omega arith)) in
      (omega (arith, ints), order, omega (arith, ints));
}

-- a number of a run lies between the ends of all
in_runs_between : (runs : List Run) (d : Run) (low high v : ℤ) → LieBetween runs low high → is_in_runs runs v ≡ true → (low ≤ℤ v) × (v ≤ℤ high)
in_runs_between runs d low high v lie yes_in =
    let at = in_run_at runs v d yes_in in
    let run = lie.each at.0 d at.1 in
    (omega (arith, ints, at.2, run.0), omega (arith, ints, at.3, run.2))

-- the ends of all runs are numbers of runs
first_in_runs : (runs : List Run) (d : Run) → AreRuns runs → 0 < length runs → is_in_runs runs (get_or runs 0 d).0 ≡ true
first_in_runs runs d s h = in_runs_from runs (get_or runs 0 d).0 d 0 h (omega (arith, ints)) (s.ordered 0 d h)

last_in_runs : (runs : List Run) (d : Run) → AreRuns runs → 0 < length runs → is_in_runs runs (get_or runs (length runs - 1) d).1 ≡ true
last_in_runs runs d s h = in_runs_from runs (get_or runs (length runs - 1) d).1 d (length runs - 1) (omega arith) (s.ordered (length runs - 1) d (omega arith)) (omega (arith, ints))

pub low_of_values : (runs : List Run) (d : Run) → AreRuns runs → 0 < length runs → low_of (values_of runs) ≡ (get_or runs 0 d).0
low_of_values runs d s h =
    low_is (values_of runs) (get_or runs 0 d).0 (rises_values runs s) (values_has runs _ (first_in_runs runs d s h))
    (λ v k. (in_runs_between runs d _ _ v (lie_between runs d _ _ s refl refl) (has_values runs v k)).0)

pub high_of_values : (runs : List Run) (d : Run) → AreRuns runs → 0 < length runs → high_of (values_of runs) ≡ (get_or runs (length runs - 1) d).1
high_of_values runs d s h =
    high_is (values_of runs) (get_or runs (length runs - 1) d).1 (rises_values runs s) (values_has runs _ (last_in_runs runs d s h))
    (λ v k. (in_runs_between runs d _ _ v (lie_between runs d _ _ s refl refl) (has_values runs v k)).1)

-- runs whose hull has at most 1,024 numbers are those of a narrow domain
pub narrow_values : (runs : List Run) (d : Run) → AreRuns runs → 0 < length runs → (get_or runs (length runs - 1) d).1 <ℤ ((get_or runs 0 d).0 +ℤ LARGEST_NARROW_HULL) → is_wide (values_of runs) ≡ false
unfolding is_wide
narrow_values runs d s some narrow =
    rw (low_of_values runs d s some, high_of_values runs d s some)
    (false_from_ne_true _ (λ wide. let far = lt_from_test LARGEST_NARROW_HULL ((get_or runs (length runs - 1) d).1 -ℤ (get_or runs 0 d).0 +ℤ pos 1) wide in absurd (omega (arith, ints))))

-- ---- a bitmap of runs
or_false : (x : Bool) → (x || false) ≡ x
or_false true = refl
or_false false = refl

-- one run more
pub marks_more : (runs : List Run) (i : ℕ) (d : Run) (v : ℤ) (old new : Bool) → i < length runs → old ≡ is_in_runs (take i runs) v
    → ((get_or runs i d).0 ≤ℤ v → v ≤ℤ (get_or runs i d).1 → new ≡ true)
    → (v <ℤ (get_or runs i d).0 → new ≡ old)
    → ((get_or runs i d).1 <ℤ v → new ≡ old)
    → new ≡ is_in_runs (take (i + 1) runs) v
unfolding is_in_runs
marks_more runs i d v old new h before inside below above =
    let run : Run = get_or runs i d in
    let more : is_in_runs (take (i + 1) runs) v ≡ (is_in_runs (take i runs) v || (int_le run.0 v && int_le v run.1)) = list_any_more (λ (r : Run). int_le r.0 v && int_le v r.1) runs i d h in
    let same : (int_le run.0 v && int_le v run.1) ≡ false → new ≡ old → new ≡ is_in_runs (take (i + 1) runs) v = λ outside kept.
    kept ∙ before ∙ sym (more ∙ ap (λ t. is_in_runs (take i runs) v || t) outside ∙ or_false (is_in_runs (take i runs) v)) in
    by_lt_z v run.0
    (λ early. same (and_left (int_le run.0 v) (int_le v run.1) (test_from_gt run.0 v early)) (below early))
    (λ from. by_lt_z run.1 v
    (λ late. same (and_right (int_le run.0 v) (int_le v run.1) (test_from_gt v run.1 late)) (above late))
    (λ to. inside from to ∙ sym (more ∙ or_right (is_in_runs (take i runs) v) (int_le run.0 v && int_le v run.1) (and_from (int_le run.0 v) (int_le v run.1) (test_from_le run.0 v from) (test_from_le v run.1 to)))))

-- the domain of a bitmap that marks the numbers of the runs has their values
pub values_kept : (runs : List Run) (d : Run) (m : Bitmap) (low high : ℤ) → AreRuns runs → low ≡ (get_or runs 0 d).0 → high ≡ (get_or runs (length runs - 1) d).1
    → ((v : ℤ) → low ≤ℤ v → v ≤ℤ high → marks m v ≡ is_in_runs runs v) → kept_between (Some m) low high ≡ values_of runs
unfolding keeps
values_kept runs d m low high s low_is high_is same =
    same_by_members (kept_between (Some m) low high) (values_of runs) (rises_kept (Some m) low high) (rises_values runs s)
    (λ v h. let k = has_kept (Some m) low high v h in values_has runs v (sym (same v k.0 k.1) ∙ k.2))
    (λ v h.
    let yes_in : is_in_runs runs v ≡ true = has_values runs v h in
    let k = in_runs_between runs d low high v (lie_between runs d low high s low_is high_is) yes_in in
    kept_has (Some m) low high v (k.0, k.1, same v k.0 k.1 ∙ yes_in))

-- one run alone
one_run : (runs : List Run) (d : Run) → length runs ≡ 1 → values_of runs ≡ range (get_or runs 0 d).0 (get_or runs (length runs - 1) d).1
unfolding values_of
one_run [] d h = absurd (omega arith)
one_run (r ∷ []) d h = append-nil (range r.0 r.1)
one_run (r ∷ s ∷ rs) d h = absurd (omega arith)

-- a hull with no room for a gap, or a wide one, has one run
hull_has_one : (runs : List Run) (d : Run) (low high : ℤ) → AreRuns runs → 0 < length runs → (1 < length runs → is_wide (values_of runs) ≡ false)
    → low ≡ (get_or runs 0 d).0 → high ≡ (get_or runs (length runs - 1) d).1 → FitsHull None low high → length runs ≡ 1
unfolding is_wide FitsHull
hull_has_one runs d low high s some narrow low_is high_is fits =
    ⊎_elim
    (λ several. ⊎_elim
    (λ few.
    let first : (get_or runs 0 d).0 ≤ℤ (get_or runs 0 d).1 = s.ordered 0 d some in
    let last : (get_or runs (length runs - 1) d).0 ≤ℤ (get_or runs (length runs - 1) d).1 = s.ordered (length runs - 1) d (omega arith) in
    let gap : ((get_or runs 0 d).1 +ℤ pos 1) <ℤ (get_or runs (length runs - 1) d).0 = s.apart 0 (length runs - 1) d (omega arith) (omega arith) in
    absurd (omega (arith, ints)))
    (λ wide. absurd (false≢true (sym (narrow several) ∙ rw (low_of_values runs d s some, high_of_values runs d s some) (test_from_lt LARGEST_NARROW_HULL ((get_or runs (length runs - 1) d).1 -ℤ (get_or runs 0 d).0 +ℤ pos 1) (omega (arith, ints))))))
    fits)
    (λ few. omega arith)
    (cases_lt 1 (length runs))

pub values_all : (runs : List Run) (d : Run) (low high : ℤ) → AreRuns runs → 0 < length runs → (1 < length runs → is_wide (values_of runs) ≡ false)
    → low ≡ (get_or runs 0 d).0 → high ≡ (get_or runs (length runs - 1) d).1 → FitsHull None low high → kept_between None low high ≡ values_of runs
values_all runs d low high s some narrow low_is high_is fits =
    all_kept low high ∙ ap (λ z. range z high) low_is ∙ ap (range (get_or runs 0 d).0) high_is ∙ sym (one_run runs d (hull_has_one runs d low high s some narrow low_is high_is fits))

-- what the bitmap of a new domain says
abbrev pub MarksRuns : List Run → ℤ → ℤ → Option Bitmap → Type 0
MarksRuns runs low high b = IfSome b (λ m. (v : ℤ) → low ≤ℤ v → v ≤ℤ high → marks m v ≡ is_in_runs runs v)

pub spanning_values : (runs : List Run) (d : Run) (b : Option Bitmap) (low high : ℤ) → AreRuns runs → 0 < length runs → (1 < length runs → is_wide (values_of runs) ≡ false)
    → low ≡ (get_or runs 0 d).0 → high ≡ (get_or runs (length runs - 1) d).1 → FitsHull b low high → MarksRuns runs low high b → kept_between b low high ≡ values_of runs
spanning_values runs d None low high s some narrow low_is high_is fits same = values_all runs d low high s some narrow low_is high_is fits
spanning_values runs d (Some m) low high s some narrow low_is high_is fits same = values_kept runs d m low high s low_is high_is same

ends_kept : (runs : List Run) (b : Option Bitmap) (low high v : ℤ) → MarksRuns runs low high b → low ≤ℤ v → v ≤ℤ high → is_in_runs runs v ≡ true → keeps b v ≡ true
unfolding keeps
ends_kept runs None low high v same p q yes_in = refl
ends_kept runs (Some m) low high v same p q yes_in = same v p q ∙ yes_in

pub spanning_sound : (runs : List Run) (d : Run) (b : Option Bitmap) (low high : ℤ) → AreRuns runs → 0 < length runs
    → low ≡ (get_or runs 0 d).0 → high ≡ (get_or runs (length runs - 1) d).1 → FitsHull b low high → MarksRuns runs low high b → IsSound b low high
spanning_sound runs d b low high s some low_is high_is fits same =
    let ordered : low ≤ℤ high = let whole = first_to_last runs d s some in omega (arith, ints) in
    let first_within = (s.within 0 d some).0 in
    let last_within = (s.within (length runs - 1) d (omega arith)).1 in
    record {
      ordered = ordered;
      low_within = subst (IsWithin LARGEST_VALUE) (sym low_is) first_within;
      high_within = subst (IsWithin LARGEST_VALUE) (sym high_is) last_within;
      low_kept = ends_kept runs b low high low same (omega (arith, ints)) ordered (ap (is_in_runs runs) low_is ∙ first_in_runs runs d s some);
      high_kept = ends_kept runs b low high high same ordered (omega (arith, ints)) (ap (is_in_runs runs) high_is ∙ last_in_runs runs d s some);
      hull = fits;
    }
