-- Loads rise only where something begins, so what fits at all starts fits at all moments. The difference of two loads rises
-- only where one of the first begins or one of the second ends.
use Rattle.std.proofs.Common.{◌≡◌, ℕ, ◌+◌, ◌<◌, ◌⊎◌, inl, inr, Bool, cond, ◌&&◌, List, [], ◌∷◌, ◌++◌, map, length, get_or, drop, refl, ap, arith, ℤ, pos, ◌+ℤ◌, ◌-ℤ◌, ◌≤ℤ◌, ◌<ℤ◌, add-one, drop-cons}
use Rattle.std.specs.Prelude.{int_le, int_lt, All}
use Rattle.std.specs.List.{AllByRecursion}
use Rattle.std.proofs.lemmas.Int.{ints, by_lt_z}
use Rattle.std.proofs.lemmas.List.Elements.{recursion_from_All, All-nil, All-cons, All-head, All-tail, All-append, All-map}
use Rattle.fzn_model.specs.Meaning.{val, amount_at, usage, FitsAlways, AreTasks}
use Rattle.fzn_model.specs.Starts.{StartsFit, TaskStartsFit}
use Rattle.fzn_model.specs.Limits.{UsedInLimits, of_call}
use Rattle.fzn_model.specs.declared.cumulative.Used.{Used}
use Rattle.fzn_model.specs.declared.cumulative.CumTask.{CumTask}

-- whether the amount is used at the moment
abbrev pub active : Used → ℤ → Bool
active u t = int_le u.from t && int_lt t u.to

-- what is used of the amount at the moment
abbrev pub part : Used → ℤ → ℤ
part u t = cond (active u t) u.amount (pos 0)

-- the load of the amounts from place i on is that of the one there and of those after it
pub amount_drop : (us : List Used) (i : ℕ) (d : Used) (t : ℤ) → i < length us → amount_at (drop i us) t ≡ part (get_or us i d) t +ℤ amount_at (drop (i + 1) us) t
amount_drop us i d t h = rw add-one (ap (λ xs. amount_at xs t) (drop-cons us i d h))

-- the same of tasks
pub task_drop : (ks : List CumTask) (i : ℕ) (d : CumTask) (θ : List ℤ) (t : ℤ) → i < length ks → amount_at (map (usage θ) (drop i ks)) t ≡ part (usage θ (get_or ks i d)) t +ℤ amount_at (map (usage θ) (drop (i + 1) ks)) t
task_drop ks i d θ t h = rw add-one (ap (λ xs. amount_at (map (usage θ) xs) t) (drop-cons ks i d h))

-- the load of two lists is the sum of their loads
pub amount_append : (xs ys : List Used) (t : ℤ) → amount_at (xs ++ ys) t ≡ amount_at xs t +ℤ amount_at ys t
amount_append [] ys t = omega (arith, ints)
amount_append (x ∷ xs) ys t = omega (arith, ints, amount_append xs ys t)

-- ---- what is used of one amount
pub part_later : (u : Used) (t : ℤ) → t <ℤ u.from → part u t ≡ pos 0
part_later u t h = grind (arith, ints)

pub part_over : (u : Used) (t : ℤ) → u.to ≤ℤ t → part u t ≡ pos 0
part_over u t h = grind (arith, ints)

pub part_within : (u : Used) (t : ℤ) → u.from ≤ℤ t → t <ℤ u.to → part u t ≡ u.amount
part_within u t g h = grind (arith, ints)

pub part_not_negative : (u : Used) (t : ℤ) → pos 0 ≤ℤ u.amount → pos 0 ≤ℤ part u t
part_not_negative u t z = grind (arith, ints)

-- Of an amount that begins by m, if by t, as much is used at m as at the later t or more.
part_falls : (u : Used) (t m : ℤ) → m ≤ℤ t → (u.from ≤ℤ t → u.from ≤ℤ m) → pos 0 ≤ℤ u.amount → part u t ≤ℤ part u m
part_falls u t m h f z = grind (arith, ints)

-- Of one that ends by m, if by t, no more.
part_rises : (u : Used) (t m : ℤ) → m ≤ℤ t → (u.to ≤ℤ t → u.to ≤ℤ m) → pos 0 ≤ℤ u.amount → part u m ≤ℤ part u t
part_rises u t m h f z = grind (arith, ints)

-- ---- loads of amounts that aren't negative
abbrev pub NotNegative : List Used → Type 0
NotNegative us = All (λ u. pos 0 ≤ℤ u.amount) us

not_negative_by : (us : List Used) (t : ℤ) → AllByRecursion (λ u. pos 0 ≤ℤ u.amount) us → pos 0 ≤ℤ amount_at us t
not_negative_by [] t n = omega (arith, ints)
not_negative_by (u ∷ us) t n = omega (arith, ints, part_not_negative u t n.0, not_negative_by us t n.1)

pub amount_not_negative : (us : List Used) (t : ℤ) → NotNegative us → pos 0 ≤ℤ amount_at us t
amount_not_negative us t n = not_negative_by us t (recursion_from_All (λ u. pos 0 ≤ℤ u.amount) us n)

-- nothing is used before all of them begin, and after all have ended
pub amount_later : (us : List Used) (t : ℤ) → AllByRecursion (λ u. t <ℤ u.from) us → amount_at us t ≡ pos 0
amount_later [] t h = refl
amount_later (u ∷ us) t h = omega (arith, ints, part_later u t h.0, amount_later us t h.1)

pub amount_over : (us : List Used) (t : ℤ) → AllByRecursion (λ u. u.to ≤ℤ t) us → amount_at us t ≡ pos 0
amount_over [] t h = refl
amount_over (u ∷ us) t h = omega (arith, ints, part_over u t h.0, amount_over us t h.1)

-- ---- the latest of some moments
-- a moment that is by t is by m
abbrev IsBy : ℤ → ℤ → ℤ → Type 0
IsBy t m x = x ≤ℤ t → x ≤ℤ m

-- the latest of the moments that are by t
record Latest (xs : List ℤ) (t : ℤ) : Type 0 where
  moment : ℤ
  before : moment ≤ℤ t
  last : All (IsBy t moment) xs
  reached : (f : ℤ → ℤ) (r : ℤ) → All (λ x. f x ≤ℤ r) xs → f moment ≤ℤ r

first_latest : (x : ℤ) (xs : List ℤ) (t : ℤ) → x ≤ℤ t → All (IsBy t x) xs → Latest (x ∷ xs) t
first_latest x xs t h all = record { moment = x; before = h; last = All-cons (IsBy t x) x xs (λ _. omega (arith, ints)) all; reached = λ f r each. All-head (λ x. f x ≤ℤ r) x xs each }

same_latest : (x : ℤ) (xs : List ℤ) (t : ℤ) (l : Latest xs t) → IsBy t l.moment x → Latest (x ∷ xs) t
same_latest x xs t l h = record { moment = l.moment; before = l.before; last = All-cons (IsBy t l.moment) x xs h l.last; reached = λ f r each. l.reached f r (All-tail (λ x. f x ≤ℤ r) x xs each) }

in_order : (a b : ℤ) → (a ≤ℤ b) ⊎ (b <ℤ a)
in_order a b = by_lt_z b a inr inl

latest_more : (x : ℤ) (xs : List ℤ) (t : ℤ) → (x ≤ℤ t) ⊎ (t <ℤ x) → All (λ x. t <ℤ x) xs ⊎ Latest xs t → All (λ x. t <ℤ x) (x ∷ xs) ⊎ Latest (x ∷ xs) t
latest_more x xs t (inl h) (inl none) = inr (first_latest x xs t h (λ i d k e. let after = none i d k in absurd (omega (arith, ints, after, e))))
latest_more x xs t (inr h) (inl none) = inl (All-cons (λ x. t <ℤ x) x xs h none)
latest_more x xs t (inr h) (inr l) = inr (same_latest x xs t l (λ e. absurd (omega (arith, ints))))
latest_more x xs t (inl h) (inr l) = elim (in_order x l.moment) [
  | inl k ↦ inr (same_latest x xs t l (λ _. k))
  | inr k ↦ inr (first_latest x xs t h (λ i d j e. let by = l.last i d j e in omega (arith, ints, by, k)))
]

latest : (xs : List ℤ) (t : ℤ) → All (λ x. t <ℤ x) xs ⊎ Latest xs t
latest [] t = inl (All-nil (λ x. t <ℤ x))
latest (x ∷ xs) t = latest_more x xs t (in_order x t) (latest xs t)

-- ---- the difference of two loads
abbrev difference : List Used → List Used → ℤ → ℤ
difference us vs t = amount_at us t -ℤ amount_at vs t

-- the moments where it may rise: where one of the first begins, or one of the second ends
abbrev rises : List Used → List Used → List ℤ
rises us vs = map (λ (u : Used). u.from) us ++ map (λ (v : Used). v.to) vs

-- it is at most that at an earlier moment m by which all of these are that are by t
difference_falls : (us vs : List Used) (t m : ℤ) → m ≤ℤ t → AllByRecursion (IsBy t m) (rises us vs) → AllByRecursion (λ u. pos 0 ≤ℤ u.amount) us → AllByRecursion (λ v. pos 0 ≤ℤ v.amount) vs → difference us vs t ≤ℤ difference us vs m
difference_falls [] [] t m h f n k = omega (arith, ints)
difference_falls [] (v ∷ vs) t m h f n k = omega (arith, ints, part_rises v t m h f.0 k.0, difference_falls [] vs t m h f.1 tt k.1)
difference_falls (u ∷ us) vs t m h f n k = omega (arith, ints, part_falls u t m h f.0 n.0, difference_falls us vs t m h f.1 n.1 k)

-- and isn't positive before all of them
difference_early : (us vs : List Used) (t : ℤ) → AllByRecursion (λ x. t <ℤ x) (rises us vs) → AllByRecursion (λ v. pos 0 ≤ℤ v.amount) vs → difference us vs t ≤ℤ pos 0
difference_early [] [] t f k = omega (arith, ints)
difference_early [] (v ∷ vs) t f k = omega (arith, ints, part_not_negative v t k.0, difference_early [] vs t f.1 k.1)
difference_early (u ∷ us) vs t f k = omega (arith, ints, part_later u t f.0, difference_early us vs t f.1 k)

-- so what bounds it at these bounds it always
pub difference_below : (us vs : List Used) (r : ℤ) → NotNegative us → NotNegative vs → pos 0 ≤ℤ r
    → All (λ u. (amount_at us u.from -ℤ amount_at vs u.from) ≤ℤ r) us → All (λ v. (amount_at us v.to -ℤ amount_at vs v.to) ≤ℤ r) vs
    → (t : ℤ) → (amount_at us t -ℤ amount_at vs t) ≤ℤ r
difference_below us vs r n k z f g t =
    let some : (ws : List Used) → NotNegative ws → AllByRecursion (λ w. pos 0 ≤ℤ w.amount) ws = recursion_from_All (λ w. pos 0 ≤ℤ w.amount) in
    let P : ℤ → Type 0 = λ x. difference us vs x ≤ℤ r in
    elim (latest (rises us vs) t) [
      | inl none ↦ let early = difference_early us vs t (recursion_from_All (λ x. t <ℤ x) (rises us vs) none) (some vs k) in omega (arith, ints, early, z)
      | inr l ↦ let falls = difference_falls us vs t l.moment l.before (recursion_from_All (IsBy t l.moment) (rises us vs) l.last) (some us n) (some vs k) in
          let there = l.reached (difference us vs) r (All-append P (map (λ (u : Used). u.from) us) (map (λ (v : Used). v.to) vs) (All-map P (λ (u : Used). u.from) us f) (All-map P (λ (v : Used). v.to) vs g)) in
          omega (arith, ints, falls, there)
    ]

-- what bounds a load where something begins bounds it always
pub amount_below : (us : List Used) (r : ℤ) → NotNegative us → pos 0 ≤ℤ r → All (λ u. amount_at us u.from ≤ℤ r) us → (t : ℤ) → amount_at us t ≤ℤ r
amount_below us r n z f t =
    let none : NotNegative [] = All-nil (λ u. pos 0 ≤ℤ u.amount) in
    let below = difference_below us [] r n none z (λ i d h. let at = f i d h in omega (arith, ints, at)) (All-nil (λ v. (amount_at us v.to -ℤ pos 0) ≤ℤ r)) t in
    omega (arith, ints, below)

-- ---- what fits
-- neither what is used nor what tasks use is negative
none_negative : (us : List Used) (ks : List CumTask) (θ : List ℤ) → UsedInLimits of_call us → AreTasks ks θ → NotNegative (us ++ map (usage θ) ks)
unfolding AreTasks
none_negative us ks θ k h =
    All-append (λ u. pos 0 ≤ℤ u.amount) us (map (usage θ) ks) (λ i d p. (k.amounts i d p).0) (All-map (λ u. pos 0 ≤ℤ u.amount) (usage θ) ks (λ i d p. (h i d p).1))

-- what fits at each start fits at all moments
pub starts_enough : (us : List Used) (ks : List CumTask) (θ : List ℤ) (b : ℤ) → UsedInLimits of_call us → AreTasks ks θ → pos 0 ≤ℤ b → StartsFit (us ++ map (usage θ) ks) us b → TaskStartsFit (us ++ map (usage θ) ks) ks θ b → FitsAlways (us ++ map (usage θ) ks) b
unfolding StartsFit TaskStartsFit FitsAlways
starts_enough us ks θ b k h z f g =
    let all : List Used = us ++ map (usage θ) ks in
    let P : Used → Type 0 = λ u. amount_at all u.from ≤ℤ b in
    amount_below all b (none_negative us ks θ k h) z (All-append P us (map (usage θ) ks) f (All-map P (usage θ) ks g))

-- what fits at all moments fits at the starts of amounts
pub fits_starts : (all us : List Used) (b : ℤ) → FitsAlways all b → StartsFit all us b
unfolding StartsFit FitsAlways
fits_starts all us b f i d h = f _

-- and at the starts of tasks
pub fits_task_starts : (all : List Used) (ks : List CumTask) (θ : List ℤ) (b : ℤ) → FitsAlways all b → TaskStartsFit all ks θ b
unfolding TaskStartsFit FitsAlways
fits_task_starts all ks θ b f i d h = f _

-- where all fits, the limit isn't negative
pub fits_limit : (us : List Used) (ks : List CumTask) (θ : List ℤ) (b : ℤ) → UsedInLimits of_call us → AreTasks ks θ → FitsAlways (us ++ map (usage θ) ks) b → pos 0 ≤ℤ b
unfolding FitsAlways
fits_limit us ks θ b k h f = let p = amount_not_negative (us ++ map (usage θ) ks) (pos 0) (none_negative us ks θ k h) in let q = f (pos 0) in omega (arith, ints)

-- the use of a task isn't negative
pub task_amounts : (ks : List CumTask) (θ : List ℤ) (i : ℕ) (d : CumTask) → AreTasks ks θ → i < length ks → pos 0 ≤ℤ val (get_or ks i d).r θ
unfolding AreTasks
task_amounts ks θ i d h p = (h i d p).1
