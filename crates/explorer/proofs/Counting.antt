-- How often paths are held.
use Rattle.std.proofs.Common.{◌≡◌, inl, inr, ℕ, zero, suc, ◌+◌, ◌≤◌, Bool, true, false, cond, eqb, List, [], ◌∷◌, ◌++◌, refl, sym, ap, subst, ℤ, arith}
use Rattle.std.specs.Prelude.{◌&&◌, not, Contains}
use Rattle.std.specs.List.{count_by}
use Rattle.std.specs.Ordering.{int_eq}
use Rattle.std.proofs.lemmas.Bool.{eq-eqb, eqb-true}
use Rattle.std.proofs.lemmas.Bool.Decides.{Decides-int_eq}
use Rattle.std.proofs.lemmas.List.Sums.{sum_by-append, sum_by-cons}
use Rattle.std.proofs.lemmas.List.Elements.{Contains-append_left, Contains-append_right, Contains-append_cases, Contains-push}
use Rattle.search_core.specs.declared.decision.Decision.{Decision}
use Rattle.search_core.specs.declared.stand.Stand.{Stand}
use Rattle.search_core.specs.declared.stand.Stand.TheVariants as stand
use Rattle.search_core.specs.Tasks.{Task, as_held, as_settled, Replaced}
use Rattle.explorer.specs.Holding.{same_decision, same_path, is_held_by, is_hold, times_in}

both : (a b : Bool) → (a && b) ≡ true → (a ≡ true) × (b ≡ true)
both true b h = (refl, h)
both false b h = cc

-- ---- the test of paths is equality
bits_same : (a b : Bool) → cond a b (not b) ≡ true → a ≡ b
bits_same true true h = refl
bits_same true false h = cc
bits_same false true h = cc
bits_same false false h = refl

bit_itself : (a : Bool) → cond a a (not a) ≡ true
bit_itself true = refl
bit_itself false = refl

decision_itself : (d : Decision) → same_decision d d ≡ true
decision_itself d = rw (eq-eqb d.var d.var refl, (Decides-int_eq d.at d.at).1 refl) (bit_itself d.up)

pub path_itself : (p : List Decision) → same_path p p ≡ true
unfolding same_path
path_itself [] = refl
path_itself (d ∷ p) = rw (decision_itself d) (path_itself p)

decisions_same : (d e : Decision) → same_decision d e ≡ true → d ≡ e
decisions_same d e h =
    let (one, rest) = both (eqb d.var e.var) (int_eq d.at e.at && cond d.up e.up (not e.up)) h in
    let (two, three) = both (int_eq d.at e.at) (cond d.up e.up (not e.up)) rest in
    let a : d.var ≡ e.var = eqb-true d.var e.var one in
    let b : d.at ≡ e.at = (Decides-int_eq d.at e.at).0 two in
    let c : d.up ≡ e.up = bits_same d.up e.up three in λ i. record { var = a i; at = b i; up = c i }

pub paths_same : (p q : List Decision) → same_path p q ≡ true → p ≡ q
unfolding same_path
paths_same [] [] h = refl
paths_same [] (e ∷ q) h = cc
paths_same (d ∷ p) [] h = cc
paths_same (d ∷ p) (e ∷ q) h =
    let (one, two) = both (same_decision d e) (same_path p q) h in
    let first : d ≡ e = decisions_same d e one in
    let rest : p ≡ q = paths_same p q two in cc

-- ---- counts of a list in which a task is replaced
count_cons : {X : Type 0} (t : X → Bool) (x : X) (xs : List X) → count_by t (x ∷ xs) ≡ cond (t x) 1 0 + count_by t xs
count_cons t x xs = sum_by-cons (λ y. cond (t y) 1 0) x xs

count_append : {X : Type 0} (t : X → Bool) (xs ys : List X) → count_by t (xs ++ ys) ≡ count_by t xs + count_by t ys
count_append t xs ys = sum_by-append (λ y. cond (t y) 1 0) xs ys

pub count_replaced : (t : Task → Bool) (old : List Task) (x : Task) (ys new : List Task) → Replaced old x ys new → count_by t new + count_by t (x ∷ []) ≡ count_by t old + count_by t ys
count_replaced t old x ys new r = rw (r.was, r.«is») (omega (
  arith,
  count_append t r.before (x ∷ r.after),
  count_append t r.before (r.after ++ ys),
  count_append t r.after ys,
  count_cons t x r.after,
  count_cons t x [],
))

-- ---- what the test says of a task
one_of : (w : ℕ) (q p : List Decision) → is_hold w q (as_held w p) ≡ same_path q p
one_of w q p = rw (eq-eqb w w refl) refl

pub count_held : (w : ℕ) (q p : List Decision) → count_by (is_hold w q) (as_held w p ∷ []) ≡ times_in q (p ∷ [])
unfolding times_in
count_held w q p = rw (one_of w q p) refl

pub counts_held : (w : ℕ) (q p r : List Decision) → count_by (is_hold w q) (as_held w p ∷ as_held w r ∷ []) ≡ times_in q (p ∷ r ∷ [])
unfolding times_in
counts_held w q p r = rw (one_of w q p, one_of w q r) refl

pub count_settled : (w v : ℕ) (q p : List Decision) (b : ℤ) → count_by (is_hold w q) (as_settled v b p ∷ []) ≡ 0
count_settled w v q p b = refl

hold_stands : (w : ℕ) (q p : List Decision) (s : Stand) → (is_held_by w s && same_path q p) ≡ true → (s ≡ stand.Held w) × (p ≡ q)
hold_stands w q p stand.Open h = cc
hold_stands w q p (stand.Held v) h =
    let (one, two) = both (eqb v w) (same_path q p) h in
    let a : v ≡ w = eqb-true v w one in
    (cc, sym (paths_same q p two))
hold_stands w q p (stand.Settled v b) h = cc

hold_is : (w : ℕ) (q : List Decision) (t : Task) → is_hold w q t ≡ true → t ≡ as_held w q
hold_is w q t h =
    let (a, b) = hold_stands w q t.path t.stand h in λ i. record { path = b i; stand = a i }

-- ---- a task stands in a list
pub record Splits (xs : List Task) (x : Task) : Type 0 where
  pub before : List Task
  pub after : List Task
  pub was : xs ≡ before ++ x ∷ after

later : (z x : Task) (xs : List Task) → Splits xs x → Splits (z ∷ xs) x
later z x xs s = record { before = z ∷ s.before; after = s.after; was = ap (λ t. z ∷ t) s.was }

here : (z x : Task) (xs : List Task) → z ≡ x → Splits (z ∷ xs) x
here z x xs e = record { before = []; after = xs; was = ap (λ t. t ∷ xs) e }

pub split_of : (xs : List Task) (x : Task) → Contains xs x → Splits xs x
split_of [] x (k, l, e) = absurd (omega arith)
split_of (z ∷ xs) x (zero, l, e) = here z x xs e
split_of (z ∷ xs) x (suc k, l, e) = later z x xs (split_of xs x (k, omega (arith, l), e))

found_more : (w : ℕ) (q : List Decision) (z : Task) (xs : List Task) (b : Bool) → is_hold w q z ≡ b → (1 ≤ count_by (is_hold w q) xs → Splits xs (as_held w q)) → 1 ≤ cond b 1 0 + count_by (is_hold w q) xs → Splits (z ∷ xs) (as_held w q)
found_more w q z xs true e f h = here z (as_held w q) xs (hold_is w q z e)
found_more w q z xs false e f h = later z (as_held w q) xs (f (omega (arith, h)))

pub found : (w : ℕ) (q : List Decision) (xs : List Task) → 1 ≤ count_by (is_hold w q) xs → Splits xs (as_held w q)
found w q [] h = absurd (omega arith)
found w q (z ∷ xs) h = found_more w q z xs (is_hold w q z) refl (found w q xs) (omega (arith, h, count_cons (is_hold w q) z xs))

pub without : (xs : List Task) (x : Task) (s : Splits xs x) (ys : List Task) → Replaced xs x ys (s.before ++ (s.after ++ ys))
without xs x s ys = record { before = s.before; after = s.after; was = s.was; «is» = refl }

only : (x y : Task) → Contains (x ∷ []) y → y ≡ x
only x y (zero, l, e) = sym e
only x y (suc k, l, e) = absurd (omega (arith, l))

-- what is not taken out stays
pub kept : (old : List Task) (x : Task) (ys new : List Task) (y : Task) → Replaced old x ys new → (y ≡ x → ⊥) → Contains old y → Contains new y
kept old x ys new y r not c =
    subst (λ t. Contains t y) (sym r.«is») (elim (Contains-append_cases r.before (x ∷ r.after) y (subst (λ t. Contains t y) r.was c)) [
      | inl a ↦ Contains-append_left r.before (r.after ++ ys) y a
      | inr a ↦ Contains-append_right r.before (r.after ++ ys) y (elim (Contains-append_cases (x ∷ []) r.after y a) [
        | inl one ↦ absurd (not (only x y one))
        | inr b ↦ Contains-append_left r.after ys y b
      ])
    ])

-- what is put in its place is there
pub added : (old : List Task) (x y : Task) (new : List Task) → Replaced old x (y ∷ []) new → Contains new y
added old x y new r =
    subst (λ t. Contains t y) (sym r.«is») (Contains-append_right r.before (r.after ++ y ∷ []) y (Contains-push r.after y))
