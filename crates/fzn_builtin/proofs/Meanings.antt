-- That the rows of the table say of their arguments what `specs/Names.antt` says.
use Rattle.std.proofs.Common.{◌≡◌, ℕ, zero, suc, ◌<◌, ◌%◌, Bool, true, false, ◌&&◌, cond, eqb, List, [], ◌∷◌, length, map, refl, sym, ap, ◌∙◌, subst, arith, lit≤, Some, None, inl, inr, ℤ, pos, negsuc, ◌+ℤ◌, ◌*ℤ◌, ◌≤ℤ◌, ◌<ℤ◌}
use Rattle.std.specs.Prelude.{All, Any, Contains, ◌↔◌, ◌⊎◌, option_map, int_le, int_lt}
use Rattle.std.specs.List.{zip, AllByRecursion as ByRecursion}
use Rattle.std.proofs.lemmas.Bool.{eq-eqb, ne_eqb, eqb-true}
use Rattle.std.proofs.lemmas.Int.{ints}
use Rattle.std.proofs.lemmas.List.{length-map}
use Rattle.std.proofs.lemmas.List.Elements.{All-from_recursion, recursion_from_All}
use Rattle.fzn_model.specs.declared.term.Term.{Term}
use Rattle.fzn_model.specs.declared.term.Term.TheVariants.{Const}
use Rattle.fzn_model.specs.declared.lin.Rel.{Rel}
use Rattle.fzn_model.specs.declared.lin.Rel.TheVariants as rel
use Rattle.fzn_model.specs.declared.base.Base.{Base}
use Rattle.fzn_model.specs.declared.con.Con.TheVariants as con
use Rattle.fzn_model.specs.declared.cumulative.CumTask.{CumTask}
use Rattle.fzn_model.specs.Meaning.{val, lin_sum, Stands, HoldsBase, Holds, HasValue, AreAtMost, AreAtLeast, AreDistinct, AreUntaken, IsFree, amount_at, usage, IsTask, AreTasks, FitsAlways}
use Rattle.fzn_model.specs.Sets.{IsIn}
use Rattle.fzn_builtin.specs.Builtins.{needs_of, least_of, shape_of}
use Rattle.fzn_builtin.specs.Arguments.{IsConst, FitsNeed, number, term_at, terms_at, set_at}
use Rattle.fzn_builtin.specs.Constraints.{linear, difference, balance, weighed, sum, clause, member, all_true, any_true, greatest, least, task, cumulative, rows}
use Rattle.fzn_builtin.specs.Names.{IsTrueIn, IsFalseIn, IsBoolIn, NamesMean, consts, weighted, HasValueOf, AreDifferent, used_at, FitsCapacity}

-- equivalences
same : {P : Type 0} → P ↔ P
same = (λ h. h, λ h. h)

not_iff : {P Q : Type 0} → (P ↔ Q) → (P → ⊥) ↔ (Q → ⊥)
not_iff e = (λ not_p q. not_p (e.1 q), λ not_q p. not_q (e.0 p))

iff_iff : {P Q R : Type 0} → (P ↔ Q) → (P ↔ R) ↔ (Q ↔ R)
iff_iff e = (λ h. (λ q. h.0 (e.1 q), λ r. e.0 (h.1 r)), λ h. (λ p. h.0 (e.0 p), λ r. e.1 (h.1 r)))

both : {P Q R : Type 0} → (P ↔ Q) → (Q ↔ R) → P ↔ R
both e f = (λ p. f.0 (e.0 p), λ r. e.1 (f.1 r))

-- a difference, and a balance
differ : (r : Rel) (a b : Term) (θ : List ℤ) → HoldsBase (linear r (difference a b) (pos 0)) θ ↔ Stands r (val a θ) (val b θ)
unfolding linear
differ rel.Le a b θ = (λ h. omega (arith, ints), λ h. omega (arith, ints))
differ rel.Eq a b θ = (λ h. omega (arith, ints), λ h. omega (arith, ints))
differ rel.Ne a b θ = not_iff {P = lin_sum (difference a b) θ ≡ pos 0} {Q = val a θ ≡ val b θ} (λ h. omega (arith, ints), λ h. omega (arith, ints))

below : (a b : Term) (θ : List ℤ) → HoldsBase (linear rel.Le (difference a b) (negsuc 0)) θ ↔ (val a θ <ℤ val b θ)
unfolding linear
below a b θ = (λ h. omega (arith, ints), λ h. omega (arith, ints))

balanced : (a b c : Term) (θ : List ℤ) → HoldsBase (linear rel.Eq (balance a b c) (pos 0)) θ ↔ (val a θ +ℤ val b θ ≡ val c θ)
unfolding linear
balanced a b c θ = (λ h. omega (arith, ints), λ h. omega (arith, ints))

-- constants
are_consts : (zs : List ℤ) → All IsConst (consts zs)
are_consts zs = All-from_recursion IsConst (consts zs) (by zs)
  where
    by : (ys : List ℤ) → ByRecursion IsConst (consts ys)
    by [] = tt
    by (y ∷ ys) = (tt, by ys)

numbers_of : (zs : List ℤ) → map number (consts zs) ≡ zs
numbers_of [] = refl
numbers_of (z ∷ zs) = ap (λ (ys : List ℤ). z ∷ ys) (numbers_of zs)

-- sums
sums : (cs : List ℤ) (xs : List Term) (θ : List ℤ) → lin_sum (map weighed (zip (consts cs) xs)) θ ≡ weighted cs xs θ
sums [] xs θ = refl
sums (c ∷ cs) [] θ = refl
sums (c ∷ cs) (x ∷ xs) θ = ap (λ (z : ℤ). (c *ℤ val x θ) +ℤ z) (sums cs xs θ)

abbrev summed : Rel → List ℤ → List Term → ℤ → Base
summed r cs xs k = linear r (map weighed (zip (consts cs) xs)) k

stands : (r : Rel) (cs : List ℤ) (xs : List Term) (k : ℤ) (θ : List ℤ) → HoldsBase (summed r cs xs k) θ ↔ Stands r (weighted cs xs θ) k
unfolding linear
stands r cs xs k θ = subst (λ (z : ℤ). Stands r (lin_sum (map weighed (zip (consts cs) xs)) θ) k ↔ Stands r z k) (sums cs xs θ) (λ h. h, λ h. h)

sum_there : (r : Rel) (cs : List ℤ) (xs : List Term) (k : ℤ) → length cs ≡ length xs → sum r (consts cs) xs k ≡ Some (summed r cs xs k)
unfolding sum
sum_there r cs xs k e = rw (eq-eqb (length (consts cs)) (length xs) (length-map cs (λ z. Const z) ∙ e)) refl

sum_none : (r : Rel) (cs xs : List Term) (k : ℤ) → (length cs ≡ length xs → ⊥) → sum r cs xs k ≡ None
unfolding sum
sum_none r cs xs k unequal = rw (ne_eqb (length cs) (length xs) unequal) refl

-- an element of a list, and one behind it
here : {X : Type 0} (P : X → Type 0) (x : X) (xs : List X) → P x → Any P (x ∷ xs)
here P x xs p = (0, x, omega arith, refl, p)

behind : {X : Type 0} (P : X → Type 0) (x : X) (xs : List X) → Any P xs → Any P (x ∷ xs)
behind P x xs (k, y, h, e, p) = (suc k, y, omega arith, e, p)

first_or : {X : Type 0} (P : X → Type 0) (x : X) (xs : List X) → Any P (x ∷ xs) → P x ⊎ Any P xs
first_or P x xs (zero, y, h, e, p) = inl (subst P (sym e) p)
first_or P x xs (suc k, y, h, e, p) = inr (k, y, omega arith, e, p)

none : {X : Type 0} (P : X → Type 0) → Any P [] → ⊥
none P (k, y, h, e, p) = absurd (omega arith)

of_two : {X : Type 0} (P : X → Type 0) (x y : X) → Any P (x ∷ y ∷ []) → P x ⊎ P y
of_two P x y a = first (first_or P x (y ∷ []) a)
  where
    second : P y ⊎ Any P [] → P x ⊎ P y
    second (inl p) = inr p
    second (inr b) = absurd (none P b)

    first : P x ⊎ Any P (y ∷ []) → P x ⊎ P y
    first (inl p) = inl p
    first (inr b) = second (first_or P y [] b)

two_of : {X : Type 0} (P : X → Type 0) (x y : X) → P x ⊎ P y → Any P (x ∷ y ∷ [])
two_of P x y (inl p) = here P x (y ∷ []) p
two_of P x y (inr p) = behind P x (y ∷ []) (here P y [] p)

all_two : {X : Type 0} (P : X → Type 0) (x y : X) → All P (x ∷ y ∷ []) ↔ (P x × P y)
all_two P x y = (λ h. let r = recursion_from_All P (x ∷ y ∷ []) h in (r.0, r.1.0), λ h. All-from_recursion P (x ∷ y ∷ []) (h.0, (h.1, tt)))

-- bools
false_or_true : (θ : List ℤ) (ps : List Term) → ByRecursion (IsBoolIn θ) ps → Any (IsFalseIn θ) ps ⊎ ByRecursion (IsTrueIn θ) ps
false_or_true θ [] h = inr tt
false_or_true θ (p ∷ ps) h = step h.0 (false_or_true θ ps h.1)
  where
    step : IsBoolIn θ p → Any (IsFalseIn θ) ps ⊎ ByRecursion (IsTrueIn θ) ps → Any (IsFalseIn θ) (p ∷ ps) ⊎ ByRecursion (IsTrueIn θ) (p ∷ ps)
    step (inl f) rest = inl (here (IsFalseIn θ) p ps f)
    step (inr t) (inl a) = inl (behind (IsFalseIn θ) p ps a)
    step (inr t) (inr r) = inr (t, r)

not_both : (θ : List ℤ) (p : Term) → IsFalseIn θ p → IsTrueIn θ p → ⊥
not_both θ p f t = absurd (cc)

never_both : (θ : List ℤ) (ps : List Term) → Any (IsFalseIn θ) ps → All (IsTrueIn θ) ps → ⊥
never_both θ ps (k, p, h, e, f) all = not_both θ p f (subst (IsTrueIn θ) e (all k p h))

any_true_is : (ps : List Term) (θ : List ℤ) → HoldsBase (clause ps []) θ ↔ Any (IsTrueIn θ) ps
unfolding clause HasValue
any_true_is ps θ = (to, λ h. inl h)
  where
    to : Any (λ t. val t θ ≡ pos 1) ps ⊎ Any (λ t. val t θ ≡ pos 0) [] → Any (IsTrueIn θ) ps
    to (inl a) = a
    to (inr a) = absurd (none (λ t. val t θ ≡ pos 0) a)

any_false_is : (ps : List Term) (θ : List ℤ) → HoldsBase (clause [] ps) θ ↔ Any (IsFalseIn θ) ps
unfolding clause HasValue
any_false_is ps θ = (to, λ h. inr h)
  where
    to : Any (λ t. val t θ ≡ pos 1) [] ⊎ Any (λ t. val t θ ≡ pos 0) ps → Any (IsFalseIn θ) ps
    to (inl a) = absurd (none (λ t. val t θ ≡ pos 1) a)
    to (inr a) = a

clause_is : (ps qs : List Term) (θ : List ℤ) → HoldsBase (clause ps qs) θ ↔ (Any (IsTrueIn θ) ps ⊎ Any (IsFalseIn θ) qs)
unfolding clause HasValue
clause_is ps qs θ = (λ h. h, λ h. h)

-- one of two opposites each, and the first of one with the first of the other, so the second with the second
opposites : {D A F T : Type 0} → D ⊎ A → (D → A → ⊥) → F ⊎ T → (F → T → ⊥) → (D ↔ F) ↔ (A ↔ T)
opposites {D = D} {A = A} {F = F} {T = T} da not_da ft not_ft = (λ h. (to h ft, from h da), λ k. (to_back k ft, from_back k da))
  where
    to : (D ↔ F) → F ⊎ T → A → T
    to h (inl f) a = absurd (not_da (h.1 f) a)
    to h (inr t) a = t

    from : (D ↔ F) → D ⊎ A → T → A
    from h (inl d) t = absurd (not_ft (h.0 d) t)
    from h (inr a) t = a

    to_back : (A ↔ T) → F ⊎ T → D → F
    to_back k (inl f) d = f
    to_back k (inr t) d = absurd (not_da d (k.1 t))

    from_back : (A ↔ T) → D ⊎ A → F → D
    from_back k (inl d) f = d
    from_back k (inr a) f = absurd (not_ft f (k.0 a))

all_by : (θ : List ℤ) (ps : List Term) → Any (IsFalseIn θ) ps ⊎ ByRecursion (IsTrueIn θ) ps → Any (IsFalseIn θ) ps ⊎ All (IsTrueIn θ) ps
all_by θ ps (inl a) = inl a
all_by θ ps (inr r) = inr (All-from_recursion (IsTrueIn θ) ps r)

all_true_is : (ps : List Term) (r : Term) (θ : List ℤ) → All (IsBoolIn θ) ps → IsBoolIn θ r → Holds (all_true ps r) θ ↔ (All (IsTrueIn θ) ps ↔ IsTrueIn θ r)
all_true_is ps r θ bs b =
    both {P = Holds (all_true ps r) θ} {Q = Any (IsFalseIn θ) ps ↔ IsFalseIn θ r} (iff_iff (any_false_is ps θ)) (opposites (all_by θ ps (false_or_true θ ps (recursion_from_All (IsBoolIn θ) ps bs))) (never_both θ ps) b (not_both θ r))

-- sets
member_is : (x : Term) (s : List (ℤ × ℤ)) (θ : List ℤ) → HoldsBase (member x s) θ ↔ IsIn s (val x θ)
unfolding member
member_is x s θ = (λ h. h, λ h. h)

-- greatest and least
greatest_there : (m : Term) (xs : List Term) → 0 < length xs → greatest m xs ≡ Some (con.Greatest m xs)
unfolding greatest
greatest_there m [] h = absurd (omega arith)
greatest_there m (x ∷ xs) h = refl

least_there : (m : Term) (xs : List Term) → 0 < length xs → least m xs ≡ Some (con.Least m xs)
unfolding least
least_there m [] h = absurd (omega arith)
least_there m (x ∷ xs) h = refl

greatest_is : (m : Term) (xs : List Term) (θ : List ℤ) → Holds (con.Greatest m xs) θ ↔ (HasValueOf θ xs m × All (λ x. val x θ ≤ℤ val m θ) xs)
unfolding HasValue AreAtMost
greatest_is m xs θ = (λ h. h, λ h. h)

least_is : (m : Term) (xs : List Term) (θ : List ℤ) → Holds (con.Least m xs) θ ↔ (HasValueOf θ xs m × All (λ x. val m θ ≤ℤ val x θ) xs)
unfolding HasValue AreAtLeast
least_is m xs θ = (λ h. h, λ h. h)

with_both : {H P Q R : Type 0} → (P ↔ (Q × R)) → (H × P) ↔ (H × Q × R)
with_both e = (λ h. (h.0, (e.0 h.1).0, (e.0 h.1).1), λ h. (h.0, e.1 (h.1, h.2)))

-- different values
different_is : (xs : List Term) (θ : List ℤ) → Holds (con.AllDiffExcept xs []) θ ↔ AreDifferent θ xs
unfolding AreDistinct AreUntaken IsFree
different_is xs θ = (λ h. h.0, λ h. (h, λ k t q. λ c. absurd (empty c)))
  where
    empty : {z : ℤ} → Contains [] z → ⊥
    empty (k, h, e) = absurd (omega arith)

-- tasks
abbrev tasks_of : List Term → List Term → List Term → List CumTask
tasks_of ss ds rs = map task (zip (zip ss ds) rs)

used_is : (θ : List ℤ) (t : ℤ) (ss ds rs : List Term) → amount_at (map (usage θ) (tasks_of ss ds rs)) t ≡ used_at θ t ss ds rs
used_is θ t [] ds rs = refl
used_is θ t (s ∷ ss) [] rs = refl
used_is θ t (s ∷ ss) (d ∷ ds) [] = refl
used_is θ t (s ∷ ss) (d ∷ ds) (r ∷ rs) = ap (λ (z : ℤ). cond (int_le (val s θ) t && int_lt t (val s θ +ℤ val d θ)) (val r θ) (pos 0) +ℤ z) (used_is θ t ss ds rs)

module _ (θ : List ℤ) where
  abbrev IsAtLeastZero : Term → Type 0
  IsAtLeastZero x = pos 0 ≤ℤ val x θ

  to_lists : (ss ds rs : List Term) → length ss ≡ length ds → length ss ≡ length rs → ByRecursion (IsTask θ) (tasks_of ss ds rs) → ByRecursion IsAtLeastZero ds × ByRecursion IsAtLeastZero rs
  to_lists [] [] [] d r h = (tt, tt)
  to_lists (s ∷ ss) (x ∷ ds) (y ∷ rs) d r h = let rest = to_lists ss ds rs (omega arith) (omega arith) h.1 in ((h.0.0, rest.0), (h.0.1, rest.1))
  to_lists ss ds rs d r h = absurd (omega arith)

  from_lists : (ss ds rs : List Term) → ByRecursion IsAtLeastZero ds → ByRecursion IsAtLeastZero rs → ByRecursion (IsTask θ) (tasks_of ss ds rs)
  from_lists [] ds rs d r = tt
  from_lists (s ∷ ss) [] rs d r = tt
  from_lists (s ∷ ss) (x ∷ ds) [] d r = tt
  from_lists (s ∷ ss) (x ∷ ds) (y ∷ rs) d r = ((d.0, r.0), from_lists ss ds rs d.1 r.1)

capacity_is : (ss ds rs : List Term) (b : Term) (θ : List ℤ) → length ss ≡ length ds → length ss ≡ length rs → Holds (con.CumulUsed (tasks_of ss ds rs) [] b) θ ↔ FitsCapacity θ ss ds rs b
unfolding AreTasks FitsAlways
capacity_is ss ds rs b θ d r = (
  λ h. let lists = to_lists θ ss ds rs d r (recursion_from_All (IsTask θ) (tasks_of ss ds rs) h.0) in
      (All-from_recursion (IsAtLeastZero θ) ds lists.0, All-from_recursion (IsAtLeastZero θ) rs lists.1, λ t. subst (λ (z : ℤ). z ≤ℤ val b θ) (used_is θ t ss ds rs) (h.1 t)),
  λ h. (
    All-from_recursion (IsTask θ) (tasks_of ss ds rs) (from_lists θ ss ds rs (recursion_from_All (IsAtLeastZero θ) ds h.0) (recursion_from_All (IsAtLeastZero θ) rs h.1)),
    λ t. subst (λ (z : ℤ). z ≤ℤ val b θ) (sym (used_is θ t ss ds rs)) (h.2 t),
  ),
)

cumulative_there : (ss ds rs : List Term) (b : Term) → length ss ≡ length ds → length ss ≡ length rs → cumulative ss ds rs b ≡ Some (con.CumulUsed (tasks_of ss ds rs) [] b)
unfolding cumulative
cumulative_there ss ds rs b d r = rw (eq-eqb (length ss) (length ds) d, eq-eqb (length ss) (length rs) r) refl

cumulative_none : (ss ds rs : List Term) (b : Term) → ((length ss ≡ length ds) × (length ss ≡ length rs) → ⊥) → cumulative ss ds rs b ≡ None
unfolding cumulative
cumulative_none ss ds rs b unequal = by (eqb (length ss) (length ds)) (eqb (length ss) (length rs)) refl refl
  where
    by : (p q : Bool) → eqb (length ss) (length ds) ≡ p → eqb (length ss) (length rs) ≡ q → cond (p && q) (Some (con.CumulUsed (tasks_of ss ds rs) [] b)) None ≡ None
    by true true d r = absurd (unequal (eqb-true _ _ d, eqb-true _ _ r))
    by true false d r = refl
    by false q d r = refl

-- rows
rows_there : (x : Term) (xs : List Term) (zs : List ℤ) → length zs % length (x ∷ xs) ≡ 0 → rows (x ∷ xs) (consts zs) ≡ Some (con.Table (x ∷ xs) zs)
unfolding rows
rows_there x xs zs h =
    let whole : length (consts zs) % length (x ∷ xs) ≡ 0 = ap (λ (n : ℕ). n % length (x ∷ xs)) (length-map zs (λ z. Const z)) ∙ h in
    rw (eq-eqb (length (consts zs) % length (x ∷ xs)) 0 whole, numbers_of zs) refl

rows_none : (x : Term) (xs zs : List Term) → (length zs % length (x ∷ xs) ≡ 0 → ⊥) → rows (x ∷ xs) zs ≡ None
unfolding rows
rows_none x xs zs unequal = rw (ne_eqb (length zs % length (x ∷ xs)) 0 unequal) refl

no_rows : (zs : List Term) → rows [] zs ≡ None
unfolding rows
no_rows zs = refl

-- ---- all lines
pub names_mean : NamesMean
unfolding needs_of least_of shape_of FitsNeed term_at terms_at set_at greatest least
names_mean = record {
  int_eq_means = λ a b. record { number = 0; named = refl; fits = (tt, (tt, tt)); whole = (lit≤ tt, lit≤ tt); constraint = con.Base (linear rel.Eq (difference a b) (pos 0)); there = refl; holds = λ θ bs. differ rel.Eq a b θ };
  int_ne_means = λ a b. record { number = 1; named = refl; fits = (tt, (tt, tt)); whole = (lit≤ tt, lit≤ tt); constraint = con.Base (linear rel.Ne (difference a b) (pos 0)); there = refl; holds = λ θ bs. differ rel.Ne a b θ };
  int_le_means = λ a b. record { number = 2; named = refl; fits = (tt, (tt, tt)); whole = (lit≤ tt, lit≤ tt); constraint = con.Base (linear rel.Le (difference a b) (pos 0)); there = refl; holds = λ θ bs. differ rel.Le a b θ };
  int_lt_means = λ a b. record { number = 3; named = refl; fits = (tt, (tt, tt)); whole = (lit≤ tt, lit≤ tt); constraint = con.Base (linear rel.Le (difference a b) (negsuc 0)); there = refl; holds = λ θ bs. below a b θ };
  bool_eq_means = λ p q. record { number = 4; named = refl; fits = (tt, (tt, tt)); whole = (lit≤ tt, lit≤ tt); constraint = con.Base (linear rel.Eq (difference p q) (pos 0)); there = refl; holds = λ θ bs. differ rel.Eq p q θ };
  bool_le_means = λ p q. record { number = 5; named = refl; fits = (tt, (tt, tt)); whole = (lit≤ tt, lit≤ tt); constraint = con.Base (linear rel.Le (difference p q) (pos 0)); there = refl; holds = λ θ bs. differ rel.Le p q θ };
  bool_lt_means = λ p q. record { number = 6; named = refl; fits = (tt, (tt, tt)); whole = (lit≤ tt, lit≤ tt); constraint = con.Base (linear rel.Le (difference p q) (negsuc 0)); there = refl; holds = λ θ bs. below p q θ };
  bool2int_means = λ p a. record { number = 7; named = refl; fits = (tt, (tt, tt)); whole = (lit≤ tt, lit≤ tt); constraint = con.Base (linear rel.Eq (difference p a) (pos 0)); there = refl; holds = λ θ bs. differ rel.Eq p a θ };
  bool_not_means = λ p q. record { number = 8; named = refl; fits = (tt, (tt, tt)); whole = (lit≤ tt, lit≤ tt); constraint = con.Base (linear rel.Ne (difference p q) (pos 0)); there = refl; holds = λ θ bs. differ rel.Ne p q θ };
  bool_xor_means = λ p q. record { number = 9; named = refl; fits = (tt, (tt, tt)); whole = (lit≤ tt, lit≤ tt); constraint = con.Base (linear rel.Ne (difference p q) (pos 0)); there = refl; holds = λ θ bs. differ rel.Ne p q θ };
  bool_xor_reif_means = λ p q r. record { number = 9; named = refl; fits = (tt, (tt, (tt, tt))); whole = (lit≤ tt, lit≤ tt); constraint = con.Reif (linear rel.Ne (difference p q) (pos 0)) r true; there = refl; holds = λ θ bs. iff_iff (differ rel.Ne p q θ) };
  int_lin_eq_means = λ cs xs k h. record { number = 10; named = refl; fits = (are_consts cs, (tt, (tt, tt))); whole = (lit≤ tt, lit≤ tt); constraint = con.Base (summed rel.Eq cs xs k); there = ap (option_map con.Base) (sum_there rel.Eq cs xs k h); holds = λ θ bs. stands rel.Eq cs xs k θ };
  int_lin_le_means = λ cs xs k h. record { number = 11; named = refl; fits = (are_consts cs, (tt, (tt, tt))); whole = (lit≤ tt, lit≤ tt); constraint = con.Base (summed rel.Le cs xs k); there = ap (option_map con.Base) (sum_there rel.Le cs xs k h); holds = λ θ bs. stands rel.Le cs xs k θ };
  int_lin_ne_means = λ cs xs k h. record { number = 12; named = refl; fits = (are_consts cs, (tt, (tt, tt))); whole = (lit≤ tt, lit≤ tt); constraint = con.Base (summed rel.Ne cs xs k); there = ap (option_map con.Base) (sum_there rel.Ne cs xs k h); holds = λ θ bs. stands rel.Ne cs xs k θ };
  int_lin_eq_refuses = λ cs xs k h. record { number = 10; named = refl; refused = ap (option_map (con.Base)) (sum_none rel.Eq cs xs (number k) h) };
  int_lin_le_refuses = λ cs xs k h. record { number = 11; named = refl; refused = ap (option_map (con.Base)) (sum_none rel.Le cs xs (number k) h) };
  int_lin_ne_refuses = λ cs xs k h. record { number = 12; named = refl; refused = ap (option_map (con.Base)) (sum_none rel.Ne cs xs (number k) h) };
  int_eq_reif_means = λ a b r. record { number = 13; named = refl; fits = (tt, (tt, (tt, tt))); whole = (lit≤ tt, lit≤ tt); constraint = con.Reif (linear rel.Eq (difference a b) (pos 0)) r true; there = refl; holds = λ θ bs. iff_iff (differ rel.Eq a b θ) };
  int_ne_reif_means = λ a b r. record { number = 14; named = refl; fits = (tt, (tt, (tt, tt))); whole = (lit≤ tt, lit≤ tt); constraint = con.Reif (linear rel.Ne (difference a b) (pos 0)) r true; there = refl; holds = λ θ bs. iff_iff (differ rel.Ne a b θ) };
  int_le_reif_means = λ a b r. record { number = 15; named = refl; fits = (tt, (tt, (tt, tt))); whole = (lit≤ tt, lit≤ tt); constraint = con.Reif (linear rel.Le (difference a b) (pos 0)) r true; there = refl; holds = λ θ bs. iff_iff (differ rel.Le a b θ) };
  int_lt_reif_means = λ a b r. record { number = 16; named = refl; fits = (tt, (tt, (tt, tt))); whole = (lit≤ tt, lit≤ tt); constraint = con.Reif (linear rel.Le (difference a b) (negsuc 0)) r true; there = refl; holds = λ θ bs. iff_iff (below a b θ) };
  bool_eq_reif_means = λ p q r. record { number = 17; named = refl; fits = (tt, (tt, (tt, tt))); whole = (lit≤ tt, lit≤ tt); constraint = con.Reif (linear rel.Eq (difference p q) (pos 0)) r true; there = refl; holds = λ θ bs. iff_iff (differ rel.Eq p q θ) };
  bool_le_reif_means = λ p q r. record { number = 18; named = refl; fits = (tt, (tt, (tt, tt))); whole = (lit≤ tt, lit≤ tt); constraint = con.Reif (linear rel.Le (difference p q) (pos 0)) r true; there = refl; holds = λ θ bs. iff_iff (differ rel.Le p q θ) };
  bool_lt_reif_means = λ p q r. record { number = 19; named = refl; fits = (tt, (tt, (tt, tt))); whole = (lit≤ tt, lit≤ tt); constraint = con.Reif (linear rel.Le (difference p q) (negsuc 0)) r true; there = refl; holds = λ θ bs. iff_iff (below p q θ) };
  int_lin_eq_reif_means = λ cs xs k r h. record { number = 20; named = refl; fits = (are_consts cs, (tt, (tt, (tt, tt)))); whole = (lit≤ tt, lit≤ tt); constraint = con.Reif (summed rel.Eq cs xs k) r true; there = ap (option_map (λ b. con.Reif b r true)) (sum_there rel.Eq cs xs k h); holds = λ θ bs. iff_iff (stands rel.Eq cs xs k θ) };
  int_lin_le_reif_means = λ cs xs k r h. record { number = 21; named = refl; fits = (are_consts cs, (tt, (tt, (tt, tt)))); whole = (lit≤ tt, lit≤ tt); constraint = con.Reif (summed rel.Le cs xs k) r true; there = ap (option_map (λ b. con.Reif b r true)) (sum_there rel.Le cs xs k h); holds = λ θ bs. iff_iff (stands rel.Le cs xs k θ) };
  int_lin_ne_reif_means = λ cs xs k r h. record { number = 22; named = refl; fits = (are_consts cs, (tt, (tt, (tt, tt)))); whole = (lit≤ tt, lit≤ tt); constraint = con.Reif (summed rel.Ne cs xs k) r true; there = ap (option_map (λ b. con.Reif b r true)) (sum_there rel.Ne cs xs k h); holds = λ θ bs. iff_iff (stands rel.Ne cs xs k θ) };
  int_lin_eq_reif_refuses = λ cs xs k r h. record { number = 20; named = refl; refused = ap (option_map (λ b. con.Reif b r true)) (sum_none rel.Eq cs xs (number k) h) };
  int_lin_le_reif_refuses = λ cs xs k r h. record { number = 21; named = refl; refused = ap (option_map (λ b. con.Reif b r true)) (sum_none rel.Le cs xs (number k) h) };
  int_lin_ne_reif_refuses = λ cs xs k r h. record { number = 22; named = refl; refused = ap (option_map (λ b. con.Reif b r true)) (sum_none rel.Ne cs xs (number k) h) };
  bool_and_means = λ p q r. record { number = 23; named = refl; fits = (tt, (tt, (tt, tt))); whole = (lit≤ tt, lit≤ tt); constraint = all_true (p ∷ q ∷ []) r; there = refl; holds = λ θ bs. both (all_true_is (p ∷ q ∷ []) r θ ((all_two (IsBoolIn θ) p q).1 (bs.0, bs.1.0)) bs.1.1.0) (iff_iff (all_two (IsTrueIn θ) p q)) };
  array_bool_and_means = λ ps r. record { number = 24; named = refl; fits = (tt, (tt, tt)); whole = (lit≤ tt, lit≤ tt); constraint = all_true ps r; there = refl; holds = λ θ bs. all_true_is ps r θ bs.0 bs.1.0 };
  bool_or_means = λ p q r. record { number = 25; named = refl; fits = (tt, (tt, (tt, tt))); whole = (lit≤ tt, lit≤ tt); constraint = any_true (p ∷ q ∷ []) r; there = refl; holds = λ θ bs. iff_iff (both (any_true_is (p ∷ q ∷ []) θ) (of_two (IsTrueIn θ) p q, two_of (IsTrueIn θ) p q)) };
  array_bool_or_means = λ ps r. record { number = 26; named = refl; fits = (tt, (tt, tt)); whole = (lit≤ tt, lit≤ tt); constraint = any_true ps r; there = refl; holds = λ θ bs. iff_iff (any_true_is ps θ) };
  bool_clause_means = λ ps qs. record { number = 27; named = refl; fits = (tt, (tt, tt)); whole = (lit≤ tt, lit≤ tt); constraint = con.Base (clause ps qs); there = refl; holds = λ θ bs. clause_is ps qs θ };
  bool_clause_reif_means = λ ps qs r. record { number = 28; named = refl; fits = (tt, (tt, (tt, tt))); whole = (lit≤ tt, lit≤ tt); constraint = con.Reif (clause ps qs) r true; there = refl; holds = λ θ bs. iff_iff (clause_is ps qs θ) };
  set_in_means = λ x s. record { number = 29; named = refl; fits = (tt, (tt, tt)); whole = (lit≤ tt, lit≤ tt); constraint = con.Base (member x s); there = refl; holds = λ θ bs. member_is x s θ };
  set_in_reif_means = λ x s r. record { number = 30; named = refl; fits = (tt, (tt, (tt, tt))); whole = (lit≤ tt, lit≤ tt); constraint = con.Reif (member x s) r true; there = refl; holds = λ θ bs. iff_iff (member_is x s θ) };
  int_plus_means = λ a b c. record { number = 31; named = refl; fits = (tt, (tt, (tt, tt))); whole = (lit≤ tt, lit≤ tt); constraint = con.Base (linear rel.Eq (balance a b c) (pos 0)); there = refl; holds = λ θ bs. balanced a b c θ };
  int_times_means = λ a b c. record { number = 32; named = refl; fits = (tt, (tt, (tt, tt))); whole = (lit≤ tt, lit≤ tt); constraint = con.Times a b c; there = refl; holds = λ θ bs. same };
  int_div_means = λ a b c. record { number = 33; named = refl; fits = (tt, (tt, (tt, tt))); whole = (lit≤ tt, lit≤ tt); constraint = con.Div a b c; there = refl; holds = λ θ bs. same };
  int_mod_means = λ a b c. record { number = 34; named = refl; fits = (tt, (tt, (tt, tt))); whole = (lit≤ tt, lit≤ tt); constraint = con.Mod a b c; there = refl; holds = λ θ bs. same };
  int_abs_means = λ a b. record { number = 35; named = refl; fits = (tt, (tt, tt)); whole = (lit≤ tt, lit≤ tt); constraint = con.Abs a b; there = refl; holds = λ θ bs. same };
  int_max_means = λ a b c. record { number = 36; named = refl; fits = (tt, (tt, (tt, tt))); whole = (lit≤ tt, lit≤ tt); constraint = con.Greatest c (a ∷ b ∷ []); there = refl; holds = λ θ bs. both (greatest_is c (a ∷ b ∷ []) θ) (with_both (all_two (λ x. val x θ ≤ℤ val c θ) a b)) };
  int_min_means = λ a b c. record { number = 37; named = refl; fits = (tt, (tt, (tt, tt))); whole = (lit≤ tt, lit≤ tt); constraint = con.Least c (a ∷ b ∷ []); there = refl; holds = λ θ bs. both (least_is c (a ∷ b ∷ []) θ) (with_both (all_two (λ x. val c θ ≤ℤ val x θ) a b)) };
  array_int_maximum_means = λ m xs h. record { number = 38; named = refl; fits = (tt, (tt, tt)); whole = (lit≤ tt, lit≤ tt); constraint = con.Greatest m xs; there = greatest_there m xs h; holds = λ θ bs. greatest_is m xs θ };
  array_int_minimum_means = λ m xs h. record { number = 39; named = refl; fits = (tt, (tt, tt)); whole = (lit≤ tt, lit≤ tt); constraint = con.Least m xs; there = least_there m xs h; holds = λ θ bs. least_is m xs θ };
  array_int_maximum_refuses = λ m. record { number = 38; named = refl; refused = refl };
  array_int_minimum_refuses = λ m. record { number = 39; named = refl; refused = refl };
  array_int_element_means = λ i zs c. record { number = 40; named = refl; fits = (tt, (are_consts zs, (tt, tt))); whole = (lit≤ tt, lit≤ tt); constraint = con.Element i (consts zs) c; there = refl; holds = λ θ bs. same };
  array_var_int_element_means = λ i xs c. record { number = 41; named = refl; fits = (tt, (tt, (tt, tt))); whole = (lit≤ tt, lit≤ tt); constraint = con.Element i (xs) c; there = refl; holds = λ θ bs. same };
  array_bool_element_means = λ i zs p. record { number = 42; named = refl; fits = (tt, (are_consts zs, (tt, tt))); whole = (lit≤ tt, lit≤ tt); constraint = con.Element i (consts zs) p; there = refl; holds = λ θ bs. same };
  array_var_bool_element_means = λ i ps p. record { number = 43; named = refl; fits = (tt, (tt, (tt, tt))); whole = (lit≤ tt, lit≤ tt); constraint = con.Element i (ps) p; there = refl; holds = λ θ bs. same };
  fzn_all_different_int_means = λ xs. record { number = 44; named = refl; fits = (tt, tt); whole = (lit≤ tt, lit≤ tt); constraint = con.AllDiffExcept xs []; there = refl; holds = λ θ bs. different_is xs θ };
  all_different_int_means = λ xs. record { number = 45; named = refl; fits = (tt, tt); whole = (lit≤ tt, lit≤ tt); constraint = con.AllDiffExcept xs []; there = refl; holds = λ θ bs. different_is xs θ };
  fzn_cumulative_means = λ ss ds rs b d e. record { number = 46; named = refl; fits = (tt, (tt, (tt, (tt, tt)))); whole = (lit≤ tt, lit≤ tt); constraint = con.CumulUsed (tasks_of ss ds rs) [] b; there = cumulative_there ss ds rs b d e; holds = λ θ bs. capacity_is ss ds rs b θ d e };
  cumulative_means = λ ss ds rs b d e. record { number = 47; named = refl; fits = (tt, (tt, (tt, (tt, tt)))); whole = (lit≤ tt, lit≤ tt); constraint = con.CumulUsed (tasks_of ss ds rs) [] b; there = cumulative_there ss ds rs b d e; holds = λ θ bs. capacity_is ss ds rs b θ d e };
  fzn_cumulative_refuses = λ ss ds rs b h. record { number = 46; named = refl; refused = cumulative_none ss ds rs b h };
  cumulative_refuses = λ ss ds rs b h. record { number = 47; named = refl; refused = cumulative_none ss ds rs b h };
  fzn_table_int_means = λ x xs zs h. record { number = 48; named = refl; fits = (tt, (are_consts zs, tt)); whole = (lit≤ tt, lit≤ tt); constraint = con.Table (x ∷ xs) zs; there = rows_there x xs zs h; holds = λ θ bs. same };
  table_int_means = λ x xs zs h. record { number = 49; named = refl; fits = (tt, (are_consts zs, tt)); whole = (lit≤ tt, lit≤ tt); constraint = con.Table (x ∷ xs) zs; there = rows_there x xs zs h; holds = λ θ bs. same };
  fzn_table_int_refuses = λ x xs zs h. record { number = 48; named = refl; refused = rows_none x xs zs h };
  table_int_refuses = λ x xs zs h. record { number = 49; named = refl; refused = rows_none x xs zs h };
  fzn_table_int_refuses_none = λ zs. record { number = 48; named = refl; refused = no_rows zs };
  table_int_refuses_none = λ zs. record { number = 49; named = refl; refused = no_rows zs };
}
