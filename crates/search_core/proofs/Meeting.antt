-- Which assignments meet a path and its sides.
use Rattle.std.proofs.Common.{◌≡◌, ℕ, zero, suc, ◌<◌, Bool, true, false, List, [], ◌∷◌, ◌++◌, length, get_or, refl, ap, ◌∙◌, arith, ℤ}
use Rattle.std.specs.Prelude.{◌&&◌}
use Rattle.std.specs.List.{list_all}
use Rattle.std.proofs.lemmas.List.Folds.{list_all-append}
use Rattle.search_core.specs.declared.decision.Decision.{Decision}
use Rattle.search_core.specs.Paths.{meets, Meets, obeys}

-- ---- tests of all decisions
and_left : (a b : Bool) → (a && b) ≡ true → a ≡ true
and_left true b h = refl
and_left false b h = h

and_right : (a b : Bool) → (a && b) ≡ true → b ≡ true
and_right true b h = h
and_right false b h = cc

and_both : (a b : Bool) → a ≡ true → b ≡ true → (a && b) ≡ true
and_both true b h k = k
and_both false b h k = h

and_true : (a : Bool) → (a && true) ≡ a
and_true true = refl
and_true false = refl

pub each_of_all : (t : Decision → Bool) (p : List Decision) → list_all t p ≡ true → (k : ℕ) (d : Decision) → k < length p → t (get_or p k d) ≡ true
each_of_all t [] h k d l = absurd (omega arith)
each_of_all t (x ∷ p) h zero d l = and_left (t x) (list_all t p) h
each_of_all t (x ∷ p) h (suc k) d l = each_of_all t p (and_right (t x) (list_all t p) h) k d (omega arith)

pub all_of_each : (t : Decision → Bool) (p : List Decision) → ((k : ℕ) (d : Decision) → k < length p → t (get_or p k d) ≡ true) → list_all t p ≡ true
all_of_each t [] h = refl
all_of_each t (x ∷ p) h = and_both (t x) (list_all t p) (h 0 x (omega arith)) (all_of_each t p (λ k d l. h (suc k) d (omega arith)))

-- ---- a path and one decision more
pub meets_is : (p : List Decision) (d : Decision) (θ : List ℤ) → meets (p ++ d ∷ []) θ ≡ (meets p θ && obeys d θ)
unfolding meets
meets_is p d θ = list_all-append (λ c. obeys c θ) p (d ∷ []) ∙ ap (λ b. list_all (λ c. obeys c θ) p && b) (and_true (obeys d θ))

pub meets_none : (θ : List ℤ) → meets [] θ ≡ true
unfolding meets
meets_none θ = refl

pub each_obeyed : (p : List Decision) (θ : List ℤ) → Meets p θ → (k : ℕ) (d : Decision) → k < length p → obeys (get_or p k d) θ ≡ true
unfolding Meets meets
each_obeyed p θ h = each_of_all (λ d. obeys d θ) p h

pub obeyed_all : (p : List Decision) (θ : List ℤ) → ((k : ℕ) (d : Decision) → k < length p → obeys (get_or p k d) θ ≡ true) → Meets p θ
unfolding Meets meets
obeyed_all p θ h = all_of_each (λ d. obeys d θ) p h
