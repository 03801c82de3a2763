-- What is known after some offers.
use Rattle.std.proofs.Common.{◌≡◌, Bool, true, false, List, [], ◌∷◌, length, refl, sym, ap, subst, ℤ, arith}
use Rattle.std.specs.Prelude.{All, Option, Some, None, int_lt, if◌then◌else◌, neg_ℤ, ◌<ℤ◌}
use Rattle.std.specs.Int.{int_min}
use Rattle.std.proofs.lemmas.Int.{ints}
use Rattle.std.proofs.lemmas.List.Elements.{All-head, All-tail}
use Rattle.fzn_model.specs.declared.term.Term.{Term}
use Rattle.fzn_model.specs.declared.term.Term.TheVariants as term
use Rattle.fzn_model.specs.declared.goal.Goal.{Goal}
use Rattle.fzn_model.specs.declared.goal.Goal.TheVariants as goal
use Rattle.fzn_model.specs.Parts.{Parts}
use Rattle.fzn_model.specs.Meaning.{val}
use Rattle.fzn_model.specs.Limits.{IsModel, GoalInLimits, TermIn}
use Rattle.fzn_model.specs.Solutions.{Solves, InDomains, cost, goal_cost, CanBe, AllowsCost, IsTop}
use Rattle.explorer.specs.Offers.{IsOffer, lesser_of, with_cheaper, least_with, known_after, kept_after}

-- ---- a solution costs less than the top
can_be : (ds : List (List (ℤ × ℤ))) (t : Term) (θ : List ℤ) → TermIn (length ds) t → InDomains ds θ → CanBe ds t (val t θ)
unfolding InDomains
can_be ds (term.Const z) θ h d = refl
can_be ds (term.Var k) θ h d = d.1 k [] h

negated_twice : (z : ℤ) → neg_ℤ (neg_ℤ z) ≡ z
negated_twice z = grind (arith, ints)

allowed : (ds : List (List (ℤ × ℤ))) (g : Goal) (θ : List ℤ) → GoalInLimits (length ds) g → InDomains ds θ → AllowsCost ds g (goal_cost g θ)
allowed ds goal.Satisfy θ h d = refl
allowed ds (goal.Minimise t) θ h d = can_be ds t θ h d
allowed ds (goal.Maximise t) θ h d = subst (CanBe ds t) (sym (negated_twice (val t θ))) (can_be ds t θ h d)

pub below_top : (m : Parts) (top : ℤ) (θ : List ℤ) → IsModel m → IsTop m.doms m.goal top → Solves m θ → cost m θ <ℤ top
below_top m top θ model is s = is.above (cost m θ) (allowed m.doms m.goal θ model.goal s.domains)

-- ---- what is kept has the least cost
abbrev pub IsKnown : Parts → ℤ → ℤ → Option (List ℤ × ℤ) → Type 0
IsKnown m top z None = z ≡ top
IsKnown m top z (Some s) = IsOffer m s × (z ≡ s.1)

abbrev pub IsTold : Option ℤ → Option (List ℤ × ℤ) → Type 0
IsTold known None = known ≡ None
IsTold known (Some s) = known ≡ Some s.1

module _ (m : Parts) (top : ℤ) (model : IsModel m) (is : IsTop m.doms m.goal top) where
  cheaper : (z : ℤ) (k s : List ℤ × ℤ) (t : Bool) → int_lt s.1 k.1 ≡ t → IsOffer m k → z ≡ k.1 → IsOffer m s → IsKnown m top (int_min z s.1) (if t then Some s else Some k)
  cheaper z k s true e old at new = (new, grind (arith, ints, e, at))
  cheaper z k s false e old at new = (old, grind (arith, ints, e, at))

  known_more : (z : ℤ) (k : Option (List ℤ × ℤ)) (s : List ℤ × ℤ) → IsKnown m top z k → IsOffer m s → IsKnown m top (int_min z s.1) (with_cheaper k s)
  known_more z None s h o = (o, let low : s.1 <ℤ top = rw o.costs (below_top m top s.0 model is o.solves) in grind (arith, ints, h, low))
  known_more z (Some k) s h o = cheaper z k s (int_lt s.1 k.1) refl h.0 h.1 o

  pub known_all : (offers : List (List ℤ × ℤ)) (z : ℤ) (k : Option (List ℤ × ℤ)) → All (IsOffer m) offers → IsKnown m top z k → IsKnown m top (least_with z offers) (kept_after k offers)
  unfolding least_with kept_after
  known_all [] z k all h = h
  known_all (s ∷ offers) z k all h = known_all offers (int_min z s.1) (with_cheaper k s) (All-tail (IsOffer m) s offers all) (known_more z k s h (All-head (IsOffer m) s offers all))

told_cheaper : (k s : List ℤ × ℤ) (t : Bool) → int_lt s.1 k.1 ≡ t → IsTold (Some (int_min k.1 s.1)) (if t then Some s else Some k)
told_cheaper k s true e = ap Some (grind (arith, ints, e))
told_cheaper k s false e = ap Some (grind (arith, ints, e))

told_more : (known : Option ℤ) (k : Option (List ℤ × ℤ)) (s : List ℤ × ℤ) → IsTold known k → IsTold (lesser_of known (Some s.1)) (with_cheaper k s)
told_more known None s h = rw h refl
told_more known (Some k) s h = rw h (told_cheaper k s (int_lt s.1 k.1) refl)

pub told_all : (offers : List (List ℤ × ℤ)) (known : Option ℤ) (k : Option (List ℤ × ℤ)) → IsTold known k → IsTold (known_after known offers) (kept_after k offers)
unfolding known_after kept_after
told_all [] known k h = h
told_all (s ∷ offers) known k h = told_all offers (lesser_of known (Some s.1)) (with_cheaper k s) (told_more known k s h)
