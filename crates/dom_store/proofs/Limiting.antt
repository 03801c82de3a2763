-- Numbers within a bound, and terms that are narrowed to one.
use Rattle.std.proofs.Common.{◌≡◌, List, length, sym, subst, ◌∙◌, arith}
use Rattle.std.specs.Prelude.{ℤ}
use Rattle.std.proofs.lemmas.Int.{ints}
use Rattle.fzn_model.specs.declared.term.Term.{Term}
use Rattle.fzn_model.specs.Limits.{TermIn}
use Rattle.fzn_model.specs.Meaning.{val}
use Rattle.fzn_model.specs.Boxes.{IsBox, InBox}
use Rattle.fzn_model.specs.Bounds.{IsFixed}
use Rattle.fzn_model.proofs.Terms.{val_low, val_high, fixed_val}
use Rattle.dom_store.specs.declared.pass.Passed.{Passed}
use Rattle.dom_store.specs.Stores.{Stored}
use Rattle.dom_store.specs.Steps.{NarrowsTerm, LowIs, HighIs}
use Rattle.dom_store.proofs.Stepping.{narrows_for}
use Rattle.dom_store.specs.declared.extreme.Extreme.{Extreme}
use Rattle.dom_store.specs.declared.extreme.Extreme.TheVariants as extreme
use Rattle.dom_store.specs.Extremes.{opposite, bound_of, Bounds, BoundsTerm, IsBounded}

-- ---- the order
pub bounds_same : (e : Extreme) (a : ℤ) → Bounds e a a
bounds_same extreme.Least a = omega (arith, ints)
bounds_same extreme.Greatest a = omega (arith, ints)

pub bounds_trans : (e : Extreme) (a b c : ℤ) → Bounds e a b → Bounds e b c → Bounds e a c
bounds_trans extreme.Least a b c h k = omega (arith, ints, h, k)
bounds_trans extreme.Greatest a b c h k = omega (arith, ints, h, k)

pub bounds_both : (e : Extreme) (a b : ℤ) → Bounds e a b → Bounds e b a → a ≡ b
bounds_both extreme.Least a b h k = omega (arith, ints, h, k)
bounds_both extreme.Greatest a b h k = omega (arith, ints, h, k)

pub turned : (e : Extreme) (a b : ℤ) → Bounds e a b → Bounds (opposite e) b a
turned extreme.Least a b within = within
turned extreme.Greatest a b within = within

-- ---- the bounds of a term
pub bound_value : (e : Extreme) (box : List (List ℤ)) (t : Term) (θ : List ℤ) → IsBox box → TermIn (length box) t → InBox box θ → Bounds e (bound_of e t box) (val t θ)
unfolding bound_of
bound_value extreme.Least box t θ well_formed inside lies = val_low box t θ well_formed inside lies
bound_value extreme.Greatest box t θ well_formed inside lies = val_high box t θ well_formed inside lies

pub bound_fixed : (e : Extreme) (box : List (List ℤ)) (t : Term) (θ : List ℤ) → IsBox box → TermIn (length box) t → InBox box θ → IsFixed box t → val t θ ≡ bound_of e t box
unfolding bound_of
bound_fixed extreme.Least box t θ well_formed inside lies fixed = fixed_val box t θ well_formed inside fixed lies
bound_fixed extreme.Greatest box t θ well_formed inside lies fixed = fixed_val box t θ well_formed inside fixed lies ∙ fixed

pub values_bound : (e : Extreme) (t : Term) (number : ℤ) (box : List (List ℤ)) → BoundsTerm e number t box → Bounds e number (bound_of e t box)
unfolding bound_of LowIs HighIs
values_bound extreme.Least t number box within = within
values_bound extreme.Greatest t number box within = within

-- ---- a term is narrowed to a number that the box gives
pub limited : (e : Extreme) (f : List (List ℤ) → ℤ) (t : Term) (number : ℤ) (old new : Stored) (result : Passed) → number ≡ f old.box → NarrowsTerm (Bounds e number) (BoundsTerm e number t) t old new result → NarrowsTerm (Bounds e (f old.box)) (IsBounded e f t) t old new result
unfolding IsBounded
limited e f t number old new result is narrows = narrows_for (Bounds e number) (Bounds e (f old.box)) (BoundsTerm e number t) (IsBounded e f t) t old new result
    (λ θ lies within. subst (λ z. Bounds e z (val t θ)) (sym is) within)
    (λ same within. subst (λ box. Bounds e (f box) (bound_of e t new.box)) (sym same) (subst (λ z. Bounds e z (bound_of e t new.box)) is (values_bound e t number new.box within)))
    narrows
