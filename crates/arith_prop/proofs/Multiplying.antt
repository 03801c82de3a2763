-- The step for a product, and what its two sides owe together.
use Rattle.std.proofs.Common.{◌≡◌, List, length, sym, subst, ap, ◌∙◌, arith, to_z, of_z}
use Rattle.std.specs.Prelude.{ℤ, ◌*ℤ◌}
use Rattle.std.specs.Int.{w64}
use Rattle.std.proofs.lemmas.Int.{to_z-of_z, fits_signed_from_abs}
use Rattle.fzn_model.specs.declared.term.Term.{Term}
use Rattle.fzn_model.specs.declared.con.Con.TheVariants as con
use Rattle.fzn_model.specs.Limits.{ConInLimits, IsValue, TermIn, of_call}
use Rattle.fzn_model.specs.Meaning.{val, Holds}
use Rattle.fzn_model.specs.Boxes.{IsBox, InBox}
use Rattle.fzn_model.specs.Bounds.{IsFixed}
use Rattle.fzn_model.proofs.Terms.{val_low, val_high}
use Rattle.dom_store.specs.declared.pass.Passed.{Passed}
use Rattle.dom_store.specs.Stores.{Stored}
use Rattle.dom_store.specs.Strength.{TimesIsStrong, IsChecked}
use Rattle.dom_store.specs.Steps.{Step, NarrowsTerm}
use Rattle.dom_store.proofs.Stepping.{narrowed}
use Rattle.dom_store.specs.declared.extreme.Extreme.{Extreme}
use Rattle.dom_store.specs.declared.extreme.Extreme.TheVariants as extreme
use Rattle.dom_store.specs.Extremes.{bound_of, Bounds, BoundsTerm, IsBounded}
use Rattle.arith_prop.specs.Corners.{hull_of, pick_by, corner, ProductIsBounded}
use Rattle.dom_store.proofs.Limiting.{bounds_both, bound_fixed, limited}
use Rattle.arith_prop.proofs.Products.{IsBetween, product_bounded, one_corner}
use Rattle.arith_prop.proofs.Passing.{Suffices}

in_hull : (box : List (List ℤ)) (t : Term) (θ : List ℤ) → IsBox box → TermIn (length box) t → InBox box θ → IsBetween (hull_of box t) (val t θ)
in_hull box t θ well_formed inside lies = record { above = val_low box t θ well_formed inside lies; below = val_high box t θ well_formed inside lies }

pub limited_product : (e : Extreme) (a b c : Term) (p q : ℤ × ℤ) (number : ℤ) (old new : Stored) (result : Passed) → IsBox old.box → ConInLimits of_call (length old.box) (con.Times a b c) → p ≡ hull_of old.box a → q ≡ hull_of old.box b → number ≡ corner e p q
    → NarrowsTerm (Bounds e number) (BoundsTerm e number c) c old new result → Step (ProductIsBounded e a b c) (Holds (con.Times a b c)) old new result
limited_product e a b c p q number old new result well_formed kept first second is narrows =
    let there : number ≡ corner e (hull_of old.box a) (hull_of old.box b) = is ∙ ap (λ x. corner e x q) first ∙ ap (corner e (hull_of old.box a)) second in
    narrowed (Holds (con.Times a b c)) (limited e (λ box. corner e (hull_of box a) (hull_of box b)) c number old new result there narrows)
    (λ θ lies holds. subst (Bounds e (corner e (hull_of old.box a) (hull_of old.box b))) holds
    (product_bounded e (hull_of old.box a) (hull_of old.box b) (val a θ) (val b θ) (in_hull old.box a θ well_formed kept.0 lies) (in_hull old.box b θ well_formed kept.1 lies)))

-- where the factors are fixed, there is one product
fixed_bounded : (e : Extreme) (box : List (List ℤ)) (a b c : Term) (θ : List ℤ) → IsBox box → ConInLimits of_call (length box) (con.Times a b c) → IsFixed box a → IsFixed box b → IsFixed box c → InBox box θ → ProductIsBounded e a b c box → Bounds e (val a θ *ℤ val b θ) (val c θ)
unfolding IsBounded bound_of
fixed_bounded e box a b c θ well_formed kept first second third lies within =
    let one : (t : Term) → TermIn (length box) t → IsFixed box t → InBox box θ → hull_of box t ≡ (val t θ, val t θ) = λ t inside fixed lies. pair _ _ _ (sym (bound_fixed extreme.Least box t θ well_formed inside lies fixed)) (sym (bound_fixed extreme.Greatest box t θ well_formed inside lies fixed)) in
    let corners : corner e (hull_of box a) (hull_of box b) ≡ val a θ *ℤ val b θ = ap (λ x. corner e x (hull_of box b)) (one a kept.0 first lies) ∙ ap (corner e (val a θ, val a θ)) (one b kept.1 second lies) ∙ one_corner e (val a θ) (val b θ) in
    subst (λ z. Bounds e z (val c θ)) corners (subst (Bounds e (corner e (hull_of box a) (hull_of box b))) (sym (bound_fixed e box c θ well_formed kept.2 lies third)) within)
  where
    pair : (x y v : ℤ) → x ≡ v → y ≡ v → ◌≡◌ {A = ℤ × ℤ} (x, y) (v, v)
    pair x y v left right = ap (λ z. (z, y)) left ∙ ap (λ z. (v, z)) right

pub times_owed : (a b c : Term) (box : List (List ℤ)) → Suffices (λ box. ProductIsBounded extreme.Least a b c box × ProductIsBounded extreme.Greatest a b c box) (con.Times a b c) box
unfolding IsBounded bound_of corner TimesIsStrong IsChecked
times_owed a b c box well_formed kept reached = record {
  kind = reached;
  checked = λ all θ lies.
      let at : (e : Extreme) → ProductIsBounded e a b c box → Bounds e (val a θ *ℤ val b θ) (val c θ) = λ e. fixed_bounded e box a b c θ well_formed kept (all 0 a (omega arith)) (all 1 b (omega arith)) (all 2 c (omega arith)) lies in
      bounds_both extreme.Least (val a θ *ℤ val b θ) (val c θ) (at extreme.Least reached.0) (at extreme.Greatest reached.1);
}

-- ---- the products of bounds
pub corner_is : (e : Extreme) (a b : ℤ × ℤ) (p q r s m n t : ℤ) → p ≡ a.0 *ℤ b.0 → q ≡ a.0 *ℤ b.1 → r ≡ a.1 *ℤ b.0 → s ≡ a.1 *ℤ b.1 → m ≡ pick_by e p q → n ≡ pick_by e r s → t ≡ pick_by e m n → t ≡ corner e a b
unfolding corner
corner_is e a b p q r s m n t f g h i j k l =
    l ∙ ap (λ x. pick_by e x n) (j ∙ ap (λ x. pick_by e x q) f ∙ ap (pick_by e (a.0 *ℤ b.0)) g) ∙ ap (pick_by e (pick_by e (a.0 *ℤ b.0) (a.0 *ℤ b.1))) (k ∙ ap (λ x. pick_by e x s) h ∙ ap (pick_by e (a.1 *ℤ b.0)) i)

-- a value fits
pub plain : (z : ℤ) → IsValue z → to_z w64 (of_z w64 z) ≡ z
plain z small = to_z-of_z w64 z (fits_signed_from_abs w64 z (omega (arith, small)))
