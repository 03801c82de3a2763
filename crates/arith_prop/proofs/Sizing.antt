-- The step for a size, and what its two sides owe together.
use Rattle.std.proofs.Common.{◌≡◌, List, length, sym, subst, ap, ◌∙◌, arith, pos, negsuc}
use Rattle.std.specs.Prelude.{ℤ, ◌≤ℤ◌, unsigned_abs}
use Rattle.std.proofs.lemmas.Int.{ints, clamps}
use Rattle.fzn_model.specs.declared.term.Term.{Term}
use Rattle.fzn_model.specs.declared.con.Con.TheVariants as con
use Rattle.fzn_model.specs.Limits.{ConInLimits, of_call}
use Rattle.fzn_model.specs.Meaning.{val, Holds}
use Rattle.fzn_model.specs.Boxes.{IsBox}
use Rattle.fzn_model.specs.Bounds.{term_low, term_high}
use Rattle.fzn_model.proofs.Terms.{val_low, val_high, fixed_val}
use Rattle.dom_store.specs.declared.pass.Passed.{Passed}
use Rattle.dom_store.specs.Stores.{Stored}
use Rattle.dom_store.specs.Strength.{AbsIsStrong, IsChecked, sizes_low, sizes_high}
use Rattle.dom_store.specs.Steps.{Step, NarrowsTerm}
use Rattle.dom_store.proofs.Stepping.{narrowed}
use Rattle.dom_store.specs.declared.extreme.Extreme.{Extreme}
use Rattle.dom_store.specs.declared.extreme.Extreme.TheVariants as extreme
use Rattle.dom_store.specs.Extremes.{bound_of, Bounds, BoundsTerm, IsBounded}
use Rattle.arith_prop.specs.Corners.{hull_of}
use Rattle.arith_prop.specs.Sizes.{size_of, SizeIsBounded}
use Rattle.dom_store.proofs.Limiting.{limited}
use Rattle.arith_prop.proofs.Passing.{Suffices}

-- a number lies between the bounds of a range, and its size between those of its sizes
size_bounded : (e : Extreme) (a : ℤ × ℤ) (v : ℤ) → a.0 ≤ℤ v → v ≤ℤ a.1 → Bounds e (size_of e a) (pos (unsigned_abs v))
unfolding size_of
size_bounded extreme.Least a (pos n) above below = omega (arith, ints, clamps)
size_bounded extreme.Least a (negsuc n) above below = omega (arith, ints, clamps)
size_bounded extreme.Greatest a (pos n) above below = omega (arith, ints, clamps)
size_bounded extreme.Greatest a (negsuc n) above below = omega (arith, ints, clamps)

one_size : (v w : ℤ) → sizes_low v v ≤ℤ w → w ≤ℤ sizes_high v v → w ≡ pos (unsigned_abs v)
one_size (pos n) w above below = omega (arith, ints, clamps)
one_size (negsuc n) w above below = omega (arith, ints, clamps)

pub limited_size : (e : Extreme) (a b : Term) (p : ℤ × ℤ) (number : ℤ) (old new : Stored) (result : Passed) → IsBox old.box → ConInLimits of_call (length old.box) (con.Abs a b) → p ≡ hull_of old.box a → number ≡ size_of e p
    → NarrowsTerm (Bounds e number) (BoundsTerm e number b) b old new result → Step (SizeIsBounded e a b) (Holds (con.Abs a b)) old new result
limited_size e a b p number old new result well_formed kept hull is narrows =
    narrowed (Holds (con.Abs a b)) (limited e (λ box. size_of e (hull_of box a)) b number old new result (is ∙ ap (size_of e) hull) narrows)
    (λ θ lies holds. subst (Bounds e (size_of e (hull_of old.box a))) (sym holds)
    (size_bounded e (hull_of old.box a) (val a θ) (val_low old.box a θ well_formed kept.0 lies) (val_high old.box a θ well_formed kept.0 lies)))

-- where the argument is fixed, there is one size
pub abs_owed : (a b : Term) (box : List (List ℤ)) → Suffices (λ box. SizeIsBounded extreme.Least a b box × SizeIsBounded extreme.Greatest a b box) (con.Abs a b) box
unfolding IsBounded bound_of size_of AbsIsStrong IsChecked
abs_owed a b box well_formed kept reached = record {
  kind = reached;
  checked = λ all θ lies.
      let x : val a θ ≡ term_low box a = fixed_val box a θ well_formed kept.0 (all 0 a (omega arith)) lies in
      let one : term_high box a ≡ term_low box a = sym (all 0 a (omega arith)) in
      let fixed : term_low box b ≡ term_high box b = all 1 b (omega arith) in
      let y : val b θ ≡ term_low box b = fixed_val box b θ well_formed kept.1 fixed lies in
      let above : sizes_low (term_low box a) (term_low box a) ≤ℤ term_low box b = subst (λ h. sizes_low (term_low box a) h ≤ℤ term_low box b) one reached.0 in
      let below : term_high box b ≤ℤ sizes_high (term_low box a) (term_low box a) = subst (λ h. term_high box b ≤ℤ sizes_high (term_low box a) h) one reached.1 in
      y ∙ one_size (term_low box a) (term_low box b) above (subst (λ v. v ≤ℤ sizes_high (term_low box a) (term_low box a)) (sym fixed) below) ∙ ap (λ v. pos (unsigned_abs v)) (sym x);
}
