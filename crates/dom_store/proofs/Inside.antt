-- A store made of a model lies within the model's domains.
use Rattle.std.proofs.Common.{zero, suc, ◌⊎◌, inl, inr, List, [], ◌∷◌, ◌++◌, get_or, refl, subst, arith, ℤ}
use Rattle.std.specs.Prelude.{Contains}
use Rattle.std.proofs.Math.ListN.{get_or-map}
use Rattle.fzn_model.specs.Sets.{IsIn, IsWithin}
use Rattle.fzn_model.specs.Parts.{Parts}
use Rattle.fzn_model.specs.Rests.{LiesWithin}
use Rattle.int_domain.specs.Values.{values_of, range}
use Rattle.int_domain.proofs.Members.{Has, has_from_contains, has_range}
use Rattle.dom_store.specs.Views.{box_of, box_count}

-- the values of a set are in it
either : (v : ℤ) (xs ys : List ℤ) → Has v (xs ++ ys) → Has v xs ⊎ Has v ys
either v [] ys h = inr h
either v (x ∷ xs) ys (inl e) = inl (inl e)
either v (x ∷ xs) ys (inr h) = elim (either v xs ys h) [ inl p ↦ inl (inr p) | inr p ↦ inr p ]

value_in : (set : List (ℤ × ℤ)) (v : ℤ) → Has v (values_of set) → IsIn set v
unfolding values_of IsIn IsWithin
value_in [] v h = absurd h
value_in (run ∷ runs) v h = elim (either v (range run.0 run.1) (values_of runs) h) [
  | inl here ↦ (zero, run, omega arith, refl, has_range run.0 run.1 v here)
  | inr later ↦ let (k, x, inside, is, within) = value_in runs v later in (suc k, x, omega (arith, inside), is, within)
]

pub lies_within : (m : Parts) → LiesWithin (box_of m.doms) m
unfolding values_of
lies_within m = record {
  count = box_count m.doms;
  within = λ k z has. value_in (get_or m.doms k []) z (has_from_contains _ z (subst (λ (vs : List ℤ). Contains vs z) (get_or-map values_of m.doms k []) has));
}
