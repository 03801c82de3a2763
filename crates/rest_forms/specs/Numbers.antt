-- Sets of numbers in the making, by their members.
use Rattle.std.specs.Prelude.{◌≡◌, ◌↔◌, ◌⊎◌, ℕ, ◌+◌, ◌<◌, Bool, true, false, List, slice_index_or, ℤ, ◌<ℤ◌, Contains}
use Rattle.std.specs.List.{list_any}
use Rattle.fzn_model.specs.declared.term.Term.{Term}
use Rattle.rest_forms.specs.Forms.{term_has, open_has}

-- the same numbers
pub record HasSame (zs ys : List ℤ) : Type 0 where
  pub has : (w : ℤ) → Contains zs w ↔ Contains ys w

-- one number more, and one less
pub record IsWith (z : ℤ) (old new : List ℤ) : Type 0 where
  pub has : (w : ℤ) → Contains new w ↔ ((w ≡ z) ⊎ Contains old w)

pub record IsWithout (z : ℤ) (old new : List ℤ) : Type 0 where
  pub has : (w : ℤ) → Contains new w ↔ ((w ≡ z → ⊥) × Contains old w)

-- some numbers, moved from one set to another
pub record AreMoved (numbers from rest to more : List ℤ) : Type 0 where
  pub rest_has : (w : ℤ) → Contains rest w ↔ ((Contains numbers w → ⊥) × Contains from w)
  pub more_has : (w : ℤ) → Contains more w ↔ (Contains numbers w ⊎ Contains to w)

-- the numbers that a term can have, moved from one set to another
pub record HadAreMoved (box : List (List ℤ)) (x : Term) (from rest to more : List ℤ) : Type 0 where
  pub rest_has : (w : ℤ) → Contains rest w ↔ ((term_has box w x ≡ false) × Contains from w)
  pub more_has : (w : ℤ) → Contains more w ↔ (((term_has box w x ≡ true) × Contains from w) ⊎ Contains to w)

-- the numbers of a set that some open term can have, and the rest of it
pub record AreParted (box : List (List ℤ)) (xs : List Term) (numbers rest had : List ℤ) : Type 0 where
  pub rest_has : (w : ℤ) → Contains rest w ↔ ((open_has box xs w ≡ false) × Contains numbers w)
  pub had_has : (w : ℤ) → Contains had w ↔ ((open_has box xs w ≡ true) × Contains numbers w)

-- each of the first numbers is less than the next of them
pub record RiseUpTo (n : ℕ) (zs : List ℤ) : Type 0 where
  pub each : (k : ℕ) (d : ℤ) → k + 1 < n → slice_index_or zs k d <ℤ slice_index_or zs (k + 1) d

-- some term can have the number
abbrev pub some_has : List (List ℤ) → List Term → ℤ → Bool
some_has box ts z = list_any (term_has box z) ts
