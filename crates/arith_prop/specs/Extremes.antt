-- What each step for the greatest or the least of a list reaches.
use Rattle.std.specs.Prelude.{◌≡◌, ℕ, ◌<◌, ◌⊎◌, List, length, slice_index_or, ℤ, All, Any, Contains}
use Rattle.fzn_model.specs.declared.term.Term.{Term}
use Rattle.fzn_model.specs.Boxes.{IsBox}
use Rattle.dom_store.specs.declared.pass.Passed.{Passed}
use Rattle.dom_store.specs.Stores.{Stored}
use Rattle.dom_store.specs.Steps.{EachTo, NarrowsTerm}
use Rattle.dom_store.specs.declared.extreme.Extreme.{Extreme}
use Rattle.dom_store.specs.Extremes.{opposite, bound_of, Bounds, IsBounded}

-- one of two terms: its bound, the least or the greatest value as `bounds` says, bounds that of each
pub record IsFurther (box : List (List ℤ)) (e bounds : Extreme) (x y t : Term) : Type 0 where
  pub one : (t ≡ x) ⊎ (t ≡ y)
  pub first : Bounds e (bound_of bounds t box) (bound_of bounds x box)
  pub second : Bounds e (bound_of bounds t box) (bound_of bounds y box)

-- a term of the list, whose bound bounds those of the first n
pub record IsFurthest (box : List (List ℤ)) (e bounds : Extreme) (n : ℕ) (xs : List Term) (t : Term) : Type 0 where
  pub member : Contains xs t
  pub most : (k : ℕ) (d : Term) → k < n → Bounds e (bound_of bounds t box) (bound_of bounds (slice_index_or xs k d) box)

-- the second term is narrowed to the values that the bound of the first bounds
pub record Limits (e : Extreme) (m x : Term) (old new : Stored) (result : Passed) : Type 0 where
  pub narrows : NarrowsTerm (Bounds e (bound_of e m old.box)) (IsBounded e (bound_of e m) x) x old new result
  pub well_formed : IsBox old.box

-- the result is as far out as each member is for sure: the greatest of a list is at least each least value
unfoldable pub ReachesEach : Extreme → Term → List Term → List (List ℤ) → Type 0
ReachesEach e m xs box = All (λ x. IsBounded (opposite e) (bound_of (opposite e) x) m box) xs

-- it is no further out than some member can be: the greatest of a list is at most some greatest value
unfoldable pub IsReached : Extreme → Term → List Term → List (List ℤ) → Type 0
IsReached e m xs box = Any (λ x. IsBounded e (bound_of e x) m box) xs

-- its bound bounds the first n members
abbrev pub MembersAreBounded : Extreme → Term → List Term → ℕ → List (List ℤ) → Type 0
MembersAreBounded e m xs n = EachTo (IsBounded e (bound_of e m)) xs n

-- what the three steps reach together
abbrev pub IsNarrowed : Extreme → Term → List Term → List (List ℤ) → Type 0
IsNarrowed e m xs box = (ReachesEach e m xs box × IsReached e m xs box) × MembersAreBounded e m xs (length xs) box
