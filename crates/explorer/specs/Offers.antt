-- Solutions that a search offers, and what is kept of them. It is this project's own.
use Rattle.std.specs.Prelude.{◌≡◌, ℕ, List, ℤ, Option, Some, None, if◌then◌else◌, int_lt, fold}
use Rattle.std.specs.Int.{int_min}
use Rattle.fzn_model.specs.Parts.{Parts}
use Rattle.fzn_model.specs.Solutions.{Solves, cost}

-- What contracts see of the solution that is kept: of a model with how many variables, and its values and its cost, if there
-- is one.
pub record Kept : Type 0 where
  pub count : ℕ
  pub best : Option (List ℤ × ℤ)

-- these are the values that are kept
abbrev pub HasValues : Kept → List ℤ → Type 0
HasValues k θ = (c : ℤ) × (k.best ≡ Some (θ, c))

-- a solution of the model, with its cost
pub record IsOffer (m : Parts) (s : List ℤ × ℤ) : Type 0 where
  pub solves : Solves m s.0
  pub costs : s.1 ≡ cost m s.0

-- the lesser of two costs, where there are some
abbrev pub lesser_of : Option ℤ → Option ℤ → Option ℤ
lesser_of None b = b
lesser_of (Some a) None = Some a
lesser_of (Some a) (Some b) = Some (int_min a b)

-- what is kept when a solution is offered: the first one, and then each that is cheaper
abbrev pub with_cheaper : Option (List ℤ × ℤ) → List ℤ × ℤ → Option (List ℤ × ℤ)
with_cheaper None s = Some s
with_cheaper (Some k) s = if int_lt s.1 k.1 then Some s else Some k

-- the least of a bound and the costs of some solutions
unfoldable pub least_with : ℤ → List (List ℤ × ℤ) → ℤ
least_with z offers = fold (λ (b : ℤ) (s : List ℤ × ℤ). int_min b s.1) z offers

-- the least cost that is known after some solutions
unfoldable pub known_after : Option ℤ → List (List ℤ × ℤ) → Option ℤ
known_after known offers = fold (λ (b : Option ℤ) (s : List ℤ × ℤ). lesser_of b (Some s.1)) known offers

-- the solution that is kept after some solutions
unfoldable pub kept_after : Option (List ℤ × ℤ) → List (List ℤ × ℤ) → Option (List ℤ × ℤ)
kept_after kept offers = fold with_cheaper kept offers
