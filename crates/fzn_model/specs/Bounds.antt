-- Terms over a box: their bounds, the values that they can have, and sums of them.
use Rattle.std.specs.Prelude.{◌≡◌, ℕ, ◌⊎◌, List, [], ◌∷◌, Bool, filter, length, ℤ, pos, ◌+ℤ◌, ◌-ℤ◌, ◌*ℤ◌, ◌≤ℤ◌, int_lt, Contains}
use Rattle.std.specs.Int.{int_min, int_max}
use Rattle.fzn_model.specs.declared.term.Term.{Term}
use Rattle.fzn_model.specs.declared.term.Term.TheVariants as term
use Rattle.fzn_model.specs.Boxes.{domain_at, low_value, high_value}

-- the least and the greatest value of a term
abbrev pub term_low : List (List ℤ) → Term → ℤ
term_low box (term.Const z) = z
term_low box (term.Var k) = low_value (domain_at box k)

abbrev pub term_high : List (List ℤ) → Term → ℤ
term_high box (term.Const z) = z
term_high box (term.Var k) = high_value (domain_at box k)

-- the term can have the value
abbrev pub TermHas : List (List ℤ) → Term → ℤ → Type 0
TermHas box (term.Const z) v = v ≡ z
TermHas box (term.Var k) v = Contains (domain_at box k) v

-- the term has one value
abbrev pub IsFixed : List (List ℤ) → Term → Type 0
IsFixed box t = term_low box t ≡ term_high box t

-- the term has this one value
pub record IsAt (box : List (List ℤ)) (t : Term) (v : ℤ) : Type 0 where
  pub low : term_low box t ≡ v
  pub high : term_high box t ≡ v

abbrev pub is_open : List (List ℤ) → Term → Bool
is_open box t = int_lt (term_low box t) (term_high box t)

-- how many places of a list have an open term
abbrev pub open_count : List (List ℤ) → List Term → ℕ
open_count box ts = length (filter (is_open box) ts)

-- The hull of the variable, all numbers from its least value to its greatest, has more than 1,024 numbers: it has no
-- bitmap.
abbrev pub IsWide : List (List ℤ) → Term → Type 0
IsWide box (term.Const z) = ⊥
IsWide box (term.Var k) = pos 1024 ≤ℤ (high_value (domain_at box k) -ℤ low_value (domain_at box k))

-- A value that propagation looks at: each value of a variable with a bitmap, each bound of one without.
pub record IsLookedAt (box : List (List ℤ)) (t : Term) (v : ℤ) : Type 0 where
  pub has : TermHas box t v
  pub bound : IsWide box t → (v ≡ term_low box t) ⊎ (v ≡ term_high box t)

-- the least and the greatest of a coefficient times a term
abbrev pub scaled_low : List (List ℤ) → ℤ × Term → ℤ
scaled_low box p = int_min (p.0 *ℤ term_low box p.1) (p.0 *ℤ term_high box p.1)

abbrev pub scaled_high : List (List ℤ) → ℤ × Term → ℤ
scaled_high box p = int_max (p.0 *ℤ term_low box p.1) (p.0 *ℤ term_high box p.1)

abbrev pub sum_of : (ℤ × Term → ℤ) → List (ℤ × Term) → ℤ
sum_of f [] = pos 0
sum_of f (p ∷ ps) = f p +ℤ sum_of f ps

-- the least and the greatest of a sum, term by term
abbrev pub sum_low : List (List ℤ) → List (ℤ × Term) → ℤ
sum_low box ps = sum_of (scaled_low box) ps

abbrev pub sum_high : List (List ℤ) → List (ℤ × Term) → ℤ
sum_high box ps = sum_of (scaled_high box) ps

-- the least and the greatest of all but one of them
abbrev pub others_low : List (List ℤ) → List (ℤ × Term) → ℤ × Term → ℤ
others_low box ps p = sum_low box ps -ℤ scaled_low box p

abbrev pub others_high : List (List ℤ) → List (ℤ × Term) → ℤ × Term → ℤ
others_high box ps p = sum_high box ps -ℤ scaled_high box p
