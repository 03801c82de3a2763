-- Laws that tie the names of the table to one another.
use Rattle.std.specs.Prelude.{◌≡◌, ℕ, ◌+◌, List, [], ◌∷◌, ◌++◌, Option, option_map, IsSome, find, codes, ⊤}
use Rattle.std.specs.Str.{bytes_eq}
use Rattle.fzn_builtin.specs.declared.needs.Need.{Need}
use Rattle.fzn_builtin.specs.declared.needs.Need.TheVariants as need
use Rattle.fzn_builtin.specs.declared.shape.Shape.{Shape}
use Rattle.fzn_builtin.specs.declared.shape.Shape.TheVariants as shape
use Rattle.fzn_builtin.specs.declared.table.TheConstants.{TABLE}

-- what the row of a name says: the needs, the fewest arguments, and how the constraint is made
abbrev pub said_of : List ℕ → Option (List Need × ℕ × Shape)
said_of name = option_map (λ row. (row.1.now, row.2, row.3)) (find (λ row. bytes_eq row.0.now name) TABLE)

-- the relation holds exactly where a bool is true
abbrev pub reified : Shape → Shape
reified (shape.Posted r) = shape.Reified r
reified s = s

-- the same with a bool behind the arguments, which tells whether the relation holds
abbrev pub with_truth : List Need × ℕ × Shape → List Need × ℕ × Shape
with_truth said = (said.0 ++ need.BoolTerm ∷ [], said.1 + 1, reified said.2)

-- each name has a row, and a row with `_reif` behind the name that says the same with such a bool
abbrev pub AreReified : List (List ℕ) → Type 0
AreReified [] = ⊤
AreReified (name ∷ names) = IsSome (said_of name) × (said_of (name ++ codes "_reif") ≡ option_map with_truth (said_of name)) × AreReified names

-- each name has a row, and a row with `fzn_` before the name that says the same
abbrev pub AreSynonyms : List (List ℕ) → Type 0
AreSynonyms [] = ⊤
AreSynonyms (name ∷ names) = IsSome (said_of name) × (said_of (codes "fzn_" ++ name) ≡ said_of name) × AreSynonyms names

-- the names that are reified, and those of global constraints
abbrev pub reified_names : List (List ℕ)
reified_names =
    codes "int_eq" ∷ codes "int_ne" ∷ codes "int_le" ∷ codes "int_lt" ∷ codes "bool_eq" ∷ codes "bool_le" ∷ codes "bool_lt"
    ∷ codes "int_lin_eq" ∷ codes "int_lin_le" ∷ codes "int_lin_ne" ∷ codes "bool_clause" ∷ codes "set_in" ∷ []

abbrev pub global_names : List (List ℕ)
global_names = codes "all_different_int" ∷ codes "cumulative" ∷ codes "table_int" ∷ []
