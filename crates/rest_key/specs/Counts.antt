-- How many words the parts of a residual problem are, from the lengths of its lists.
use Rattle.std.specs.Prelude.{ℕ, ◌+◌, ◌*◌, ◌≤◌, List, [], ◌∷◌, length, ℤ, All, ⊤}
use Rattle.fzn_model.specs.declared.base.Base.{Base}
use Rattle.fzn_model.specs.declared.base.Base.TheVariants as base
use Rattle.fzn_model.specs.declared.con.Con.{Con}
use Rattle.fzn_model.specs.declared.con.Con.TheVariants as con
use Rattle.fzn_model.specs.Limits.{IsValue}

abbrev pub base_count : Base → ℕ
base_count (base.Lin l) = 2 + 3 * length l.terms
base_count (base.Clause c) = 2 + 2 * length c.pos + 2 * length c.neg
base_count (base.Member m) = 3 + 2 * length m.set

-- with the number of the kind
abbrev pub con_count : Con → ℕ
con_count (con.Base b) = 1 + base_count b
con_count (con.Reif b r f) = 5 + base_count b
con_count (con.Times a b c) = 7
con_count (con.Abs a b) = 5
con_count (con.Div a b c) = 7
con_count (con.Mod a b c) = 7
con_count (con.Greatest m xs) = 4 + 2 * length xs
con_count (con.Least m xs) = 4 + 2 * length xs
con_count (con.Element i xs c) = 6 + 2 * length xs
con_count (con.AllDiffExcept xs taken) = 3 + 2 * length xs + length taken
con_count (con.CumulUsed tasks used b) = 5 + 6 * length tasks + 3 * length used
con_count (con.Table xs rows) = 3 + 2 * length xs + length rows

-- with the labels
unfoldable pub cons_count : List Con → ℕ
cons_count [] = 0
cons_count (c ∷ cs) = 1 + con_count c + cons_count cs

unfoldable pub domains_count : List (List (ℤ × ℤ)) → ℕ
domains_count [] = 0
domains_count (d ∷ ds) = 1 + 2 * length d + domains_count ds

-- the runs of a set lie within the values
unfoldable pub IsNarrow : List (ℤ × ℤ) → Type 0
IsNarrow set = All (λ run. IsValue run.0 × IsValue run.1) set

-- lists are as short as in a residual problem
abbrev pub IsShortBase : Base → Type 0
IsShortBase (base.Lin l) = length l.terms ≤ 2000000
IsShortBase (base.Clause c) = (length c.pos ≤ 2000000) × (length c.neg ≤ 2000000)
IsShortBase (base.Member m) = IsNarrow m.set

abbrev pub IsShort : Con → Type 0
IsShort (con.Base b) = IsShortBase b
IsShort (con.Reif b r f) = IsShortBase b
IsShort (con.Greatest m xs) = length xs ≤ 2000000
IsShort (con.Least m xs) = length xs ≤ 2000000
IsShort (con.Element i xs c) = length xs ≤ 2000000
IsShort (con.AllDiffExcept xs taken) = (length xs ≤ 2000000) × (length taken ≤ 4000000)
IsShort (con.CumulUsed tasks used b) = (length tasks ≤ 2000000) × (length used ≤ 8000000)
IsShort (con.Table xs rows) = (length xs ≤ 2000000) × (length rows ≤ 2000000)
IsShort c = ⊤
