-- When one constraint is weaker than another, kind by kind: it then holds wherever the other does. It is this project's own.
use Rattle.std.specs.Prelude.{◌≡◌, ℕ, ◌+◌, ◌*◌, ◌/◌, ◌<◌, List, length, slice_range, ℤ, ◌-ℤ◌, ◌≤ℤ◌, All, Contains}
use Rattle.fzn_model.specs.declared.term.Term.{Term}
use Rattle.fzn_model.specs.declared.term.Term.TheVariants as term
use Rattle.fzn_model.specs.declared.lin.Rel.{Rel}
use Rattle.fzn_model.specs.declared.lin.Rel.TheVariants as rel
use Rattle.fzn_model.specs.declared.lin.Lin.{Lin}
use Rattle.fzn_model.specs.declared.base.Base.{Base}
use Rattle.fzn_model.specs.declared.base.Base.TheVariants as base
use Rattle.fzn_model.specs.declared.cumulative.Used.{Used}
use Rattle.fzn_model.specs.declared.con.Con.{Con}
use Rattle.fzn_model.specs.declared.con.Con.TheVariants as con
use Rattle.fzn_model.specs.Sets.{IsIn}
use Rattle.fzn_model.specs.Meaning.{amount_at}

-- each member of the first list is in the second
unfoldable pub IsAmong : {X : Type 0} → List X → X → Type 0
IsAmong ys x = Contains ys x

unfoldable pub AreAmong : {X : Type 0} → List X → List X → Type 0
AreAmong xs ys = All (IsAmong ys) xs

-- each number of the first set is in the second
unfoldable pub SetWithin : List (ℤ × ℤ) → List (ℤ × ℤ) → Type 0
SetWithin set other = (z : ℤ) → IsIn set z → IsIn other z

-- each row of the first rows, which stand one after the other, is one of the second
abbrev pub row_at : List ℤ → ℕ → ℕ → List ℤ
row_at rows width k = slice_range rows (k * width) (k * width + width)

unfoldable pub IsOneRow : ℕ → List ℤ → List ℤ → Type 0
IsOneRow width others row = (j : ℕ) × (j < length others / width) × (row_at others width j ≡ row)

unfoldable pub RowsWithin : ℕ → List ℤ → List ℤ → Type 0
RowsWithin width rows others = (k : ℕ) → k < length rows / width → IsOneRow width others (row_at rows width k)

-- at each moment the first room, a capacity less what is used, is at least the second
unfoldable pub LeavesAsMuch : ℤ → List Used → ℤ → List Used → Type 0
LeavesAsMuch capacity used other_capacity other_used = (t : ℤ) → (other_capacity -ℤ amount_at other_used t) ≤ℤ (capacity -ℤ amount_at used t)

-- at each moment at most as much is used
unfoldable pub UsesNoMore : List Used → List Used → Type 0
UsesNoMore used other_used = (t : ℤ) → amount_at used t ≤ℤ amount_at other_used t

-- the same terms, and no lesser number, or the same one
abbrev pub WeakerLin : Rel → Lin → Rel → Lin → Type 0
WeakerLin rel.Le l0 rel.Le l = (l0.terms ≡ l.terms) × (l.r ≤ℤ l0.r)
WeakerLin rel.Le l0 other l = ⊥
WeakerLin rel.Eq l0 rel.Eq l = (l0.terms ≡ l.terms) × (l.r ≡ l0.r)
WeakerLin rel.Eq l0 other l = ⊥
WeakerLin rel.Ne l0 rel.Ne l = (l0.terms ≡ l.terms) × (l.r ≡ l0.r)
WeakerLin rel.Ne l0 other l = ⊥

-- more literals; a greater set
abbrev pub WeakerBase : Base → Base → Type 0
WeakerBase (base.Lin l0) (base.Lin l) = WeakerLin l0.rel l0 l.rel l
WeakerBase (base.Lin l0) b = ⊥
WeakerBase (base.Clause c0) (base.Clause c) = AreAmong c.pos c0.pos × AreAmong c.neg c0.neg
WeakerBase (base.Clause c0) b = ⊥
WeakerBase (base.Member m0) (base.Member m) = (m0.x ≡ m.x) × SetWithin m.set m0.set
WeakerBase (base.Member m0) b = ⊥

-- more room at each moment; where a capacity is a variable, the same one and no more use
abbrev pub WeakerCapacity : List Used → Term → List Used → Term → Type 0
WeakerCapacity used0 (term.Const b0) used (term.Const b) = LeavesAsMuch b0 used0 b used
WeakerCapacity used0 b0 used b = (b0 ≡ b) × UsesNoMore used0 used

-- The first constraint is weaker than the second. Each kind has a row of its own: a kind without one isn't covered, and the
-- definition is refused. Constraints of two kinds are never weaker than each other.
abbrev pub Weaker : Con → Con → Type 0
Weaker (con.Base b0) (con.Base b) = WeakerBase b0 b
Weaker (con.Base b0) c = ⊥
Weaker (con.Reif b0 r0 f0) c = con.Reif b0 r0 f0 ≡ c
Weaker (con.Times x0 y0 z0) c = con.Times x0 y0 z0 ≡ c
Weaker (con.Abs x0 y0) c = con.Abs x0 y0 ≡ c
Weaker (con.Div x0 y0 z0) c = con.Div x0 y0 z0 ≡ c
Weaker (con.Mod x0 y0 z0) c = con.Mod x0 y0 z0 ≡ c
Weaker (con.Greatest m0 xs0) c = con.Greatest m0 xs0 ≡ c
Weaker (con.Least m0 xs0) c = con.Least m0 xs0 ≡ c
Weaker (con.Element i0 xs0 z0) c = con.Element i0 xs0 z0 ≡ c
Weaker (con.AllDiffExcept xs0 taken0) (con.AllDiffExcept xs taken) = (xs0 ≡ xs) × AreAmong taken0 taken
Weaker (con.AllDiffExcept xs0 taken0) c = ⊥
Weaker (con.CumulUsed tasks0 used0 b0) (con.CumulUsed tasks used b) = (tasks0 ≡ tasks) × WeakerCapacity used0 b0 used b
Weaker (con.CumulUsed tasks0 used0 b0) c = ⊥
Weaker (con.Table xs0 rows0) (con.Table xs rows) = (xs0 ≡ xs) × RowsWithin (length xs) rows rows0
Weaker (con.Table xs0 rows0) c = ⊥
