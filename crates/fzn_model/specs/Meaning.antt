-- What each constraint means (MiniZinc Handbook, FlatZinc built-ins, in this project's profile: division rounds towards
-- zero, a divisor 0 and an index outside the array are false).
use Rattle.std.specs.Prelude.{◌≡◌, ℕ, ◌+◌, ◌*◌, ◌/◌, ◌<◌, ◌⊎◌, ◌↔◌, Bool, true, false, cond, ◌&&◌, List, [], ◌∷◌, ◌++◌, map, length, slice_index_or, slice_range, ℤ, pos, ◌+ℤ◌, ◌*ℤ◌, ◌≤ℤ◌, int_lt, int_le, int_div, int_rem, unsigned_abs, Contains, Any, All, AllPairs}
use Rattle.fzn_model.specs.declared.term.Term.{Term}
use Rattle.fzn_model.specs.declared.term.Term.TheVariants as term
use Rattle.fzn_model.specs.declared.lin.Rel.{Rel}
use Rattle.fzn_model.specs.declared.lin.Rel.TheVariants as rel
use Rattle.fzn_model.specs.declared.base.Base.{Base}
use Rattle.fzn_model.specs.declared.base.Base.TheVariants as base
use Rattle.fzn_model.specs.declared.cumulative.CumTask.{CumTask}
use Rattle.fzn_model.specs.declared.cumulative.Used.{Used}
use Rattle.fzn_model.specs.declared.con.Con.{Con}
use Rattle.fzn_model.specs.declared.con.Con.TheVariants as con
use Rattle.fzn_model.specs.Sets.{IsIn}

-- An assignment is the list of the variables' values. The value of a term under it.
abbrev pub val : Term → List ℤ → ℤ
val (term.Const z) θ = z
val (term.Var n) θ = slice_index_or θ n (pos 0)

-- some term has the value
unfoldable pub HasValue : List Term → ℤ → List ℤ → Type 0
HasValue ts z θ = Any (λ t. val t θ ≡ z) ts

-- no term has a greater value, or a lesser one
unfoldable pub AreAtMost : List Term → ℤ → List ℤ → Type 0
AreAtMost ts z θ = All (λ t. val t θ ≤ℤ z) ts

unfoldable pub AreAtLeast : List Term → ℤ → List ℤ → Type 0
AreAtLeast ts z θ = All (λ t. z ≤ℤ val t θ) ts

-- the sum of coefficient times value
abbrev pub lin_sum : List (ℤ × Term) → List ℤ → ℤ
lin_sum [] θ = pos 0
lin_sum (t ∷ ts) θ = (t.0 *ℤ val t.1 θ) +ℤ lin_sum ts θ

-- at most, equal to, different from
abbrev pub Stands : Rel → ℤ → ℤ → Type 0
Stands rel.Le a b = a ≤ℤ b
Stands rel.Eq a b = a ≡ b
Stands rel.Ne a b = a ≡ b → ⊥

-- A linear relation; a clause, of which a positive literal is 1 or a negative one 0; a member of a set.
abbrev pub HoldsBase : Base → List ℤ → Type 0
HoldsBase (base.Lin l) θ = Stands l.rel (lin_sum l.terms θ) l.r
HoldsBase (base.Clause c) θ = HasValue c.pos (pos 1) θ ⊎ HasValue c.neg (pos 0) θ
HoldsBase (base.Member m) θ = IsIn m.set (val m.x θ)

-- 1 for true, 0 for false
abbrev pub bit : Bool → ℤ
bit true = pos 1
bit false = pos 0

-- the index counts from 1
abbrev pub HoldsElement : Term → List Term → Term → List ℤ → Type 0
HoldsElement i xs c θ = (k : ℕ) × (k < length xs) × (val i θ ≡ pos (k + 1)) × (val (slice_index_or xs k c) θ ≡ val c θ)

-- the values differ in pairs
unfoldable pub AreDistinct : List Term → List ℤ → Type 0
AreDistinct xs θ = AllPairs (λ x y. val x θ ≡ val y θ → ⊥) xs

-- no value is taken
unfoldable pub IsFree : List ℤ → ℤ → Type 0
IsFree taken z = Contains taken z → ⊥

unfoldable pub AreUntaken : List Term → List ℤ → List ℤ → Type 0
AreUntaken ts taken θ = All (λ t. IsFree taken (val t θ)) ts

-- what is used up at a moment: each amount from its `from` up to, and not at, its `to`
abbrev pub amount_at : List Used → ℤ → ℤ
amount_at [] t = pos 0
amount_at (u ∷ us) t = (cond (int_le u.from t && int_lt t u.to) u.amount (pos 0)) +ℤ amount_at us t

-- what a task uses, once its terms have values: from its start for its length
abbrev pub usage : List ℤ → CumTask → Used
usage θ k = record { from = val k.s θ; to = val k.s θ +ℤ val k.d θ; amount = val k.r θ }

-- length and use aren't negative
abbrev pub IsTask : List ℤ → CumTask → Type 0
IsTask θ k = (pos 0 ≤ℤ val k.d θ) × (pos 0 ≤ℤ val k.r θ)

unfoldable pub AreTasks : List CumTask → List ℤ → Type 0
AreTasks ks θ = All (IsTask θ) ks

-- at each whole moment the amounts add up to at most the capacity
unfoldable pub FitsAlways : List Used → ℤ → Type 0
FitsAlways us b = (t : ℤ) → amount_at us t ≤ℤ b

-- the numbers are the values of the terms, one by one
unfoldable pub IsRow : List Term → List ℤ → List ℤ → Type 0
IsRow xs row θ = (j : ℕ) (d : Term) → j < length xs → slice_index_or row j (pos 0) ≡ val (slice_index_or xs j d) θ

-- one of the rows is, which stand one after the other
unfoldable pub HasRow : List Term → List ℤ → List ℤ → Type 0
HasRow xs rows θ = (k : ℕ) × (k < length rows / length xs) × IsRow xs (slice_range rows (k * length xs) (k * length xs + length xs)) θ

-- The constraint holds under the assignment.
abbrev pub Holds : Con → List ℤ → Type 0
Holds (con.Base b) θ = HoldsBase b θ
Holds (con.Reif b r f) θ = HoldsBase b θ ↔ (val r θ ≡ bit f)
Holds (con.Times a b c) θ = val a θ *ℤ val b θ ≡ val c θ
Holds (con.Abs a b) θ = val b θ ≡ pos (unsigned_abs (val a θ))
Holds (con.Div a b c) θ = (val b θ ≡ pos 0 → ⊥) × (val c θ ≡ int_div (val a θ) (val b θ))
Holds (con.Mod a b c) θ = (val b θ ≡ pos 0 → ⊥) × (val c θ ≡ int_rem (val a θ) (val b θ))
Holds (con.Greatest m xs) θ = HasValue xs (val m θ) θ × AreAtMost xs (val m θ) θ
Holds (con.Least m xs) θ = HasValue xs (val m θ) θ × AreAtLeast xs (val m θ) θ
Holds (con.Element i xs c) θ = HoldsElement i xs c θ
Holds (con.AllDiffExcept xs taken) θ = AreDistinct xs θ × AreUntaken xs taken θ
Holds (con.CumulUsed tasks used b) θ = AreTasks tasks θ × FitsAlways (used ++ map (usage θ) tasks) (val b θ)
Holds (con.Table xs rows) θ = HasRow xs rows θ
