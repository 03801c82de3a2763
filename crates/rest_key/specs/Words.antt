-- A residual problem as a list of words, and those of them that the far digest takes. It is this project's own.
use Rattle.std.specs.Prelude.{ℕ, List, [], ◌∷◌, ◌++◌, length, ℤ, pos}
use Rattle.std.specs.List.{flat_map}
use Rattle.fzn_model.specs.Meaning.{bit}
use Rattle.fzn_model.specs.declared.term.Term.{Term}
use Rattle.fzn_model.specs.declared.term.Term.TheVariants as term
use Rattle.fzn_model.specs.declared.lin.Rel.{Rel}
use Rattle.fzn_model.specs.declared.lin.Rel.TheVariants as rel
use Rattle.fzn_model.specs.declared.lin.Lin.{Lin}
use Rattle.fzn_model.specs.declared.base.Base.{Base}
use Rattle.fzn_model.specs.declared.base.Base.TheVariants as base
use Rattle.fzn_model.specs.declared.cumulative.CumTask.{CumTask}
use Rattle.fzn_model.specs.declared.cumulative.Used.{Used}
use Rattle.fzn_model.specs.declared.con.Con.{Con}
use Rattle.fzn_model.specs.declared.con.Con.TheVariants as con
use Rattle.fzn_model.specs.Rests.{RestParts}

-- ---- parts
-- a constant is 0 and its number, a variable 1 and its number
abbrev pub term_words : Term → List ℤ
term_words (term.Const z) = pos 0 ∷ z ∷ []
term_words (term.Var k) = pos 1 ∷ pos k ∷ []

-- a list is its length and its members
abbrev pub list_words : {X : Type 0} → (X → List ℤ) → List X → List ℤ
list_words words_of_one xs = pos (length xs) ∷ flat_map words_of_one xs

abbrev pub number_words : ℤ → List ℤ
number_words z = z ∷ []

abbrev pub run_words : ℤ × ℤ → List ℤ
run_words run = run.0 ∷ run.1 ∷ []

abbrev pub set_words : List (ℤ × ℤ) → List ℤ
set_words set = list_words run_words set

abbrev pub linear_term_words : ℤ × Term → List ℤ
linear_term_words p = p.0 ∷ term_words p.1

abbrev pub cost_words : ℤ × ℕ → List ℤ
cost_words p = p.0 ∷ pos p.1 ∷ []

abbrev pub task_words : CumTask → List ℤ
task_words k = term_words k.s ++ term_words k.d ++ term_words k.r

abbrev pub used_words : Used → List ℤ
used_words u = u.from ∷ u.to ∷ u.amount ∷ []

-- ---- constraints: the number of the kind, and the parts in the order of the type's fields
abbrev pub rel_number : Rel → ℤ
rel_number rel.Le = pos 1
rel_number rel.Eq = pos 2
rel_number rel.Ne = pos 3

abbrev pub base_number : Base → ℤ
base_number (base.Lin l) = rel_number l.rel
base_number (base.Clause c) = pos 4
base_number (base.Member m) = pos 5

abbrev pub kind_number : Con → ℤ
kind_number (con.Base b) = base_number b
kind_number (con.Reif b r f) = pos 6
kind_number (con.Times a b c) = pos 7
kind_number (con.Abs a b) = pos 8
kind_number (con.Div a b c) = pos 9
kind_number (con.Mod a b c) = pos 10
kind_number (con.Greatest m xs) = pos 11
kind_number (con.Least m xs) = pos 12
kind_number (con.Element i xs c) = pos 13
kind_number (con.AllDiffExcept xs taken) = pos 14
kind_number (con.CumulUsed tasks used b) = pos 15
kind_number (con.Table xs rows) = pos 16

abbrev pub base_parts : Base → List ℤ
base_parts (base.Lin l) = list_words linear_term_words l.terms ++ l.r ∷ []
base_parts (base.Clause c) = list_words term_words c.pos ++ list_words term_words c.neg
base_parts (base.Member m) = term_words m.x ++ set_words m.set

abbrev pub con_parts : Con → List ℤ
con_parts (con.Base b) = base_parts b
con_parts (con.Reif b r f) = base_number b ∷ base_parts b ++ term_words r ++ bit f ∷ []
con_parts (con.Times a b c) = term_words a ++ term_words b ++ term_words c
con_parts (con.Abs a b) = term_words a ++ term_words b
con_parts (con.Div a b c) = term_words a ++ term_words b ++ term_words c
con_parts (con.Mod a b c) = term_words a ++ term_words b ++ term_words c
con_parts (con.Greatest m xs) = term_words m ++ list_words term_words xs
con_parts (con.Least m xs) = term_words m ++ list_words term_words xs
con_parts (con.Element i xs c) = term_words i ++ list_words term_words xs ++ term_words c
con_parts (con.AllDiffExcept xs taken) = list_words term_words xs ++ list_words number_words taken
con_parts (con.CumulUsed tasks used b) = list_words task_words tasks ++ list_words used_words used ++ term_words b
con_parts (con.Table xs rows) = list_words term_words xs ++ list_words number_words rows

-- The parts of a constraint that the far digest takes: all but the number of a relation Le, the literals of a clause, the
-- set of a member, taken values, used amounts, a constant capacity, and rows. Of a reified base it takes all parts. Two
-- constraints of which the one is weaker than the other have the same ones. Each kind has a row of its own: a kind without
-- one isn't covered, and the definition is refused.
abbrev pub far_lin : Rel → Lin → List ℤ
far_lin rel.Le l = list_words linear_term_words l.terms
far_lin rel.Eq l = list_words linear_term_words l.terms ++ l.r ∷ []
far_lin rel.Ne l = list_words linear_term_words l.terms ++ l.r ∷ []

abbrev pub far_capacity : Term → List ℤ
far_capacity (term.Const z) = []
far_capacity (term.Var k) = term_words (term.Var k)

abbrev pub far_base : Base → List ℤ
far_base (base.Lin l) = far_lin l.rel l
far_base (base.Clause c) = []
far_base (base.Member m) = term_words m.x

abbrev pub far_parts : Con → List ℤ
far_parts (con.Base b) = far_base b
far_parts (con.Reif b r f) = con_parts (con.Reif b r f)
far_parts (con.Times a b c) = con_parts (con.Times a b c)
far_parts (con.Abs a b) = con_parts (con.Abs a b)
far_parts (con.Div a b c) = con_parts (con.Div a b c)
far_parts (con.Mod a b c) = con_parts (con.Mod a b c)
far_parts (con.Greatest m xs) = con_parts (con.Greatest m xs)
far_parts (con.Least m xs) = con_parts (con.Least m xs)
far_parts (con.Element i xs c) = con_parts (con.Element i xs c)
far_parts (con.AllDiffExcept xs taken) = list_words term_words xs
far_parts (con.CumulUsed tasks used b) = list_words task_words tasks ++ far_capacity b
far_parts (con.Table xs rows) = list_words term_words xs

-- ---- residual problems
-- each constraint: its label, the number of its kind, and its parts
abbrev pub labelled : (Con → List ℤ) → List Con → List ℕ → List ℤ
labelled parts [] labels = []
labelled parts (c ∷ cs) [] = []
labelled parts (c ∷ cs) (label ∷ labels) = pos label ∷ kind_number c ∷ parts c ++ labelled parts cs labels

unfoldable pub words_of : RestParts → List ℤ
words_of r = list_words set_words r.doms ++ list_words cost_words r.cost ++ pos (length r.cons) ∷ labelled con_parts r.cons r.labels

-- Those that the far digest takes: all but the domains and what it doesn't take of a constraint. Labels and the number of
-- constraints are among them, so a problem that dominates another may have others: it may have fewer constraints.
unfoldable pub far_words : RestParts → List ℤ
far_words r = pos (length r.doms) ∷ list_words cost_words r.cost ++ pos (length r.cons) ∷ labelled far_parts r.cons r.labels
