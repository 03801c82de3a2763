-- What the items so far have stated, and what each of them adds.
use Rattle.std.specs.Prelude.{ℕ, ◌+◌, List, [], ◌∷◌, ◌++◌, Bool, true, false, Option, Some, None, if◌then◌else◌, ◌&&◌, nat_lt, length, ℤ, pos, negsuc, ◌-ℤ◌, int_le}
use Rattle.fzn_model.specs.declared.term.Term.{Term}
use Rattle.fzn_model.specs.declared.term.Term.TheVariants.{Var}
use Rattle.fzn_model.specs.declared.con.Con.{Con}
use Rattle.fzn_model.specs.declared.con.Con.TheVariants as con
use Rattle.fzn_model.specs.declared.base.Base.TheVariants as base
use Rattle.fzn_model.specs.declared.lin.Rel.TheVariants.{Eq}
use Rattle.fzn_model.specs.declared.out.Out.{Out}
use Rattle.fzn_model.specs.declared.goal.Goal.{Goal}
use Rattle.fzn_model.specs.Sets.{low_of, high_of}
use Rattle.fzn_lexer.specs.Spots.{Spot}
use Rattle.fzn_reader.specs.declared.decl.Decl.{Decl}
use Rattle.fzn_reader.specs.declared.decl.Decl.TheVariants as decl
use Rattle.fzn_reader.specs.declared.var_type.VarType.{VarType}
use Rattle.fzn_reader.specs.Names.{Names}

-- What has been stated: names, the domain of each variable, constraints, outputs, the goal with the tokens of its first
-- search annotation; and how many constraint items and how many elements of lists stood in the items.
pub record Stated : Type 0 where
  pub names : Names
  pub doms : List (List (ℤ × ℤ))
  pub cons : List Con
  pub outs : List Out
  pub goal : Option Goal
  pub search : Option (List Spot)
  pub items : ℕ
  pub elements : ℕ

-- no item yet
abbrev pub nothing : Stated
nothing = record { names = []; doms = []; cons = []; outs = []; goal = None; search = None; items = 0; elements = 0 }

-- one name, domain, constraint or output more
abbrev pub with_name : Stated → List ℕ → Decl → Stated
with_name d name what = record d { names = d.names ++ (name, what) ∷ [] }

abbrev pub with_dom : Stated → List (ℤ × ℤ) → Stated
with_dom d dom = record d { doms = d.doms ++ dom ∷ [] }

abbrev pub with_con : Stated → Con → Stated
with_con d c = record d { cons = d.cons ++ c ∷ [] }

abbrev pub with_out : Stated → Out → Stated
with_out d o = record d { outs = d.outs ++ o ∷ [] }

-- one constraint item more
abbrev pub with_item : Stated → Con → Stated
with_item d c = record d { cons = d.cons ++ c ∷ []; items = d.items + 1 }

-- so many elements of lists by now
abbrev pub with_elements : Stated → ℕ → Stated
with_elements d n = record d { elements = n }

-- what is sought, and the tokens of the first search annotation
abbrev pub with_goal : Stated → Goal → Option (List Spot) → Stated
with_goal d g search = record d { goal = Some g; search = search }

-- a set with a gap, whose hull has more than 1,024 numbers: too wide for a domain
abbrev pub is_wide : List (ℤ × ℤ) → Bool
is_wide set = nat_lt 1 (length set) && int_le (pos 1024) (high_of set -ℤ low_of set)

-- the one run from the least to the greatest number
abbrev pub hull : List (ℤ × ℤ) → List (ℤ × ℤ)
hull set = (low_of set, high_of set) ∷ []

-- a variable's value is in the set
abbrev pub member_of : ℕ → List (ℤ × ℤ) → Con
member_of var set = con.Base (base.Member (record { x = Var var; set = set }))

-- the domain of one variable more: its set, or the hull of a set that is too wide, and then the constraint that it is
-- a member of the set
abbrev pub with_domain : Stated → List (ℤ × ℤ) → Stated
with_domain d set = if is_wide set then with_con (with_dom d (hull set)) (member_of (length d.doms) set) else with_dom d set

-- an int or a bool variable
abbrev pub variable_of : Bool → ℕ → Decl
variable_of true var = decl.Bool (Var var)
variable_of false var = decl.Int (Var var)

-- an initialiser: x - e = 0
abbrev pub equals_of : ℕ → Term → Con
equals_of var e = con.Base (base.Lin (record { rel = Eq; terms = (pos 1, Var var) ∷ (negsuc 0, e) ∷ []; r = pos 0 }))

-- the constraint of an initialiser, where there is one
abbrev pub with_value : Option Term → ℕ → Stated → Stated
with_value None var d = d
with_value (Some e) var d = with_con d (equals_of var e)

-- the output of a single variable
abbrev pub out_of : List ℕ → Bool → ℕ → Out
out_of name truth var = record { name = name; dims = []; terms = Var var ∷ []; truth = truth }

-- one variable more, whose number is how many there were
unfoldable pub with_var : Stated → List ℕ → VarType → Bool → Option Term → Stated
with_var d name ty output value =
    let var = length d.doms in
    let e = with_value value var (with_name (with_domain d ty.set) name (variable_of ty.truth var)) in
    if output then with_out e (out_of name ty.truth var) else e
