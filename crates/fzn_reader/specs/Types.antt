-- Types, new names, and expressions of sets:
--   partype = "bool" | "int" | "set" "of" "int"
--   vartype = "bool" | "int" | Number ".." Number | "{" [ Number { "," Number } ] "}"
use Rattle.std.specs.Prelude.{ℕ, List, [], ◌∷◌, Bool, true, false, Option, Some, None, Result, Ok, if◌then◌else◌, codes, is_some, ℤ, pos, neg_ℤ}
use Rattle.fzn_model.specs.Values.{largest}
use Rattle.fzn_lexer.specs.Spots.{Spot, first, after_first}
use Rattle.fzn_reader.specs.declared.decl.Decl.{Decl}
use Rattle.fzn_reader.specs.declared.decl.Decl.TheVariants as decl
use Rattle.fzn_reader.specs.declared.begin.Begin.{Begin}
use Rattle.fzn_reader.specs.declared.begin.Begin.TheVariants as begin
use Rattle.fzn_reader.specs.declared.par_type.ParType.{ParType}
use Rattle.fzn_reader.specs.declared.par_type.ParType.TheVariants as par
use Rattle.fzn_reader.specs.declared.var_type.VarType.{VarType}
use Rattle.fzn_reader.specs.declared.code.Code.TheVariants as code
use Rattle.fzn_reader.specs.declared.refused.Refused.{Refused}
use Rattle.fzn_reader.specs.Refusals.{◌>>=◌, refuse, value_or, is_mark, is_word, mark_at, word_at, name_at}
use Rattle.fzn_reader.specs.Names.{Names, find_name}
use Rattle.fzn_reader.specs.Numbers.{number_in}
use Rattle.fzn_reader.specs.Exprs.{begins}
use Rattle.fzn_reader.specs.Sets.{number_at, range_at, range_set, braces_at}

-- partype
unfoldable pub partype_at : List Spot → Result (ParType × List Spot) Refused
partype_at ts =
    if is_word (codes "bool") ts then Ok (par.Bool, after_first ts)
    else (if is_word (codes "int") ts then Ok (par.Int, after_first ts)
    else (if is_word (codes "set") ts then (word_at (codes "of") (after_first ts) >>= λ of. word_at (codes "int") of >>= λ int. Ok (par.Set, int))
    else (if is_word (codes "float") ts then refuse code.Float ts
    else refuse code.Syntax ts)))

-- the set of a range or in braces, as the type of a variable
abbrev pub set_type : List (ℤ × ℤ) × List Spot → Result (VarType × List Spot) Refused
set_type set = Ok (record { set = set.0; truth = false }, set.1)

-- Number ".." Number | "{" .. "}"
abbrev pub set_type_by : Begin → List Spot → Result (VarType × List Spot) Refused
set_type_by begin.Brace ts = braces_at ts >>= set_type
set_type_by b ts = range_at ts >>= set_type

-- vartype
unfoldable pub vartype_at : List Spot → Result (VarType × List Spot) Refused
vartype_at ts =
    if is_word (codes "bool") ts then Ok (record { set = (pos 0, pos 1) ∷ []; truth = true }, after_first ts)
    else (if is_word (codes "int") ts then Ok (record { set = (neg_ℤ (pos largest), pos largest) ∷ []; truth = false }, after_first ts)
    else (if is_word (codes "float") ts then refuse code.Float ts
    else (if is_word (codes "set") ts then refuse code.SetVar ts
    else set_type_by (begins ts) ts)))

-- A name that isn't declared yet. Without room for what it names it shows that, if it doesn't show a lesser code.
unfoldable pub new_name_at : Bool → Names → List Spot → Result (List ℕ × List Spot) Refused
new_name_at room names ts = do
  name ← name_at ts
  if is_some (find_name names name.0) then refuse code.DeclaredTwice ts else (if room then Ok name else refuse code.TooMany ts)

-- a place where one more may stand
abbrev pub room_at : Bool → List Spot → Result (List Spot) Refused
room_at room ts = if room then Ok ts else refuse code.TooMany ts

-- a set that a name stands for
abbrev pub named_set : Bool → Option Decl → List Spot → Result (List (ℤ × ℤ) × List Spot) Refused
named_set room None ts = refuse code.Undeclared ts
named_set room (Some (decl.Set set)) ts = if room then Ok (set, after_first ts) else refuse code.TooMany ts
named_set room (Some d) ts = refuse code.WrongArguments ts

-- A set, by what begins here. A number without `..` behind it is no set. As an element of a list without room for one
-- more it is too many at its first token, unless that shows a lesser code.
abbrev pub set_by : Begin → Bool → Names → List Spot → Result (List (ℤ × ℤ) × List Spot) Refused
set_by begin.Number room names ts =
    if is_mark (codes "..") (after_first ts) then (value_or code.OutOfRange (number_in (first ts).text) ts >>= λ low. room_at room ts >>= λ here. mark_at (codes "..") low.1 >>= λ dots. number_at dots >>= λ high. Ok (range_set low.0 high.0, high.1))
    else refuse code.WrongArguments ts
set_by begin.Real room names ts = refuse code.Float ts
set_by (begin.Truth b) room names ts = refuse code.WrongArguments ts
set_by begin.Name room names ts = named_set room (find_name names (first ts).text) ts
set_by begin.Brace room names ts = room_at room ts >>= λ here. braces_at ts
set_by begin.Bracket room names ts = refuse code.WrongArguments ts
set_by begin.Other room names ts = refuse code.Syntax ts

-- a set
unfoldable pub set_at : Bool → Names → List Spot → Result (List (ℤ × ℤ) × List Spot) Refused
set_at room names ts = set_by (begins ts) room names ts
