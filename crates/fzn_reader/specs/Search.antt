-- Search annotations, which are read behind the last item, with all names of the file:
--   int_search(vars, how, where, ..), bool_search(vars, how, where, ..), seq_search([ search, .. ])
-- One that hasn't this form, or names what is neither a variable nor a constant, has no effect. Each is whole by the
-- grammar of annotations, since the file was read.
use Rattle.std.specs.Prelude.{ℕ, zero, suc, List, [], ◌∷◌, ◌++◌, Bool, true, false, Option, Some, None, Result, Ok, Err, if◌then◌else◌, codes, is_ok, option_map}
use Rattle.std.specs.Str.{bytes_eq}
use Rattle.fzn_lexer.specs.Spots.{Spot, first, after_first}
use Rattle.fzn_model.specs.declared.term.Term.{Term}
use Rattle.fzn_model.specs.declared.term.Term.TheVariants.{Const, Var}
use Rattle.fzn_model.specs.declared.pick.Pick.{Pick}
use Rattle.fzn_model.specs.declared.pick.VarBy.{VarBy}
use Rattle.fzn_model.specs.declared.pick.VarBy.TheVariants.{InputOrder, FirstFail, Smallest, Largest}
use Rattle.fzn_model.specs.declared.pick.ValAt.{ValAt}
use Rattle.fzn_model.specs.declared.pick.ValAt.TheVariants.{Min, Max, Split}
use Rattle.fzn_reader.specs.declared.decl.Decl.{Decl}
use Rattle.fzn_reader.specs.declared.decl.Decl.TheVariants as decl
use Rattle.fzn_reader.specs.declared.begin.Begin.{Begin}
use Rattle.fzn_reader.specs.declared.begin.Begin.TheVariants as begin
use Rattle.fzn_reader.specs.declared.code.Code.TheVariants as code
use Rattle.fzn_reader.specs.declared.refused.Refused.{Refused}
use Rattle.fzn_reader.specs.Refusals.{◌>>=◌, refuse, value_or, mark_at, separator_at, repeat, most}
use Rattle.fzn_reader.specs.Names.{Names, find_name}
use Rattle.fzn_reader.specs.Exprs.{begins}
use Rattle.fzn_reader.specs.Lists.{ends_list}
use Rattle.fzn_reader.specs.Annotations.{annexpr_at, ann_at, has_arguments}
use Rattle.fzn_reader.specs.Solving.{is_search}

-- how a variable is chosen; an unknown word is `input_order`
abbrev pub var_by : List ℕ → VarBy
var_by word = if bytes_eq word (codes "first_fail") then FirstFail else (if bytes_eq word (codes "smallest") then Smallest else (if bytes_eq word (codes "largest") then Largest else InputOrder))

-- which part of its domain comes first; an unknown word is `indomain_min`
abbrev pub val_at : List ℕ → ValAt
val_at word = if bytes_eq word (codes "indomain_max") then Max else (if bytes_eq word (codes "indomain_split") then Split else Min)

-- the one token of an argument; an argument of another form is no word
abbrev pub bare_word : List Spot → List ℕ
bare_word ts = if has_arguments ts then [] else (first ts).text

-- any argument, and its word
unfoldable pub choice_at : List Spot → Result (List ℕ × List Spot) Refused
choice_at ts = annexpr_at 64 ts >>= λ rest. Ok (bare_word ts, rest)

-- a term more, where it is a variable
abbrev pub with_variable : List Term → Term → List Term
with_variable vars (Const z) = vars
with_variable vars (Var k) = vars ++ Var k ∷ []

-- the variables of a list, behind these
abbrev pub with_variables : List Term → List Term → List Term
with_variables vars [] = vars
with_variables vars (t ∷ ts) = with_variables (with_variable vars t) ts

-- a name in a list: an int or a bool
abbrev pub named_member : Option Decl → List Term → List Spot → Result (List Term × List Spot) Refused
named_member (Some (decl.Int t)) vars ts = Ok (with_variable vars t, after_first ts)
named_member (Some (decl.Bool t)) vars ts = Ok (with_variable vars t, after_first ts)
named_member d vars ts = refuse code.Syntax ts

-- a member of a list of variables and constants
abbrev pub member_by : Begin → Names → List Term → List Spot → Result (List Term × List Spot) Refused
member_by begin.Number names vars ts = Ok (vars, after_first ts)
member_by (begin.Truth b) names vars ts = Ok (vars, after_first ts)
member_by begin.Name names vars ts = named_member (find_name names (first ts).text) vars ts
member_by b names vars ts = refuse code.Syntax ts

-- one member more, and the comma behind it
unfoldable pub one_variable : Names → List Term → List Spot → Result (List Term × List Spot) Refused
one_variable names vars ts = do
  member ← member_by (begins ts) names vars ts
  rest ← separator_at (codes "]") member.1
  Ok (member.0, rest)

-- the terms of an array of ints or bools; of these the variables count
abbrev pub array_terms : Decl → Option (List Term)
array_terms (decl.Ints parameters terms) = Some terms
array_terms (decl.Bools parameters terms) = Some terms
array_terms d = None

-- an array, by what its name stands for
abbrev pub named_vars : Option Decl → List Spot → Result (List Term × List Spot) Refused
named_vars None ts = refuse code.Syntax ts
named_vars (Some d) ts = value_or code.Syntax (option_map (with_variables []) (array_terms d)) ts

-- a list that is written out, from its "[" on
unfoldable pub written_vars : Names → List Spot → Result (List Term × List Spot) Refused
written_vars names ts = do
  members ← repeat ends_list (one_variable names) most [] (after_first ts)
  close ← mark_at (codes "]") members.1
  Ok (members.0, close)

-- vars, by what begins here
abbrev pub vars_by : Begin → Names → List Spot → Result (List Term × List Spot) Refused
vars_by begin.Bracket names ts = written_vars names ts
vars_by begin.Name names ts = named_vars (find_name names (first ts).text) ts
vars_by b names ts = refuse code.Syntax ts

-- "(" vars "," how "," where ..
unfoldable pub pick_at : Names → List Spot → Result (Pick × List Spot) Refused
pick_at names ts = do
  open_ ← mark_at (codes "(") ts
  vars ← vars_by (begins open_) names open_
  comma ← mark_at (codes ",") vars.1
  how ← choice_at comma
  next ← mark_at (codes ",") how.1
  at ← choice_at next
  Ok (record { vars = vars.0; by = var_by how.0; at = val_at at.0 }, at.1)

-- the pick of an annotation of that form behind the others; of another form it has no effect
abbrev pub with_pick : List Pick → Result (Pick × List Spot) Refused → List Pick
with_pick picks (Ok pick) = picks ++ pick.0 ∷ []
with_pick picks (Err e) = picks

-- "(" "["
unfoldable pub opening_at : List Spot → Result (List Spot) Refused
opening_at ts = mark_at (codes "(") ts >>= λ open_. mark_at (codes "[") open_

-- one search annotation more of a list, and the comma behind it
unfoldable pub one_search : Unit {0} → List Spot → Result (Unit {0} × List Spot) Refused
one_search u ts = if is_search (first ts).text then (ann_at ts >>= λ rest. separator_at (codes "]") rest >>= λ next. Ok (tt, next)) else refuse code.Syntax ts

-- "(" "[" [ search { "," search } ] "]" ")"
unfoldable pub search_list_at : List Spot → Result (List Spot) Refused
search_list_at ts = do
  list ← opening_at ts
  members ← repeat ends_list one_search most tt list
  bracket ← mark_at (codes "]") members.1
  mark_at (codes ")") bracket

-- the picks of one member more, and the comma behind it
unfoldable pub one_pick : (List Pick → List Spot → Result (List Pick) Refused) → List Pick → List Spot → Result (List Pick × List Spot) Refused
one_pick member picks ts = do
  more ← member picks ts
  rest ← ann_at ts
  next ← separator_at (codes "]") rest
  Ok (more, next)

-- the picks of the members of a list, in order
unfoldable pub picks_with : (List Pick → List Spot → Result (List Pick) Refused) → List Pick → List Spot → Result (List Pick) Refused
picks_with member picks ts = do
  list ← opening_at ts
  members ← repeat ends_list (one_pick member) most picks list
  Ok members.0

-- the picks of a `seq_search`, where its argument is a list of search annotations, and else none
abbrev pub picks_by : Bool → Bool → (List Pick → List Spot → Result (List Pick) Refused) → Names → List Pick → List Spot → Result (List Pick) Refused
picks_by true true member names picks ts = picks_with member picks (after_first ts)
picks_by true false member names picks ts = Ok picks
picks_by false whole member names picks ts = Ok (with_pick picks (pick_at names (after_first ts)))

-- the picks of a search annotation, behind others; a `seq_search` may stand in another, so many levels deep
unfoldable pub picks_at : ℕ → Names → List Pick → List Spot → Result (List Pick) Refused
picks_at zero names picks ts = Ok picks
picks_at (suc levels) names picks ts = picks_by (bytes_eq (first ts).text (codes "seq_search")) (is_ok (search_list_at (after_first ts))) (picks_at levels names) names picks ts

-- no pick where the annotation can't be read, which doesn't come
abbrev pub picks_or_none : Result (List Pick) Refused → List Pick
picks_or_none (Ok picks) = picks
picks_or_none (Err e) = []

-- the picks of the first search annotation of `solve`
unfoldable pub order_of : Names → Option (List Spot) → List Pick
order_of names None = []
order_of names (Some ts) = picks_or_none (picks_at 64 names [] ts)
