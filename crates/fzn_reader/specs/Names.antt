-- The one space of names of parameters, variables and arrays.
use Rattle.std.specs.Prelude.{ℕ, List, [], ◌∷◌, Some, None, Option, if◌then◌else◌}
use Rattle.std.specs.Str.{bytes_eq}
use Rattle.fzn_reader.specs.declared.decl.Decl.{Decl}

-- the declarations so far, in order
abbrev pub Names : Type 0
Names = List (List ℕ × Decl)

-- what the name stands for
abbrev pub find_name : Names → List ℕ → Option Decl
find_name [] name = None
find_name (e ∷ es) name = if bytes_eq name e.0 then Some e.1 else find_name es name
