-- What a source was told to read.
use Rattle.std.specs.Prelude.{◌≡◌, ℕ, List, Some, None, ⊤, option_map}
use Rattle.std.specs.Borrow.{Bor}
use Rattle.std.specs.declared.option.Option.{Option}

-- the name of a file, or standard input where there is none
abbrev pub name_of : Option (Bor (List ℕ)) → Option (List ℕ)
name_of = option_map (λ name. name.now)

-- a source that tells what was chosen tells this
abbrev pub Chose : Option (Option (List ℕ)) → Option (List ℕ) → Type 0
Chose None name = ⊤
Chose (Some chosen) name = chosen ≡ name
