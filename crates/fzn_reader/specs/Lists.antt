-- Lists:
--   list = "[" [ expr { "," expr } [ "," ] ] "]"
-- Elements are counted over the whole file: `used` of them stood before the list.
use Rattle.std.specs.Prelude.{ℕ, ◌+◌, List, [], ◌∷◌, ◌++◌, Bool, Result, Ok, codes, nat_lt, length}
use Rattle.fzn_lexer.specs.Spots.{Spot}
use Rattle.fzn_model.specs.declared.term.Term.{Term}
use Rattle.fzn_reader.specs.declared.scalar.Scalar.{Scalar}
use Rattle.fzn_reader.specs.declared.refused.Refused.{Refused}
use Rattle.fzn_reader.specs.Refusals.{◌>>=◌, is_mark, separator_at, repeat, most}
use Rattle.fzn_reader.specs.Names.{Names}
use Rattle.fzn_reader.specs.Scalars.{scalar_at, limited}

-- the list ends here
abbrev pub ends_list : {S : Type 0} → S → List Spot → Bool
ends_list done ts = is_mark (codes "]") ts

-- there is room for one element more
abbrev pub has_room : ℕ → Bool
has_room used = nat_lt used 2000000

-- one element more, and the comma behind it
unfoldable pub one_element : ℕ → Scalar → Names → List Term → List Spot → Result (List Term × List Spot) Refused
one_element used s names done ts = do
  e ← limited (has_room (used + length done)) ts (scalar_at s names ts)
  rest ← separator_at (codes "]") e.1
  Ok (done ++ e.0 ∷ [], rest)

-- ints or bools, up to the `]`, which stays
unfoldable pub elements_at : ℕ → Scalar → Names → List Spot → Result (List Term × List Spot) Refused
elements_at used s names ts = repeat ends_list (one_element used s names) most [] ts
