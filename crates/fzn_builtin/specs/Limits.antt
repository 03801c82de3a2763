-- What a model keeps of arguments: variables in range, limits, Booleans.
use Rattle.std.specs.Prelude.{ℕ, List, ℤ, All, ⊤}
use Rattle.fzn_model.specs.Limits.{IsValue, TermIn, TermsIn, IsTruth}
use Rattle.fzn_builtin.specs.declared.arg.Arg.{Arg}
use Rattle.fzn_builtin.specs.declared.arg.Arg.TheVariants as arg

-- an argument over n variables, within the limits
abbrev pub ArgKept : ℕ → Arg → Type 0
ArgKept n (arg.Int t) = TermIn n t
ArgKept n (arg.Bool t) = TermIn n t
ArgKept n (arg.Set s) = All (λ run. IsValue run.0 × IsValue run.1) s
ArgKept n (arg.Ints ts) = TermsIn n ts
ArgKept n (arg.Bools ts) = TermsIn n ts

-- bools are Booleans under the domains
abbrev pub ArgTruth : List (List (ℤ × ℤ)) → Arg → Type 0
ArgTruth ds (arg.Bool t) = IsTruth ds t
ArgTruth ds (arg.Bools ts) = All (IsTruth ds) ts
ArgTruth ds a = ⊤
