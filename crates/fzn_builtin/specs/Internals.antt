-- What loops and proofs use, and no promise of the crate speaks of.
use Rattle.std.specs.Prelude.{ℕ, ◌<◌, List, length, slice_index_or}
use Rattle.fzn_builtin.specs.declared.needs.Need.{Need}
use Rattle.fzn_builtin.specs.declared.arg.Arg.{Arg}
use Rattle.fzn_builtin.specs.Arguments.{FitsNeed}

-- each argument fits the need at its index
unfoldable pub FitEach : List Need → List Arg → Type 0
FitEach needs args = (k : ℕ) (n : Need) (a : Arg) → k < length args → FitsNeed (slice_index_or needs k n) (slice_index_or args k a)
