-- The values of the language: the whole numbers from the negative of the largest one to the largest one.
use Rattle.std.specs.Prelude.{ℕ, unsigned_abs}
use Rattle.fzn_model.specs.declared.term.TheConstants.{LARGEST_VALUE}

-- the greatest value; its negative is the least
abbrev pub largest : ℕ
largest = unsigned_abs LARGEST_VALUE
