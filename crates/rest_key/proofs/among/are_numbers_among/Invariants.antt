use Rattle.std.proofs.Common.{ℕ, ℤ, ◌<◌, get_or}
use Rattle.rest_key.specs.Weaker.{IsAmong}
use Rattle.rest_key.proofs.among.are_numbers_among.Given as goal

abbrev pub invariant-loop-number : goal.invariant-loop-number
invariant-loop-number l = (k : ℕ) (d : ℤ) → k < l.number-index → IsAmong l.others (get_or l.numbers k d)
