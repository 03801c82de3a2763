use Rattle.std.proofs.Common.{◌≡◌, ◌+◌, min, take}
use Rattle.fzn_model.specs.Values.{largest}
use Rattle.fzn_reader.specs.Numbers.{written}
use Rattle.fzn_reader.proofs.numbers.capped.Given as goal

abbrev pub invariant-loop-c : goal.invariant-loop-c
invariant-loop-c l = l.number ≡ min (written l.base (take l.c-index l.digits)) (largest + 1)
