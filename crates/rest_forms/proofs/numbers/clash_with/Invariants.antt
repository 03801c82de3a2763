use Rattle.std.proofs.Common.{◌≡◌, ◌++◌, drop}
use Rattle.rest_forms.specs.Numbers.{HasSame}
use Rattle.rest_forms.proofs.NumberSets.{clash}
use Rattle.rest_forms.proofs.numbers.clash_with.Given as goal

abbrev pub invariant-loop-number : goal.invariant-loop-number
invariant-loop-number l = record {
  told : clash (drop l.number-index l.list) l.numbers.keys ≡ clash l.list l.fn.numbers.keys;
  has : HasSame (l.list ++ l.fn.numbers.keys) (drop l.number-index l.list ++ l.numbers.keys);
}
