use Rattle.std.proofs.Common.{◌≡◌, take}
use Rattle.std.specs.Prelude.{map}
use Rattle.fzn_model.specs.Boxes.{low_value}
use Rattle.explorer.proofs.node.read_values.Given as goal

abbrev pub invariant-loop-var : goal.invariant-loop-var
invariant-loop-var l = l.values.items ≡ map low_value (take l.var l.store.box)
