use Rattle.std.proofs.Common.{◌≡◌, take}
use Rattle.std.specs.List.{flat_map}
use Rattle.rest_forms.specs.Sweep.{changes_of_part}
use Rattle.rest_forms.proofs.used_runs.changes_of.Given as goal

abbrev pub invariant-loop-part : goal.invariant-loop-part
invariant-loop-part l = l.changes.items ≡ flat_map changes_of_part (take l.part-index l.used)
