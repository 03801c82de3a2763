use Rattle.std.proofs.Common.{◌≡◌, ◌++◌}
use Rattle.std.specs.List.{flat_map}
use Rattle.rest_forms.proofs.table.flat.Given as goal

abbrev pub invariant-loop-row : goal.invariant-loop-row
invariant-loop-row l = l.entries.items ++ flat_map (λ row. row) l.row-iterator ≡ flat_map (λ row. row) l.rows.keys
