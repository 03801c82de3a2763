use Rattle.std.proofs.Common.{◌++◌, take, map}
use Rattle.std.specs.Prelude.{All}
use Rattle.dom_store.specs.Strength.{part_of}
use Rattle.cumul_prop.specs.Parts.{IsPart, IsKept}
use Rattle.cumul_prop.proofs.parts.put_parts.Given as goal

abbrev pub invariant-loop-task : goal.invariant-loop-task
invariant-loop-task l = record {
  kept : IsKept l.used (l.used ++ map (part_of l.store.box) (take l.task-index l.tasks)) l.kept.items;
  each : All IsPart l.kept.items;
}
