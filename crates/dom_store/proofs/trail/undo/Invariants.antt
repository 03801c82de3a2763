use Rattle.std.proofs.Common.{◌≡◌, ◌<◌, ◌≤◌, length, take, drop}
use Rattle.std.specs.Prelude.{All, vec_capacity}
use Rattle.dom_store.specs.Trails.{undone}
use Rattle.dom_store.proofs.trail.undo.Given as goal

abbrev pub invariant-loop-entries : goal.invariant-loop-entries
invariant-loop-entries l = record {
  start : l.start ≤ length l.entries.items;
  part : l.entries.items ≡ take (length l.entries.items) l.fn.entries.items;
  room : vec_capacity l.entries ≡ vec_capacity l.fn.entries;
  count : length l.domains ≡ length l.fn.domains;
  inside : All (λ e. e.var < length l.domains) l.entries.items;
  back : undone (drop l.start l.entries.items) l.domains ≡ undone (drop l.start l.fn.entries.items) l.fn.domains;
}

abbrev pub decreases-loop-entries : goal.decreases-loop-entries
decreases-loop-entries l = length l.entries.items
