use Rattle.std.proofs.Common.{◌≡◌, ◌<◌, ◌+◌, length, List, [], cond, false, ℤ}
use Rattle.explorer.specs.Benches.{IsAble}
use Rattle.explorer.specs.Ending.{HasLevels}
use Rattle.explorer.proofs.edge.leave.Given as goal

abbrev pub invariant-levels : goal.invariant-levels
invariant-levels l = record {
  few : length l.bench.frames < length l.bench.store.saved;
  last : l.left ≡ false → l.bench.frames ≡ [];
  levels : (area : List (List ℤ)) → HasLevels l.fn.bench area → HasLevels l.bench area;
  plan : l.bench.engine ≡ l.fn.bench.engine;
  able : IsAble l.bench;
}

abbrev pub decreases-levels : goal.decreases-levels
decreases-levels l = length l.bench.frames + cond l.left 1 0
