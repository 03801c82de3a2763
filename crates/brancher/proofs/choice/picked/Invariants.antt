use Rattle.std.proofs.Common.{take}
use Rattle.brancher.specs.Branching.{NonePicked}
use Rattle.brancher.proofs.choice.picked.Given as goal

abbrev pub invariant-loop-pick : goal.invariant-loop-pick
invariant-loop-pick g l = NonePicked (g.V.BoxView.shape l.view) (take l.pick-index l.picks)
