use Rattle.std.proofs.Common.{◌≡◌}
use Rattle.incumbent_board.specs.Passes.{SamePass}
use Rattle.search_tests.proofs.tests.boards.follow.Given as goal

abbrev pub invariant-loop-step : goal.invariant-loop-step
invariant-loop-step g l = (l.pass.board ≡ l.board) × SamePass l.initial.pass l.pass
