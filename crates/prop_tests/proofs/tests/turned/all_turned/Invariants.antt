use Rattle.std.proofs.Common.{◌≡◌, length}
use Rattle.std.specs.Prelude.{All}
use Rattle.fzn_model.specs.Limits.{ConInLimits, ConTruths, of_model}
use Rattle.prop_tests.proofs.tests.turned.all_turned.Given as goal

abbrev pub invariant-loop-con : goal.invariant-loop-con
invariant-loop-con l = record {
  count : length l.all ≡ l.con-index;
  kept : All (ConInLimits of_model (length l.domains)) l.all;
  truths : All (ConTruths l.domains) l.all;
}
