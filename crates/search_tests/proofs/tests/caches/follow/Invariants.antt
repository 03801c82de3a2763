use Rattle.std.proofs.Common.{◌≡◌}
use Rattle.search_tests.proofs.tests.caches.follow.Given as goal

abbrev pub invariant-loop-step : goal.invariant-loop-step
invariant-loop-step g l = l.reader.pass.cache ≡ l.cache
