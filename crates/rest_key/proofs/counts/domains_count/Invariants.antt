use Rattle.std.proofs.Common.{◌≡◌, ◌+◌, ◌*◌, ◌≤◌, drop}
use Rattle.fzn_model.specs.Values.{largest}
use Rattle.rest_key.specs.Counts.{domains_count}
use Rattle.rest_key.proofs.counts.domains_count.Given as goal

abbrev pub invariant-loop-domain : goal.invariant-loop-domain
invariant-loop-domain l = record {
  so_far : l.count + domains_count (drop l.domain-index l.domains) ≡ domains_count l.domains;
  small : l.count ≤ l.domain-index * (2 * largest + 3);
}
