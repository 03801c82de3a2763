use Rattle.std.proofs.Common.{◌≡◌, ◌∷◌, [], pos, replicate}
use Rattle.model_gen.proofs.knapsack.domains_for.Given as goal

abbrev pub invariant-loop : goal.invariant-loop
invariant-loop l = l.domains.items ≡ replicate l.counter ((pos 0, pos 1) ∷ [])
