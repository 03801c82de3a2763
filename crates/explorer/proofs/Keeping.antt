-- The solution that is kept.
use Rattle.std.proofs.Common.{◌≡◌, Bool, true, false, cond, List, ℤ, Some, None, ap, sym, ◌∙◌}
use Rattle.explorer.specs.Offers.{Kept}

pub best_is : (k : Kept) (some : Bool) (values taken : List ℤ) (cost : ℤ) → cond some (Some (values, cost)) None ≡ k.best → some ≡ true → taken ≡ values → k.best ≡ Some (taken, cost)
best_is k true values taken cost is some same = sym is ∙ ap (λ (xs : List ℤ). Some (xs, cost)) (sym same)
best_is k false values taken cost is some same = absurd (cc)
