-- What one walk over a sum tells.
use Rattle.std.specs.Prelude.{◌≡◌, List, length, ℤ, ◌+ℤ◌, ◌≤ℤ◌}
use Rattle.fzn_model.specs.declared.term.Term.{Term}
use Rattle.fzn_model.specs.Bounds.{scaled_low, scaled_high, sum_low, sum_high}
use Rattle.dom_store.specs.Steps.{EachTo}
use Rattle.dom_store.specs.declared.sums.Reach.{Reach}

-- a coefficient times its term rises from its least by at most so much
unfoldable pub RisesWithin : ℤ → ℤ × Term → List (List ℤ) → Type 0
RisesWithin slack t box = scaled_high box t ≤ℤ (slack +ℤ scaled_low box t)

-- the least of the sum, its greatest, and a number that no term rises by more than
pub record IsReach (box : List (List ℤ)) (ts : List (ℤ × Term)) (reach : Reach) : Type 0 where
  pub least : reach.low ≡ sum_low box ts
  pub most : reach.high ≡ sum_high box ts
  pub rises : EachTo (RisesWithin reach.rise) ts (length ts) box
