-- Dominance of residual problems: the first one is equal or less constrained, so it includes the second. It is this project's
-- own, after the published idea of subproblem dominance (Chu, Garcia de la Banda, Stuckey, 2010).
use Rattle.std.specs.Prelude.{◌≡◌, ℕ, ◌<◌, List, length, slice_index, slice_index_or, ℤ, ◌≤ℤ◌}
use Rattle.fzn_model.specs.declared.con.Con.{Con}
use Rattle.fzn_model.specs.Rests.{RestParts, SolvesRest, rest_cost}
use Rattle.rest_key.specs.Weaker.{SetWithin, Weaker}

-- some constraint has the label, and the given one is weaker than it
unfoldable pub IsCovered : List Con → List ℕ → ℕ → Con → Type 0
IsCovered cons labels label c = (j : ℕ) × (j < length cons) × (slice_index labels j ≡ label) × Weaker c (slice_index_or cons j c)

-- each of the first constraints is weaker than one of the second with the same label
unfoldable pub AreCovered : List Con → List ℕ → List Con → List ℕ → Type 0
AreCovered cons0 labels0 cons labels = (i : ℕ) (d : Con) → i < length cons0 → IsCovered cons labels (slice_index labels0 i) (slice_index_or cons0 i d)

-- each domain lies within that of the same variable in others
unfoldable pub DomainsWithin : List (List (ℤ × ℤ)) → List (List (ℤ × ℤ)) → Type 0
DomainsWithin ds ds0 = (k : ℕ) (d : List (ℤ × ℤ)) → k < length ds → SetWithin (slice_index_or ds k d) (slice_index_or ds0 k d)

-- The first residual problem dominates the second: as many variables, the same cost, no lesser domain, and each of its
-- constraints weaker than one with the same label.
pub record Dominates (r0 r : RestParts) : Type 0 where
  pub count : length r0.doms ≡ length r.doms
  pub cost : r0.cost ≡ r.cost
  pub domains : DomainsWithin r.doms r0.doms
  pub constraints : AreCovered r0.cons r0.labels r.cons r.labels

-- The first includes the second: each solution of the second is one of the first, and costs no more there.
pub record Includes (r0 r : RestParts) : Type 0 where
  pub solves : (θ : List ℤ) → SolvesRest r θ → SolvesRest r0 θ
  pub cheaper : (θ : List ℤ) → SolvesRest r θ → rest_cost r0 θ ≤ℤ rest_cost r θ
