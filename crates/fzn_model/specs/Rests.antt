-- Residual problems: a small model whose cost is a linear form of its variables. Each constraint has a label, its place in
-- the model that the problem is left of; labels mean nothing for its solutions. It is this project's own, after the
-- published idea of subproblem equivalence (Chu, Garcia de la Banda, Stuckey, 2010).
use Rattle.std.specs.Prelude.{◌≡◌, ℕ, ◌<◌, ◌≤◌, List, [], ◌∷◌, length, slice_index_or, ℤ, pos, ◌+ℤ◌, ◌-ℤ◌, ◌*ℤ◌, ◌<ℤ◌, ◌≤ℤ◌, All, AllPairs, Contains}
use Rattle.fzn_model.specs.declared.con.Con.{Con}
use Rattle.fzn_model.specs.Sets.{IsIn}
use Rattle.fzn_model.specs.Parts.{Parts}
use Rattle.fzn_model.specs.Boxes.{domain_at}
use Rattle.fzn_model.specs.Limits.{IsValue, DomainInLimits, ConInLimits, ConTruths, of_call}
use Rattle.fzn_model.specs.Solutions.{InDomains, MeetsAll, Solves, cost}

pub record RestParts : Type 0 where
  pub doms : List (List (ℤ × ℤ))
  pub cost : List (ℤ × ℕ)
  pub cons : List Con
  pub labels : List ℕ

-- the cost of an assignment: the sum of coefficient times value
abbrev pub cost_sum : List (ℤ × ℕ) → List ℤ → ℤ
cost_sum [] θ = pos 0
cost_sum (p ∷ ps) θ = (p.0 *ℤ slice_index_or θ p.1 (pos 0)) +ℤ cost_sum ps θ

abbrev pub rest_cost : RestParts → List ℤ → ℤ
rest_cost r θ = cost_sum r.cost θ

-- A solution: an assignment within the domains under which each constraint holds.
pub record SolvesRest (r : RestParts) (θ : List ℤ) : Type 0 where
  pub domains : InDomains r.doms θ
  pub constraints : MeetsAll r.cons θ

-- a cost over n variables
pub record CostInLimits (n : ℕ) (ps : List (ℤ × ℕ)) : Type 0 where
  pub count : length ps ≤ 2000000
  pub factors : All (λ p. IsValue p.0) ps
  pub variables : All (λ p. p.1 < n) ps

-- The limits of a residual problem: those of a model, but that numbers of 128 bits have room, and lists of used amounts and
-- of taken values too. One label for each constraint, rising.
pub record IsRest (r : RestParts) : Type 0 where
  pub variables : length r.doms ≤ 100000
  pub domains : All DomainInLimits r.doms
  pub constraints : length r.cons ≤ 400000
  pub cons : All (ConInLimits of_call (length r.doms)) r.cons
  pub truths : All (ConTruths r.doms) r.cons
  pub cost : CostInLimits (length r.doms) r.cost
  pub labelled : length r.labels ≡ length r.cons
  pub rising : AllPairs (λ a b. a < b) r.labels

-- An entry, a residual problem with a bound, is true where no solution of the problem costs less than the bound. It names
-- no other model, so it is a fact of the entry alone.
unfoldable pub IsTrueEntry : RestParts → ℤ → Type 0
IsTrueEntry r bound = (ρ : List ℤ) → SolvesRest r ρ → bound ≤ℤ rest_cost r ρ

-- A residual problem is a rest of those solutions of a model that have P, below a bound and with an offset: each of them
-- that costs less than the bound has a solution of the problem, and each solution of the problem that costs less than the
-- bound less the offset has one of them, and their costs differ by the offset. P says that they lie in a box, or that they
-- meet a path.
pub record IsRestOf (P : List ℤ → Type 0) (m : Parts) (below : ℤ) (r : RestParts) (offset : ℤ) : Type 0 where
  pub down : (θ : List ℤ) → Solves m θ → P θ → cost m θ <ℤ below → (ρ : List ℤ) × SolvesRest r ρ × (cost m θ ≡ (rest_cost r ρ +ℤ offset))
  pub up : (ρ : List ℤ) → SolvesRest r ρ → rest_cost r ρ <ℤ (below -ℤ offset) → (θ : List ℤ) × Solves m θ × P θ × (cost m θ ≡ (rest_cost r ρ +ℤ offset))

-- each domain of a box lies within that of the model
pub record LiesWithin (box : List (List ℤ)) (m : Parts) : Type 0 where
  pub count : length box ≡ length m.doms
  pub within : (k : ℕ) (z : ℤ) → Contains (domain_at box k) z → IsIn (slice_index_or m.doms k []) z
