-- The rest of a box: the residual problem over the variables that are open, and what its solutions are. It is this
-- project's own.
use Rattle.std.specs.Prelude.{◌≡◌, ℕ, zero, suc, ◌⊎◌, if◌then◌else◌, List, [], ◌∷◌, ◌++◌, map, length, slice_index_or, ℤ, pos, negsuc, neg_ℤ, ◌+ℤ◌, ◌-ℤ◌, ◌<ℤ◌}
use Rattle.fzn_model.specs.declared.term.Term.{Term}
use Rattle.fzn_model.specs.declared.term.Term.TheVariants as term
use Rattle.fzn_model.specs.declared.con.Con.{Con}
use Rattle.fzn_model.specs.declared.goal.Goal.{Goal}
use Rattle.fzn_model.specs.declared.goal.Goal.TheVariants as goal
use Rattle.fzn_model.specs.Parts.{Parts}
use Rattle.fzn_model.specs.Boxes.{domain_at, InBox}
use Rattle.fzn_model.specs.Bounds.{is_open}
use Rattle.fzn_model.specs.Grouping.{runs_of}
use Rattle.fzn_model.specs.Solutions.{Solves, cost}
use Rattle.fzn_model.specs.Rests.{RestParts, SolvesRest, rest_cost}
use Rattle.rest_basic.specs.Forms.{substituted, plain_form}
use Rattle.rest_basic.specs.Equivalence.{IsPlain}
use Rattle.rest_basic.specs.declared.reduced.Reduced.{Reduced}
use Rattle.rest_basic.specs.declared.reduced.Reduced.TheVariants as reduced
use Rattle.rest_forms.specs.Forms.{IsGlobalForm}
use Rattle.rest_global.specs.Renamed.{con_by}

-- ---- variables
-- the open variables with a number below one, in order
abbrev pub opens : List (List ℤ) → ℕ → List ℕ
opens box zero = []
opens box (suc k) = if is_open box (term.Var k) then opens box k ++ k ∷ [] else opens box k

-- the number of an open variable among them
unfoldable pub place : List (List ℤ) → ℕ → ℕ
place box k = length (opens box k)

-- a term of the rest: a fixed variable is its value, an open one has its number among them
abbrev pub numbered : List (List ℤ) → Term → Term
numbered box (term.Const z) = term.Const z
numbered box (term.Var k) = term.Var (place box k)

unfoldable pub rest_term : List (List ℤ) → Term → Term
rest_term box t = numbered box (substituted box t)

-- the variables of the rest, in order
unfoldable pub rest_variables : List (List ℤ) → List ℕ
rest_variables box = opens box (length box)

-- their values
unfoldable pub rest_values : List (List ℤ) → List ℤ → List ℤ
rest_values box θ = map (λ k. slice_index_or θ k (pos 0)) (rest_variables box)

-- ---- constraints
-- the form of a constraint of any kind
unfoldable pub IsForm : List (List ℤ) → Con → Reduced → Type 0
IsForm box c form = (IsPlain c × (form ≡ plain_form box c)) ⊎ IsGlobalForm box c form

-- the first of the constraints that are left, and its label, with the others; none where it holds
abbrev pub IsFirst : List (List ℤ) → Reduced → ℕ → List Con → List ℕ → List Con → List ℕ → Type 0
IsFirst box reduced.Holds n ds labels others other_labels = (ds ≡ others) × (labels ≡ other_labels)
IsFirst box (reduced.Is d) n ds labels others other_labels = (ds ≡ con_by (rest_term box) d ∷ others) × (labels ≡ n ∷ other_labels)

-- the forms of those that don't hold, over the variables of the rest, labelled by their places from a number on
abbrev pub AreLeft : List (List ℤ) → ℕ → List Con → List Con → List ℕ → Type 0
AreLeft box n [] ds labels = (ds ≡ []) × (labels ≡ [])
AreLeft box n (c ∷ cs) ds labels =
    (form : Reduced) × (others : List Con) × (other_labels : List ℕ) × IsForm box c form × IsFirst box form n ds labels others other_labels × AreLeft box (suc n) cs others other_labels

-- ---- the cost
-- a coefficient times a term: the open part, and the constant part
abbrev pub open_part : ℤ → Term → List (ℤ × ℕ)
open_part factor (term.Const z) = []
open_part factor (term.Var k) = (factor, k) ∷ []

abbrev pub constant_part : Term → ℤ
constant_part (term.Const z) = z
constant_part (term.Var k) = pos 0

abbrev pub cost_left : List (List ℤ) → Goal → List (ℤ × ℕ)
cost_left box goal.Satisfy = []
cost_left box (goal.Minimise t) = open_part (pos 1) (rest_term box t)
cost_left box (goal.Maximise t) = open_part (negsuc 0) (rest_term box t)

abbrev pub cost_offset : List (List ℤ) → Goal → ℤ
cost_offset box goal.Satisfy = pos 0
cost_offset box (goal.Minimise t) = constant_part (rest_term box t)
cost_offset box (goal.Maximise t) = neg_ℤ (constant_part (rest_term box t))

-- ---- the rest of a box below a bound, with its offset
pub record IsRestOfBox (box : List (List ℤ)) (m : Parts) (below : ℤ) (r : RestParts) (offset : ℤ) : Type 0 where
  pub domains : r.doms ≡ map (λ k. runs_of (domain_at box k)) (rest_variables box)
  pub constraints : AreLeft box 0 m.cons r.cons r.labels
  pub cost : r.cost ≡ cost_left box m.goal
  pub constant : offset ≡ cost_offset box m.goal

-- The solutions of the box that cost less than the bound are, on the variables of the rest, exactly the solutions of the
-- rest that cost less than the bound less the offset, and their costs differ by it.
pub record KeepsSolutions (box : List (List ℤ)) (m : Parts) (below : ℤ) (r : RestParts) (offset : ℤ) : Type 0 where
  pub down : (θ : List ℤ) → InBox box θ → Solves m θ → cost m θ <ℤ below → SolvesRest r (rest_values box θ) × (cost m θ ≡ (rest_cost r (rest_values box θ) +ℤ offset))
  pub up : (ρ : List ℤ) → SolvesRest r ρ → rest_cost r ρ <ℤ (below -ℤ offset) → (θ : List ℤ) × InBox box θ × Solves m θ × (rest_values box θ ≡ ρ) × (cost m θ ≡ (rest_cost r ρ +ℤ offset))
