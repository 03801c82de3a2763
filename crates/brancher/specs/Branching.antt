-- Which variable of a box a search branches on, and where its domain is cut. The ways to choose are those of search
-- annotations (MiniZinc Handbook: input_order, first_fail, smallest, largest; indomain_min, indomain_max,
-- indomain_split). How ties are broken, what is done where no annotation has an open variable, and that wide domains
-- are split are this project's own.
use Rattle.std.specs.Prelude.{◌≡◌, ℕ, ◌<◌, ◌⊎◌, Bool, true, false, if◌then◌else◌, List, ◌∷◌, ◌++◌, length, slice_index_or, ℤ, pos, neg_ℤ, ◌+ℤ◌, ◌-ℤ◌, ◌*ℤ◌, ◌≤ℤ◌, ◌<ℤ◌, int_le, All}
use Rattle.fzn_model.specs.declared.term.Term.{Term}
use Rattle.fzn_model.specs.declared.term.Term.TheVariants as term
use Rattle.fzn_model.specs.declared.goal.Goal.{Goal}
use Rattle.fzn_model.specs.declared.goal.Goal.TheVariants as goal
use Rattle.fzn_model.specs.declared.pick.Pick.{Pick}
use Rattle.fzn_model.specs.declared.pick.VarBy.{VarBy}
use Rattle.fzn_model.specs.declared.pick.VarBy.TheVariants as choice
use Rattle.fzn_model.specs.declared.pick.ValAt.{ValAt}
use Rattle.fzn_model.specs.declared.pick.ValAt.TheVariants as rule
use Rattle.fzn_model.specs.Parts.{Parts}
use Rattle.fzn_model.specs.Limits.{IsValue}
use Rattle.fzn_model.specs.Boxes.{InBox, domain_at, low_value, high_value}
use Rattle.fzn_model.specs.Bounds.{term_low, term_high, IsFixed}
use Rattle.brancher.specs.declared.cut.Cut.{Cut}

-- the term has several values
abbrev pub IsOpen : List (List ℤ) → Term → Type 0
IsOpen box t = term_low box t <ℤ term_high box t

-- every variable has one value
abbrev pub AllFixed : List (List ℤ) → Type 0
AllFixed box = (k : ℕ) → k < length box → IsFixed box (term.Var k)

-- every term of a list has one value
unfoldable pub AreFixed : List (List ℤ) → List Term → Type 0
AreFixed box ts = All (IsFixed box) ts

-- how many values a term has
abbrev pub value_count : List (List ℤ) → Term → ℕ
value_count box (term.Const z) = 1
value_count box (term.Var k) = length (domain_at box k)

-- How a term ranks, the least first: all alike, where the order of the list decides; by the number of its values; by its
-- least value; by its greatest value, the greatest first.
unfoldable pub rank : List (List ℤ) → VarBy → Term → ℤ
rank box choice.InputOrder t = pos 0
rank box choice.FirstFail t = pos (value_count box t)
rank box choice.Smallest t = term_low box t
rank box choice.Largest t = neg_ℤ (term_high box t)

-- a term that is no choice, beside one of this rank: it is fixed, or ranks behind it
unfoldable pub IsBehind : List (List ℤ) → VarBy → ℤ → Term → Type 0
IsBehind box by r t = IsFixed box t ⊎ (r <ℤ rank box by t)

-- it is fixed, or ranks not before it
unfoldable pub IsNotBefore : List (List ℤ) → VarBy → ℤ → Term → Type 0
IsNotBefore box by r t = IsFixed box t ⊎ (r ≤ℤ rank box by t)

-- The open variable of a list that ranks first; of several that rank alike, the first in the list.
pub record IsFirstBest (box : List (List ℤ)) (by : VarBy) (ts : List Term) (k : ℕ) : Type 0 where
  pub before : List Term
  pub after : List Term
  pub «is» : ts ≡ before ++ term.Var k ∷ after
  pub has_values : IsOpen box (term.Var k)
  pub earlier : All (IsBehind box by (rank box by (term.Var k))) before
  pub later : All (IsNotBefore box by (rank box by (term.Var k))) after

-- the hull of the variable has more than 1,024 numbers
abbrev pub is_wide : List (List ℤ) → ℕ → Bool
is_wide box k = int_le (pos 1024) (high_value (domain_at box k) -ℤ low_value (domain_at box k))

-- a wide domain is split, whatever the annotation says
abbrev pub rule_for : List (List ℤ) → ℕ → ValAt → ValAt
rule_for box k at = if is_wide box k then rule.Split else at

-- the greatest number that is at most half of the sum
unfoldable pub IsMiddle : ℤ → ℤ → ℤ → Type 0
IsMiddle low high at = ((pos 2 *ℤ at) ≤ℤ (low +ℤ high)) × ((low +ℤ high) <ℤ (pos 2 *ℤ at +ℤ pos 2))

-- Where the domain of a variable is cut: at its least value, one below its greatest, or in the middle.
abbrev pub IsPlace : List (List ℤ) → ℕ → ValAt → ℤ → Type 0
IsPlace box k rule.Min at = at ≡ low_value (domain_at box k)
IsPlace box k rule.Max at = at ≡ high_value (domain_at box k) -ℤ pos 1
IsPlace box k rule.Split at = IsMiddle (low_value (domain_at box k)) (high_value (domain_at box k)) at

-- the side above comes first where the greatest values are wanted
abbrev pub is_up : ValAt → Bool
is_up rule.Min = false
is_up rule.Max = true
is_up rule.Split = false

-- the variable is cut by the rule
pub record IsCutOf (box : List (List ℤ)) (k : ℕ) (by : ValAt) (cut : Cut) : Type 0 where
  pub variable : cut.var ≡ k
  pub place : IsPlace box k by cut.at
  pub side : cut.up_first ≡ is_up by

-- no annotation has an open variable
unfoldable pub NonePicked : List (List ℤ) → List Pick → Type 0
NonePicked box picks = All (λ p. AreFixed box p.vars) picks

-- The first annotation that has an open variable decides.
pub record IsPicked (box : List (List ℤ)) (picks : List Pick) (cut : Cut) : Type 0 where
  pub before : List Pick
  pub pick : Pick
  pub after : List Pick
  pub «is» : picks ≡ before ++ pick ∷ after
  pub earlier : NonePicked box before
  pub best : IsFirstBest box pick.by pick.vars cut.var
  pub cuts : IsCutOf box cut.var (rule_for box cut.var pick.at) cut

-- the number is that of the goal's variable
abbrev pub IsGoal : Goal → ℕ → Type 0
IsGoal goal.Satisfy k = ⊥
IsGoal (goal.Minimise t) k = t ≡ term.Var k
IsGoal (goal.Maximise t) k = t ≡ term.Var k

-- Else the first open variable by number other than the goal's, at its least value.
pub record IsFirstOther (box : List (List ℤ)) (g : Goal) (cut : Cut) : Type 0 where
  pub within : cut.var < length box
  pub has_values : IsOpen box (term.Var cut.var)
  pub other : IsGoal g cut.var → ⊥
  pub earlier : (k : ℕ) → k < cut.var → (IsGoal g k → ⊥) → IsFixed box (term.Var k)
  pub cuts : IsCutOf box cut.var (rule_for box cut.var rule.Min) cut

-- the goal's least cost first
abbrev pub goal_rule : Goal → ValAt
goal_rule goal.Satisfy = rule.Min
goal_rule (goal.Minimise t) = rule.Min
goal_rule (goal.Maximise t) = rule.Max

-- Last the goal's variable, however wide.
pub record IsGoalLast (box : List (List ℤ)) (g : Goal) (cut : Cut) : Type 0 where
  pub within : cut.var < length box
  pub has_values : IsOpen box (term.Var cut.var)
  pub goals : IsGoal g cut.var
  pub others : (k : ℕ) → k < length box → (IsGoal g k → ⊥) → IsFixed box (term.Var k)
  pub cuts : IsCutOf box cut.var (goal_rule g) cut

-- The cut at which a search branches.
abbrev pub IsChosen : List (List ℤ) → Parts → Cut → Type 0
IsChosen box m cut = IsPicked box m.order cut ⊎ (NonePicked box m.order × (IsFirstOther box m.goal cut ⊎ IsGoalLast box m.goal cut))

-- Both sides of a cut have an assignment of the box.
pub record HasSides (box : List (List ℤ)) (cut : Cut) : Type 0 where
  pub within : cut.var < length box
  pub value : IsValue cut.at
  pub below : (θ : List ℤ) × InBox box θ × (slice_index_or θ cut.var (pos 0) ≤ℤ cut.at)
  pub above : (θ : List ℤ) × InBox box θ × (cut.at <ℤ slice_index_or θ cut.var (pos 0))
