-- The solutions of a model, and what they cost.
use Rattle.std.specs.Prelude.{◌≡◌, ℕ, ◌<◌, List, [], length, slice_index_or, ℤ, pos, ◌+ℤ◌, neg_ℤ, ◌<ℤ◌, All}
use Rattle.fzn_model.specs.declared.term.Term.{Term}
use Rattle.fzn_model.specs.declared.term.Term.TheVariants as term
use Rattle.fzn_model.specs.declared.con.Con.{Con}
use Rattle.fzn_model.specs.declared.goal.Goal.{Goal}
use Rattle.fzn_model.specs.declared.goal.Goal.TheVariants as goal
use Rattle.fzn_model.specs.Sets.{IsIn, low_of, high_of}
use Rattle.fzn_model.specs.Meaning.{val, Holds}
use Rattle.fzn_model.specs.Parts.{Parts}

-- as many values as domains, each in its own
unfoldable pub InDomains : List (List (ℤ × ℤ)) → List ℤ → Type 0
InDomains ds θ = (length ds ≡ length θ) × ((k : ℕ) (d : List (ℤ × ℤ)) → k < length ds → IsIn (slice_index_or ds k d) (slice_index_or θ k (pos 0)))

-- each constraint holds
unfoldable pub MeetsAll : List Con → List ℤ → Type 0
MeetsAll cs θ = All (λ c. Holds c θ) cs

-- A solution: an assignment within the domains under which each constraint holds.
pub record Solves (m : Parts) (θ : List ℤ) : Type 0 where
  pub domains : InDomains m.doms θ
  pub constraints : MeetsAll m.cons θ

-- The cost of an assignment: the value minimised, the value maximised with its sign turned, or 0.
abbrev pub goal_cost : Goal → List ℤ → ℤ
goal_cost goal.Satisfy θ = pos 0
goal_cost (goal.Minimise t) θ = val t θ
goal_cost (goal.Maximise t) θ = neg_ℤ (val t θ)

abbrev pub cost : Parts → List ℤ → ℤ
cost m θ = goal_cost m.goal θ

-- the domain of a variable, or the one number of a constant, has the number
abbrev pub CanBe : List (List (ℤ × ℤ)) → Term → ℤ → Type 0
CanBe ds (term.Const c) z = z ≡ c
CanBe ds (term.Var n) z = IsIn (slice_index_or ds n []) z

-- the goal's domain allows the cost
abbrev pub AllowsCost : List (List (ℤ × ℤ)) → Goal → ℤ → Type 0
AllowsCost ds goal.Satisfy c = c ≡ pos 0
AllowsCost ds (goal.Minimise t) c = CanBe ds t c
AllowsCost ds (goal.Maximise t) c = CanBe ds t (neg_ℤ c)

-- one more than the greatest cost that the goal's domain allows
pub record IsTop (ds : List (List (ℤ × ℤ))) (g : Goal) (top : ℤ) : Type 0 where
  pub reached : (c : ℤ) × AllowsCost ds g c × (top ≡ c +ℤ pos 1)
  pub above : (c : ℤ) → AllowsCost ds g c → c <ℤ top

-- the least and the greatest number of a term, where no domain is empty
abbrev pub low_term : List (List (ℤ × ℤ)) → Term → ℤ
low_term ds (term.Const c) = c
low_term ds (term.Var n) = low_of (slice_index_or ds n [])

abbrev pub high_term : List (List (ℤ × ℤ)) → Term → ℤ
high_term ds (term.Const c) = c
high_term ds (term.Var n) = high_of (slice_index_or ds n [])

abbrev pub greatest_cost : List (List (ℤ × ℤ)) → Goal → ℤ
greatest_cost ds goal.Satisfy = pos 0
greatest_cost ds (goal.Minimise t) = high_term ds t
greatest_cost ds (goal.Maximise t) = neg_ℤ (low_term ds t)

abbrev pub top : Parts → ℤ
top m = greatest_cost m.doms m.goal +ℤ pos 1
