-- What solving a model answers. It is this project's own.
use Rattle.std.specs.Prelude.{◌≡◌, ◌^◌, ◌<◌, ◌≤◌, List, ℤ, Option, Some, None, ⊤}
use Rattle.fzn_model.specs.declared.goal.Goal.{Goal}
use Rattle.fzn_model.specs.declared.goal.Goal.TheVariants as goal
use Rattle.fzn_model.specs.Parts.{Parts}
use Rattle.fzn_model.specs.Solutions.{cost}
use Rattle.dom_store.specs.Stores.{HasEmpty}
use Rattle.incumbent_board.specs.declared.answer.Answer.{Answer}
use Rattle.incumbent_board.specs.declared.answer.Answer.TheVariants as answer
use Rattle.incumbent_board.specs.declared.options.Options.{Options}
use Rattle.incumbent_board.specs.declared.outcome.Outcome.{Outcome}
use Rattle.incumbent_board.specs.declared.why.Why.{Why}
use Rattle.incumbent_board.specs.declared.why.Why.TheVariants as why
use Rattle.evictor.specs.Passes.{IsWays}
use Rattle.search_core.specs.Sizes.{product_of_sizes}
use Rattle.explorer.specs.declared.subtree.Explored.{Explored}
use Rattle.explorer.specs.declared.subtree.Explored.TheVariants as explored

-- the limits of options
pub record AreOptions (o : Options) : Type 0 where
  pub ways : IsWays o.ways
  pub nodes : o.nodes ≤ 2 ^ 60

-- an answer for want of credits; or for want of memory
abbrev pub LacksBudget : Answer → Type 0
LacksBudget (answer.Undecided values why.Budget) = ⊤
LacksBudget (answer.Undecided values why.Memory) = ⊥
LacksBudget a = ⊥

abbrev pub LacksMemory : Answer → Type 0
LacksMemory (answer.Undecided values why.Budget) = ⊥
LacksMemory (answer.Undecided values why.Memory) = ⊤
LacksMemory a = ⊥

-- The node budget was spent: the nodes are as many, and fewer than the assignments within the domains.
pub record IsSpent (m : Parts) (o : Options) (out : Outcome) : Type 0 where
  pub nodes : out.nodes ≡ o.nodes
  pub fewer : o.nodes < product_of_sizes m.doms

-- the answer rests on a whole search, but where a domain is empty
abbrev pub IsBySearch : Parts → Answer → Type 0
IsBySearch m answer.Unsat = HasEmpty m.doms → ⊥
IsBySearch m (answer.Sat θ) = ⊥
IsBySearch m (answer.Best θ) = ⊤
IsBySearch m (answer.Undecided θ why) = ⊥

-- an undecided answer has the solution that the meter knows of, if there is one
abbrev pub HasTheLeast : Parts → Option ℤ → Answer → Type 0
HasTheLeast m known answer.Unsat = ⊤
HasTheLeast m known (answer.Sat θ) = ⊤
HasTheLeast m known (answer.Best θ) = ⊤
HasTheLeast m known (answer.Undecided None why) = known ≡ None
HasTheLeast m known (answer.Undecided (Some θ) why) = known ≡ Some (cost m θ)

-- ---- what is said when a search has ended
abbrev pub undecided : Goal → Option (List ℤ) → Why → Answer
undecided goal.Satisfy None why = answer.Undecided None why
undecided goal.Satisfy (Some θ) why = answer.Sat θ
undecided (goal.Minimise t) values why = answer.Undecided values why
undecided (goal.Maximise t) values why = answer.Undecided values why

abbrev pub decided : Goal → Option (List ℤ) → Answer
decided g None = answer.Unsat
decided goal.Satisfy (Some θ) = answer.Sat θ
decided (goal.Minimise t) (Some θ) = answer.Best θ
decided (goal.Maximise t) (Some θ) = answer.Best θ

abbrev pub said : Goal → Explored → Option (List ℤ) → Answer
said g (explored.Settled b) values = decided g values
said g explored.Dry values = undecided g values why.Budget
said g (explored.Told w) values = undecided g values w
said g explored.NoMemory values = undecided g values why.Memory
