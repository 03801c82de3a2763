-- Where the amounts that are used at one moment have to fit: at the starts.
use Rattle.std.specs.Prelude.{List, ℤ, ◌≤ℤ◌, All}
use Rattle.fzn_model.specs.declared.cumulative.CumTask.{CumTask}
use Rattle.fzn_model.specs.declared.cumulative.Used.{Used}
use Rattle.fzn_model.specs.Meaning.{val, amount_at}

-- all fit at the starts of these amounts
unfoldable pub StartsFit : List Used → List Used → ℤ → Type 0
StartsFit all us b = All (λ u. amount_at all u.from ≤ℤ b) us

-- all fit at the starts of these tasks
unfoldable pub TaskStartsFit : List Used → List CumTask → List ℤ → ℤ → Type 0
TaskStartsFit all ks θ b = All (λ k. amount_at all (val k.s θ) ≤ℤ b) ks
