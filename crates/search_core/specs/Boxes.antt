-- What a path leaves of a model's domains. It is this project's own.
use Rattle.std.specs.Prelude.{ℕ, Bool, ◌==◌, ◌||◌, not, ◌<◌, List, length, map, filter, ℤ, All}
use Rattle.std.specs.List.{list_all, enumerate_from}
use Rattle.int_domain.specs.Values.{values_of}
use Rattle.fzn_model.specs.Parts.{Parts}
use Rattle.search_core.specs.declared.decision.Decision.{Decision}
use Rattle.search_core.specs.Paths.{allows}

-- whether each decision on the variable allows the value
abbrev pub can_have : List Decision → ℕ → ℤ → Bool
can_have p var z = list_all (λ d. not (d.var == var) || allows d z) p

-- the box that a path leaves: for each variable the values of its domain that the decisions on it allow
unfoldable pub path_box : Parts → List Decision → List (List ℤ)
path_box m p = map (λ (x : ℕ × List (ℤ × ℤ)). filter (can_have p x.0) (values_of x.1)) (enumerate_from 0 m.doms)

-- each decision is on a variable of the model
unfoldable pub IsOver : Parts → List Decision → Type 0
IsOver m p = All (λ d. d.var < length m.doms) p
