-- How many assignments there are, and how many of them meet a path: by listing them. They are this project's own.
use Rattle.std.specs.Prelude.{ℕ, ◌*◌, List, [], ◌∷◌, length, map, ℤ}
use Rattle.std.specs.List.{flat_map, count_by}
use Rattle.int_domain.specs.Values.{values_of}
use Rattle.fzn_model.specs.Parts.{Parts}
use Rattle.search_core.specs.declared.decision.Decision.{Decision}
use Rattle.search_core.specs.Paths.{meets}

-- all lists of values, one from each domain, in order
unfoldable pub assignments : List (List (ℤ × ℤ)) → List (List ℤ)
assignments [] = [] ∷ []
assignments (d ∷ ds) = flat_map (λ z. map (λ θ. z ∷ θ) (assignments ds)) (values_of d)

-- how many of the model's assignments meet the path
unfoldable pub size : Parts → List Decision → ℕ
size m p = count_by (meets p) (assignments m.doms)

-- the numbers of values of the domains, multiplied
abbrev pub product_of_sizes : List (List (ℤ × ℤ)) → ℕ
product_of_sizes [] = 1
product_of_sizes (d ∷ ds) = length (values_of d) * product_of_sizes ds
