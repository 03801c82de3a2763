-- In a rising list the place that a search ends at without finding is between lesser numbers and greater ones.
use Rattle.std.proofs.Common.{◌≡◌, ℕ, ◌<◌, ◌≤◌, List, length, get_or, arith}
use Rattle.std.specs.Prelude.{AllPairs}

pub rising_not_falling : (xs : List ℕ) → AllPairs (λ a b. a < b) xs → (i j : ℕ) → i ≤ j → j < length xs → get_or xs i 0 ≤ get_or xs j 0
rising_not_falling xs rising i j le below = grind (arith, rising i j 0)

pub not_found : (xs : List ℕ) (x i : ℕ) → ((k : ℕ) → k < i → get_or xs k 0 < x) → ((k : ℕ) → i ≤ k → k < length xs → x < get_or xs k 0) → (j : ℕ) → j < length xs → get_or xs j 0 ≡ x → ⊥
not_found xs x i before after j below is = grind (arith, before j, after j)
