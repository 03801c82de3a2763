-- A made model: a knapsack of 32 items, drawn from a number. All of it is this project's own; the generator is the linear
-- congruential one with Knuth's multiplier and increment for 64 bits, of which a draw keeps the 31 high bits.
use Rattle.std.specs.Prelude.{ℕ, zero, suc, ◌+◌, ◌*◌, ◌/◌, ◌%◌, ◌^◌, List, [], ◌∷◌, ◌++◌, map, replicate, sum, ℤ, pos, negsuc}
use Rattle.fzn_model.specs.Parts.{Parts}
use Rattle.fzn_model.specs.declared.term.Term.{Term}
use Rattle.fzn_model.specs.declared.term.Term.TheVariants as term
use Rattle.fzn_model.specs.declared.lin.Rel.TheVariants as rel
use Rattle.fzn_model.specs.declared.base.Base.TheVariants as base
use Rattle.fzn_model.specs.declared.con.Con.TheVariants as con
use Rattle.fzn_model.specs.declared.goal.Goal.TheVariants as goal

-- the state of the generator after a state
unfoldable pub next : ℕ → ℕ
next x = (x * 6364136223846793005 + 1442695040888963407) % 2 ^ 64

-- the first n draws from a state: each steps, and keeps the high bits of the new state
unfoldable pub draws : ℕ → ℕ → List ℕ
draws zero x = []
draws (suc n) x = next x / 2 ^ 33 ∷ draws n (next x)

-- weight and value of each item, from two draws each
unfoldable pub items : List ℕ → List (ℕ × ℕ)
items (d ∷ e ∷ ds) = (1 + d % 16, 1 + e % 24) ∷ items ds
items ds = []

-- numbers as coefficients of the variables from k on, one each
unfoldable pub terms_from : ℕ → List ℕ → List (ℤ × Term)
terms_from k [] = []
terms_from k (c ∷ cs) = (pos c, term.Var k) ∷ terms_from (k + 1) cs

-- The model of items with these weights and values: whether each is taken, variables 0 to 31, and what all taken ones are
-- worth, variable 32; the weights of those taken add up to at most a third of all weights; the most worth is looked for.
unfoldable pub knapsack : List ℕ → List ℕ → Parts
knapsack weights values = record {
  doms = replicate 32 ((pos 0, pos 1) ∷ []) ++ ((pos 0, pos (sum values)) ∷ []) ∷ [];
  cons = con.Base (base.Lin (record { rel = rel.Le; terms = terms_from 0 weights; r = pos (sum weights / 3) }))
      ∷ con.Base (base.Lin (record { rel = rel.Eq; terms = terms_from 0 values ++ (negsuc 0, term.Var 32) ∷ []; r = pos 0 }))
      ∷ [];
  goal = goal.Maximise (term.Var 32);
  outs = [];
  order = [];
}

-- the model made from a number
unfoldable pub made : ℕ → Parts
made start = let drawn = items (draws 64 start) in knapsack (map (λ i. i.0) drawn) (map (λ i. i.1) drawn)
