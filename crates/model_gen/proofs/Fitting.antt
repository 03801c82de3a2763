-- The model keeps the limits of models.
use Rattle.std.proofs.Common.{◌≡◌, ℕ, ◌*◌, ◌/◌, ◌≤◌, List, [], ◌∷◌, ◌++◌, length, replicate, sum, arith, ℤ, pos, negsuc}
use Rattle.std.specs.Prelude.{All}
use Rattle.std.proofs.lemmas.List.Elements.{All-nil, All-cons, All-push, All-replicate}
use Rattle.std.proofs.lemmas.List.Sums.{sum_by-le}
use Rattle.std.proofs.lemmas.List.{length_push}
use Rattle.fzn_model.specs.declared.term.Term.{Term}
use Rattle.fzn_model.specs.declared.term.Term.TheVariants as term
use Rattle.fzn_model.specs.declared.lin.Rel.TheVariants as rel
use Rattle.fzn_model.specs.declared.base.Base.TheVariants as base
use Rattle.fzn_model.specs.declared.con.Con.{Con}
use Rattle.fzn_model.specs.declared.con.Con.TheVariants as con
use Rattle.fzn_model.specs.declared.goal.Goal.TheVariants as goal
use Rattle.fzn_model.specs.declared.out.Out.{Out}
use Rattle.fzn_model.specs.declared.pick.Pick.{Pick}
use Rattle.fzn_model.specs.Limits.{IsValue, TermIn, SumInLimits, ConInLimits, ConTruths, DomainInLimits, OutInLimits, PickInLimits, IsModel, of_model}
use Rattle.model_gen.specs.Made.{terms_from, knapsack}
use Rattle.model_gen.proofs.Terms.{terms_length, factors_in, variables_in}

-- the two constraints
abbrev pub weight_limit : List ℕ → Con
weight_limit weights = con.Base (base.Lin (record { rel = rel.Le; terms = terms_from 0 weights; r = pos (sum weights / 3) }))

abbrev pub worth_of_taken : List ℕ → Con
worth_of_taken values = con.Base (base.Lin (record { rel = rel.Eq; terms = terms_from 0 values ++ (negsuc 0, term.Var 32) ∷ []; r = pos 0 }))

-- what at most 24 each add up to
pub sum_small : (numbers : List ℕ) → length numbers ≡ 32 → All (λ n. n ≤ 24) numbers → sum numbers ≤ 768
sum_small numbers count small =
    let most : sum numbers ≤ length numbers * 24 = sum_by-le (λ (n : ℕ). n) 24 numbers small in
    omega (arith, most)

domain_in : (high : ℕ) → high ≤ 768 → DomainInLimits ((pos 0, pos high) ∷ [])
domain_in high small = record { values = All-cons (λ (run : ℤ × ℤ). IsValue run.0 × IsValue run.1) (pos 0, pos high) [] (omega arith, omega arith) (All-nil (λ (run : ℤ × ℤ). IsValue run.0 × IsValue run.1)); narrow = λ long. absurd (omega arith) }

terms_in : (numbers : List ℕ) → length numbers ≡ 32 → All (λ n. n ≤ 24) numbers → SumInLimits 33 (terms_from 0 numbers)
terms_in numbers count small = record {
  count = omega (arith, terms_length 0 numbers);
  factors = factors_in 0 numbers small;
  terms = variables_in 0 numbers 33 (omega arith);
}

taken_in : (numbers : List ℕ) → length numbers ≡ 32 → All (λ n. n ≤ 24) numbers → SumInLimits 33 (terms_from 0 numbers ++ (negsuc 0, term.Var 32) ∷ [])
taken_in numbers count small = record {
  count = omega (arith, terms_length 0 numbers, length_push (terms_from 0 numbers) (negsuc 0, term.Var 32));
  factors = All-push (λ (t : ℤ × Term). IsValue t.0) _ _ (factors_in 0 numbers small) (omega arith);
  terms = All-push (λ (t : ℤ × Term). TermIn 33 t.1) _ _ (variables_in 0 numbers 33 (omega arith)) (omega arith);
}

limit_in : (weights : List ℕ) → length weights ≡ 32 → All (λ n. n ≤ 24) weights → ConInLimits of_model 33 (weight_limit weights)
limit_in weights count small =
    let most : sum weights ≤ 768 = sum_small weights count small in
    record { sum = terms_in weights count small; constant = omega arith }

worth_in : (values : List ℕ) → length values ≡ 32 → All (λ n. n ≤ 24) values → ConInLimits of_model 33 (worth_of_taken values)
worth_in values count small = record { sum = taken_in values count small; constant = omega arith }

of_both : (P : Con → Type 0) (first second : Con) → P first → P second → All P (first ∷ second ∷ [])
of_both P first second one other = All-cons P first (second ∷ []) one (All-cons P second [] other (All-nil P))

is_model : (weights values : List ℕ) → length weights ≡ 32 → All (λ n. n ≤ 24) weights → length values ≡ 32 → All (λ n. n ≤ 24) values → IsModel (knapsack weights values)
unfolding knapsack
is_model weights values weights_count weights_small values_count values_small = record {
  variables = omega arith;
  domains = All-push DomainInLimits (replicate 32 ((pos 0, pos 1) ∷ [])) ((pos 0, pos (sum values)) ∷ []) (All-replicate DomainInLimits 32 ((pos 0, pos 1) ∷ []) (domain_in 1 (omega arith))) (domain_in (sum values) (sum_small values values_count values_small));
  constraints = omega arith;
  cons = of_both (ConInLimits of_model 33) (weight_limit weights) (worth_of_taken values) (limit_in weights weights_count weights_small) (worth_in values values_count values_small);
  truths = of_both (ConTruths (knapsack weights values).doms) (weight_limit weights) (worth_of_taken values) tt tt;
  goal = omega arith;
  outs = All-nil (OutInLimits 33);
  order = All-nil (PickInLimits 33);
}

-- the model of parts that are equal to those of the knapsack
pub model_fits : (weights values : List ℕ) (worth : ℕ) (doms : List (List (ℤ × ℤ))) (limit taken : Con) (cons : List Con) (outs : List Out) (order : List Pick) → worth ≡ sum values → doms ≡ replicate 32 ((pos 0, pos 1) ∷ []) ++ ((pos 0, pos worth) ∷ []) ∷ [] → limit ≡ weight_limit weights → taken ≡ worth_of_taken values → cons ≡ limit ∷ taken ∷ [] → outs ≡ [] → order ≡ [] → length weights ≡ 32 → All (λ n. n ≤ 24) weights → length values ≡ 32 → All (λ n. n ≤ 24) values → IsModel (record { doms = doms; cons = cons; goal = goal.Maximise (term.Var 32); outs = outs; order = order })
unfolding knapsack
model_fits weights values worth doms limit taken cons outs order worth_is doms_are limit_is taken_is cons_are outs_are order_is weights_count weights_small values_count values_small =
    rw (doms_are, worth_is, cons_are, limit_is, taken_is, outs_are, order_is) (is_model weights values weights_count weights_small values_count values_small)
