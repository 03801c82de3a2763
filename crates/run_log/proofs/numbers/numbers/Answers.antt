use Rattle.std.proofs.Common.{◌≡◌, ◌∷◌, ◌++◌, [], Some, None, arith, sym, ◌∙◌, ap, subst, List, ℕ, ℤ}
use Rattle.std.specs.Int.{w128}
use Rattle.std.proofs.lemmas.Bool.Decides.{Decides-eqb, nat_tests}
use Rattle.std.proofs.lemmas.Int.{to_z-of_z}
use Rattle.std.proofs.lemmas.Slice.Eq.{strip_prefix_is}
use Rattle.run_log.proofs.Parts.{split_is}
use Rattle.run_log.proofs.NumberLists.{Reached, reach_one, reach_no_space, reach_no_number}
use Rattle.run_log.proofs.numbers.numbers.Goals as goal

pub returns-in_default : goal.returns-in_default
returns-in_default c = reach_no_space c.args.text.now c.loop-rest.found c.loop-rest.rest.now c.loop-rest.invariant (grind (arith, nat_tests)) (strip_prefix_is Decides-eqb c.loop-rest.rest.now (32 ∷ []) None c.in_default.ensures.cases)

pub returns-in_default-number : goal.returns-in_default-number
returns-in_default-number c =
    let whole = strip_prefix_is Decides-eqb c.loop-rest.rest.now (32 ∷ []) (Some c.in-Some.behind) c.in-Some.ensures.cases in
    let s = split_is 32 c.in-Some.behind.now c.split_at.result.0.now c.split_at.result.1.now _ c.split_at.ensures.front c.split_at.ensures.back c.count_before.ensures.splits in
    let r = subst (Reached c.args.text.now c.loop-rest.found) (whole ∙ ap (λ (t : List ℕ). 32 ∷ t) s.whole) c.loop-rest.invariant in
    reach_no_number c.args.text.now c.loop-rest.found c.split_at.result.0.now c.split_at.result.1.now r s.lacks s.follows c.in_default-number.ensures

pub loop-rest-preserved : goal.loop-rest-preserved
loop-rest-preserved c =
    let whole = strip_prefix_is Decides-eqb c.loop-rest.rest.now (32 ∷ []) (Some c.in-Some.behind) c.in-Some.ensures.cases in
    let s = split_is 32 c.in-Some.behind.now c.split_at.result.0.now c.split_at.result.1.now _ c.split_at.ensures.front c.split_at.ensures.back c.count_before.ensures.splits in
    let r = subst (Reached c.args.text.now c.loop-rest.found) (whole ∙ ap (λ (t : List ℕ). 32 ∷ t) s.whole) c.loop-rest.invariant in
    let n = c.in-Some-number.ensures in
    let pushed : c.push.new.self ≡ c.loop-rest.found ++ c.in-Some-number.number ∷ [] = c.in_ok-push.ensures.ok ∙ ap (λ (z : ℤ). c.loop-rest.found ++ z ∷ []) (to_z-of_z w128 c.in-Some-number.number n.fits) in
    subst (λ (xs : List ℤ). Reached c.args.text.now xs c.split_at.result.1.now) (sym pushed) (reach_one c.args.text.now c.loop-rest.found c.split_at.result.0.now c.split_at.result.1.now c.in-Some-number.number r s.follows n)
