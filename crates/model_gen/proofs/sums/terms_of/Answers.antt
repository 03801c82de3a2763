use Rattle.std.proofs.Common.{rules, arith, ap, ◌≡◌, ◌∙◌, length, take, ◌++◌, ◌∷◌, [], ℤ, w64, FitsSigned}
use Rattle.std.proofs.lemmas.Int.{to_z-of_z}
use Rattle.fzn_model.specs.declared.term.Term.TheVariants as term
use Rattle.std.proofs.lemmas.List.{length-take}
use Rattle.model_gen.proofs.Terms.{terms_length, terms_step}
use Rattle.model_gen.proofs.sums.terms_of.Goals as goal

pub overflow_cast-var : goal.overflow_cast-var
overflow_cast-var c =
    let count : length c.loop-number.terms.items ≡ length (take c.loop-number.number-index c.args.numbers.now) = ap length c.loop-number.invariant ∙ terms_length 0 _ in
    omega (arith, count, length-take c.loop-number.number-index c.args.numbers.now)

pub loop-number-preserved : goal.loop-number-preserved
loop-number-preserved c =
    let count : length c.loop-number.terms.items ≡ length (take c.loop-number.number-index c.args.numbers.now) = ap length c.loop-number.invariant ∙ terms_length 0 _ in
    let fits : FitsSigned w64 c.from.result = search rules in
    terms_step c.args.numbers.now c.loop-number.number-index c.len-var.result c.loop-number.terms.items _ (search rules) (omega (arith, count, length-take c.loop-number.number-index c.args.numbers.now)) c.loop-number.invariant (c.in_ok-push.ensures.items ∙ ap (λ (z : ℤ). c.loop-number.terms.items ++ (z, term.Var c.len-var.result) ∷ []) (to_z-of_z w64 c.from.result fits ∙ c.from.ensures))
