use Rattle.std.proofs.Common.{rules, ◌++◌, ◌∷◌, [], List, ℤ, FitsSigned, append_assoc, ap, ◌∙◌, sym}
use Rattle.std.specs.Int.{w128}
use Rattle.std.proofs.lemmas.Int.{to_z-of_z}
use Rattle.run_log.specs.Texts.{number_text}
use Rattle.run_log.proofs.Buffering.{items_more, items_fault}
use Rattle.run_log.proofs.pieces.put_words.Goals as goal

pub returns-in_err-put_number-clause-text : goal.returns-in_err-put_number-clause-text
returns-in_err-put_number-clause-text g c =
    let fits : FitsSigned w128 c.in-Some.word = search rules in
    items_fault number_text _ _ _ c.loop-word.yielded c.next.new.self c.args.words c.in-Some.word _ _ c.from_residual.ensures.0
    (ap (λ (t : List ℤ). c.loop-word.yielded ++ t) (sym c.in-Some.ensures.steps) ∙ c.loop-word.invariant.all)
    c.loop-word.invariant.told
    (simp to_z-of_z at c.in_err-put_number.ensures.text)

pub loop-word-preserved : goal.loop-word-preserved
loop-word-preserved g c =
    let fits : FitsSigned w128 c.in-Some.word = search rules in
    record {
      told = items_more number_text _ _ _ c.loop-word.yielded c.in-Some.word c.loop-word.invariant.told (simp to_z-of_z at c.in_ok-put_number.ensures.text);
      all = append_assoc c.loop-word.yielded (c.in-Some.word ∷ []) c.next.new.self ∙ ap (λ (t : List ℤ). c.loop-word.yielded ++ t) (sym c.in-Some.ensures.steps) ∙ c.loop-word.invariant.all;
      faults = search rules;
    }
