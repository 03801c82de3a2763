use Rattle.std.proofs.Common.{◌≡◌, ap, sym, ◌∙◌, subst}
use Rattle.std.specs.Prelude.{FitsSigned}
use Rattle.std.specs.Fmt.{signed_decimal}
use Rattle.std.specs.Int.{w128}
use Rattle.std.proofs.lemmas.Bool.Decides.{Decides-eqb}
use Rattle.std.proofs.lemmas.Int.{to_z-of_z}
use Rattle.std.proofs.lemmas.Slice.Eq.{slice_eq-Decides}
use Rattle.run_log.specs.Steps.{IsNumber}
use Rattle.run_log.proofs.NumberTexts.{is_text, reads}
use Rattle.run_log.proofs.numbers.number.Goals as goal

pub returns-in_default : goal.returns-in_default
returns-in_default c = λ z h. c.in_default.ensures.cases.0 (is_text c.args.word.now z h)

pub returns-in_default-parse : goal.returns-in_default-parse
returns-in_default-parse c = λ z h.
    let n : IsNumber c.in-Ok.text.now z = record { fits = h.fits; text = h.text ∙ sym c.in-Ok.ensures.cases.0 } in
    c.in_default-parse.not-Ok z (reads _ z c.parse.result n c.parse.ensures.value.0)

pub returns-else-eq : goal.returns-else-eq
returns-else-eq c = λ z h.
    let n : IsNumber c.in-Ok.text.now z = record { fits = h.fits; text = h.text ∙ sym c.in-Ok.ensures.cases.0 } in
    let ok = reads _ z c.parse.result n c.parse.ensures.value.0 in
    let v : c.in-Ok-parse.value ≡ z = cc in
    let fit : FitsSigned w128 c.in-Ok-parse.value = subst (FitsSigned w128) (sym v) h.fits in
    let same : c.format.result.now ≡ c.in-Ok.text.now = c.format.ensures.text ∙ ap signed_decimal (to_z-of_z w128 _ fit) ∙ ap signed_decimal v ∙ n.text in
    let t = (slice_eq-Decides Decides-eqb _ _ _ c.eq.ensures).1 same in
    cc
