use Rattle.std.proofs.Common.{◌≡◌, ◌∙◌, length, ap, subst}
use Rattle.std.specs.Prelude.{IfSome}
use Rattle.fzn_model.specs.Parts.{Parts}
use Rattle.dom_store.specs.Trails.{TrailParts}
use Rattle.dom_store.specs.Views.{box_of}
use Rattle.dom_store.proofs.Levels.{new_keeps, new_view}
use Rattle.dom_store.proofs.store.Store.new.Goals as goal

pub invariant_of-result : goal.invariant_of-result
invariant_of-result c =
    new_keeps c.in-Some.domains c.in_ok-new.field-0 c.new-2.result.items c.in_ok-new-2.field-0 (length c.as_slice-variables.result.now) c.as_slice-variables.ensures.well_formed c.as_slice-variables.ensures.few
    c.in_ok-new.ensures.kept (ap (λ (t : TrailParts). t.marks) c.in_ok-new.ensures.first) c.in_ok-new-2.ensures (ap length c.as_slice-variables.ensures.value) c.new-2.ensures.items

pub returns-clause-some : goal.returns-clause-some
returns-clause-some c =
    let is : c.in-Some.domains ≡ box_of c.as_slice.result.now = subst (λ made. IfSome made (λ d. d ≡ box_of c.as_slice.result.now)) c.in-Some.is c.in_ok-domains.ensures.some in
    new_view c.in-Some.domains c.args.model.now.doms c.in_ok-new.field-0 c.new-2.result.items c.in_ok-new-2.field-0 (length c.as_slice-variables.result.now) (is ∙ ap box_of c.as_slice.ensures ∙ ap (λ (m : Parts). box_of m.doms) c.model.view_is)
    c.new-2.ensures.items c.in_ok-new-2.ensures (ap length c.as_slice-variables.ensures.value)
