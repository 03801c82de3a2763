use Rattle.std.proofs.Common.{◌≡◌, ◌∙◌, [], get_or, ap}
use Rattle.std.proofs.lemmas.List.{get_or_default}
use Rattle.fzn_model.specs.Boxes.{domain_at}
use Rattle.dom_store.proofs.Undoing.{saves_one}
use Rattle.dom_store.proofs.store.save.Goals as goal

pub returns-clause-saves : goal.returns-clause-saves
returns-clause-saves c =
    let place : c.index-as_slice-var.result ≡ domain_at c.args.domains.now c.args.var =
    c.index-as_slice-var.is ∙ ap (λ b. get_or b c.args.var c.index-as_slice-var.result) c.as_slice.ensures.value ∙ get_or_default c.args.domains.now c.args.var c.index-as_slice-var.result [] c.requires.inside in
    saves_one c.args.domains.now c.args.trail.now c.save.new.self (record { var = c.args.var; domain = c.copy.result }) (c.copy.ensures ∙ place) c.save.ensures.saved
