use Rattle.std.proofs.Common.{◌≡◌, ◌∷◌, ◌++◌, ◌∙◌, [], length, List, refl, ap, subst}
use Rattle.dom_store.specs.declared.level.Level.{Level}
use Rattle.dom_store.specs.Stores.{Stored, latest}
use Rattle.dom_store.specs.Trails.{stored_of}
use Rattle.dom_store.proofs.Levels.{pushed_keeps, pushed_view}
use Rattle.dom_store.proofs.store.Store.push_level.Goals as goal

pub invariant_of-self-2 : goal.invariant_of-self-2
invariant_of-self-2 c =
    let top : Level = record { start = length c.as_slice.result.now; settled = c.self.inside.settled } in
    let renews = c.in_ok-renew.ensures.ok in
    pushed_keeps c.self.inside.domains c.self.inside.trail c.renew.new.self c.self.inside.levels.items c.push_reserved.new.self.items top c.self.inside.settled c.self.inside.touched c.self.inside.changes
    c.self.invariant c.renew.ensures.kept renews (c.push_reserved.ensures.items ∙ ap (λ (ls : List Level). ls ++ top ∷ []) c.reserve.ensures.items) (ap length c.as_slice.ensures ∙ ap length renews.entries) refl

pub returns-clause-ok : goal.returns-clause-ok
returns-clause-ok c =
    let top : Level = record { start = length c.as_slice.result.now; settled = c.self.inside.settled } in
    let renews = c.in_ok-renew.ensures.ok in
    subst (λ (s : Stored). stored_of c.self.inside.domains c.renew.new.self c.push_reserved.new.self.items c.self.inside.settled c.self.inside.touched c.self.inside.changes ≡ record s { saved = s.box ∷ s.saved; settled = latest s.settled ∷ s.settled }) c.self.view_is
    (pushed_view c.self.inside.domains c.self.inside.trail c.renew.new.self c.self.inside.levels.items c.push_reserved.new.self.items top c.self.inside.settled c.self.inside.touched c.self.inside.changes
    renews.entries (c.push_reserved.ensures.items ∙ ap (λ (ls : List Level). ls ++ top ∷ []) c.reserve.ensures.items) (ap length c.as_slice.ensures ∙ ap length renews.entries) refl)
