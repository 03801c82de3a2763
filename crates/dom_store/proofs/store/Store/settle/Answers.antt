use Rattle.std.proofs.Common.{◌∙◌, length, Some, refl, ap, subst, inl}
use Rattle.dom_store.specs.Stores.{Stored}
use Rattle.dom_store.specs.Narrowing.{Settles}
use Rattle.dom_store.specs.Trails.{Renews, stored_of}
use Rattle.dom_store.proofs.Levels.{settled_keeps, settled_view}
use Rattle.dom_store.proofs.store.Store.settle.Goals as goal

pub invariant_of-self : goal.invariant_of-self
invariant_of-self c =
    let renews : Renews c.self.inside.trail c.renew.new.self = c.in-Ok.ensures.ok in
    settled_keeps c.self.inside.domains c.self.inside.trail c.renew.new.self c.self.inside.levels.items c.self.inside.settled _ (length c.as_slice.result.now) c.self.inside.touched c.self.inside.changes
    c.self.invariant c.renew.ensures.kept renews refl (ap length c.as_slice.ensures ∙ ap length renews.entries)

pub returns-in-Ok : goal.returns-in-Ok
returns-in-Ok c =
    let renews : Renews c.self.inside.trail c.renew.new.self = c.in-Ok.ensures.ok in
    subst (λ (s : Stored). Settles s (stored_of c.self.inside.domains c.renew.new.self c.self.inside.levels.items (Some (length c.as_slice.result.now)) c.self.inside.touched c.self.inside.changes)) c.self.view_is
    (inl (settled_view c.self.inside.domains c.self.inside.trail c.renew.new.self c.self.inside.levels.items c.self.inside.settled _ (length c.as_slice.result.now) c.self.inside.touched c.self.inside.changes
    renews.entries refl (ap length c.as_slice.ensures ∙ ap length renews.entries)))
