use Rattle.std.proofs.Common.{◌<◌, length, subst, sym}
use Rattle.mark_set.specs.Marks.{IsUnmarked}
use Rattle.dom_store.specs.Trails.{TrailParts}
use Rattle.dom_store.proofs.Undoing.{trail_saved}
use Rattle.dom_store.proofs.trail.Trail.save.Goals as goal

pub invariant_of-self : goal.invariant_of-self
invariant_of-self c =
    let inside : c.args.var < length c.self.inside.saved = subst (λ (t : TrailParts). c.args.var < length t.marks) (sym c.self.view_is) c.requires.inside in
    let unmarked : IsUnmarked c.self.inside.saved c.args.var = subst (λ (t : TrailParts). IsUnmarked t.marks c.args.var) (sym c.self.view_is) c.requires.unmarked in
    trail_saved _ (record { var = c.args.var; domain = c.args.domain }) _ _ _ c.self.invariant inside unmarked c.push_reserved.ensures.items c.add.ensures c.push_reserved.ensures.capacity

pub returns-clause-kept : goal.returns-clause-kept
returns-clause-kept c =
    let inside : c.args.var < length c.self.inside.saved = subst (λ (t : TrailParts). c.args.var < length t.marks) (sym c.self.view_is) c.requires.inside in
    let unmarked : IsUnmarked c.self.inside.saved c.args.var = subst (λ (t : TrailParts). IsUnmarked t.marks c.args.var) (sym c.self.view_is) c.requires.unmarked in
    trail_saved _ (record { var = c.args.var; domain = c.args.domain }) _ _ _ c.self.invariant inside unmarked c.push_reserved.ensures.items c.add.ensures c.push_reserved.ensures.capacity
