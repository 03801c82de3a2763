use Rattle.std.proofs.Common.{◌<◌, length, List, Bool, ◌∙◌, sym, subst}
use Rattle.mark_set.proofs.Marking.{added, marked_if}
use Rattle.mark_set.proofs.mark_set.MarkSet.add.Goals as goal

pub invariant_of-self : goal.invariant_of-self
invariant_of-self c =
    let h : c.args.number < length c.self.inside.marks.items = subst (λ (ms : List Bool). c.args.number < length ms) (sym c.self.view_is) c.requires in
    added c.self.inside.marks.items c.self.inside.places.items c.self.inside.count c.args.number c.self.invariant h (marked_if c.self.inside.marks.items c.args.number c.index.result.now c.index.ensures h ∙ c.if-not-index.true)
