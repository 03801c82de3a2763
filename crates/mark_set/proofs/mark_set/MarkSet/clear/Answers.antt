use Rattle.std.proofs.Common.{◌≡◌, ◌∙◌, List, Bool, length, take, ap, sym, subst}
use Rattle.mark_set.specs.Marks.{IsClear, IsMarkSet, HasClear}
use Rattle.mark_set.proofs.Marking.{whole, all_cleared, cleared}
use Rattle.mark_set.proofs.mark_set.MarkSet.clear.Goals as goal

pub invariant_of-self : goal.invariant_of-self
invariant_of-self c =
    let same : length c.clear.new.marks ≡ length c.self.inside.marks.items = c.clear.ensures.length ∙ ap length c.deref_mut.ensures.value in
    let long : c.self.inside.marks.len ≡ length c.self.inside.marks.items = sym c.deref_mut.ensures.len ∙ ap length c.deref_mut.ensures.value in
    let is = whole c.self.inside.marks.len c.clear.new.marks c.self.inside.marks.items long same in
    let clear : HasClear c.self.inside.marks.items c.clear.new.marks (take c.self.inside.count c.self.inside.places.items) = simp (c.deref_mut.ensures.value, c.deref.ensures.value) at c.clear.ensures.clear in
    subst (λ (ms : List Bool). IsMarkSet ms c.self.inside.places.items 0) (sym is) (cleared c.self.inside.marks.items c.clear.new.marks c.self.inside.places.items c.self.inside.count c.self.invariant same (all_cleared c.self.inside.marks.items c.clear.new.marks c.self.inside.places.items c.self.inside.count c.self.invariant clear))

pub returns-clause-clear : goal.returns-clause-clear
returns-clause-clear c =
    let same : length c.clear.new.marks ≡ length c.self.inside.marks.items = c.clear.ensures.length ∙ ap length c.deref_mut.ensures.value in
    let long : c.self.inside.marks.len ≡ length c.self.inside.marks.items = sym c.deref_mut.ensures.len ∙ ap length c.deref_mut.ensures.value in
    let is = whole c.self.inside.marks.len c.clear.new.marks c.self.inside.marks.items long same in
    let clear : HasClear c.self.inside.marks.items c.clear.new.marks (take c.self.inside.count c.self.inside.places.items) = simp (c.deref_mut.ensures.value, c.deref.ensures.value) at c.clear.ensures.clear in
    subst IsClear (sym is) (all_cleared c.self.inside.marks.items c.clear.new.marks c.self.inside.places.items c.self.inside.count c.self.invariant clear)
