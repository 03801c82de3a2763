use Rattle.std.proofs.Common.{rules, ◌<◌, ◌∙◌, [], length, drop, sym, ap, subst}
use Rattle.std.specs.Prelude.{slice_index_or}
use Rattle.dom_store.specs.Stores.{Stored}
use Rattle.dom_store.specs.Trails.{saved_boxes}
use Rattle.dom_store.proofs.Undoing.{undone_count}
use Rattle.dom_store.proofs.Levels.{popped_starts, popped_views, popped_keeps, pushed_some}
use Rattle.dom_store.proofs.store.Store.pop_level.Goals as goal

pub returns-in_default-clause-domains : goal.returns-in_default-clause-domains
returns-in_default-clause-domains c =
    let pushed : 0 < length (saved_boxes c.self.inside.trail.entries c.self.inside.domains _) = subst (λ (s : Stored). 0 < length s.saved) (sym c.self.view_is) c.requires.pushed in
    let some : 0 < length c.self.inside.levels.items = pushed_some c.self.inside.trail.entries c.self.inside.domains c.self.inside.levels.items pushed in
    search rules

pub returns-in_default-clause-saved : goal.returns-in_default-clause-saved
returns-in_default-clause-saved c =
    let pushed : 0 < length (saved_boxes c.self.inside.trail.entries c.self.inside.domains _) = subst (λ (s : Stored). 0 < length s.saved) (sym c.self.view_is) c.requires.pushed in
    let some : 0 < length c.self.inside.levels.items = pushed_some c.self.inside.trail.entries c.self.inside.domains c.self.inside.levels.items pushed in
    search rules

pub returns-in_default-clause-settled : goal.returns-in_default-clause-settled
returns-in_default-clause-settled c =
    let pushed : 0 < length (saved_boxes c.self.inside.trail.entries c.self.inside.domains _) = subst (λ (s : Stored). 0 < length s.saved) (sym c.self.view_is) c.requires.pushed in
    let some : 0 < length c.self.inside.levels.items = pushed_some c.self.inside.trail.entries c.self.inside.domains c.self.inside.levels.items pushed in
    search rules

pub take_back-requires-clause-start : goal.take_back-requires-clause-start
take_back-requires-clause-start c = (popped_starts c.self.inside.domains c.self.inside.trail c.self.inside.levels.items c.pop.new.self.items c.in-Some.level c.self.inside.settled c.self.inside.touched c.self.inside.changes c.self.invariant c.in-Some.ensures.items).0

pub take_back-requires-clause-room : goal.take_back-requires-clause-room
take_back-requires-clause-room c = (popped_starts c.self.inside.domains c.self.inside.trail c.self.inside.levels.items c.pop.new.self.items c.in-Some.level c.self.inside.settled c.self.inside.touched c.self.inside.changes c.self.invariant c.in-Some.ensures.items).1

pub invariant_of-self-2 : goal.invariant_of-self-2
invariant_of-self-2 c =
    popped_keeps c.self.inside.domains c.take_back.new.domains c.self.inside.trail c.take_back.new.self c.self.inside.levels.items c.pop.new.self.items c.in-Some.level c.self.inside.settled c.self.inside.touched c.self.inside.changes
    c.self.invariant c.take_back.ensures.kept c.in-Some.ensures.items c.take_back.ensures.back c.take_back.ensures.domains
    (ap length c.take_back.ensures.domains ∙ undone_count (drop c.in-Some.level.start c.self.inside.trail.entries) c.self.inside.domains)

pub returns-clause-domains : goal.returns-clause-domains
returns-clause-domains c =
    let views = popped_views c.self.inside.domains c.take_back.new.domains c.self.inside.trail c.take_back.new.self c.self.inside.levels.items c.pop.new.self.items c.in-Some.level c.self.inside.settled c.self.inside.touched c.self.inside.changes
    c.self.invariant c.in-Some.ensures.items c.take_back.ensures.back c.take_back.ensures.domains in
    sym (ap (λ (s : Stored). slice_index_or s.saved 0 []) (sym c.self.view_is) ∙ ap (λ bs. slice_index_or bs 0 []) views.0)

pub returns-clause-saved : goal.returns-clause-saved
returns-clause-saved c =
    let views = popped_views c.self.inside.domains c.take_back.new.domains c.self.inside.trail c.take_back.new.self c.self.inside.levels.items c.pop.new.self.items c.in-Some.level c.self.inside.settled c.self.inside.touched c.self.inside.changes
    c.self.invariant c.in-Some.ensures.items c.take_back.ensures.back c.take_back.ensures.domains in
    sym (ap (λ (s : Stored). drop 1 s.saved) (sym c.self.view_is) ∙ ap (drop 1) views.0)

pub returns-clause-settled : goal.returns-clause-settled
returns-clause-settled c =
    let views = popped_views c.self.inside.domains c.take_back.new.domains c.self.inside.trail c.take_back.new.self c.self.inside.levels.items c.pop.new.self.items c.in-Some.level c.self.inside.settled c.self.inside.touched c.self.inside.changes
    c.self.invariant c.in-Some.ensures.items c.take_back.ensures.back c.take_back.ensures.domains in
    views.1 ∙ ap (λ (s : Stored). drop 1 s.settled) c.self.view_is
