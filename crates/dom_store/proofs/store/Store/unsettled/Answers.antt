use Rattle.std.proofs.Common.{◌≡◌, ◌∙◌, None, length, List, drop, sym, ap, subst, arith}
use Rattle.dom_store.specs.declared.entry.Entry.{Entry}
use Rattle.dom_store.specs.Stores.{Stored, latest}
use Rattle.dom_store.specs.Trails.{DiffersAt}
use Rattle.dom_store.proofs.Levels.{settled_inside, differs, none_settled}
use Rattle.dom_store.proofs.store.Store.unsettled.Goals as goal

pub from-requires : goal.from-requires
from-requires c =
    let inside = settled_inside c.self.inside.domains c.self.inside.trail c.self.inside.levels.items c.self.inside.settled c.in-Some.at c.self.inside.touched c.self.inside.changes c.self.invariant c.in-Some.is in
    omega (arith, inside, ap length c.as_slice.ensures)

pub returns-in-Some-clause-some : goal.returns-in-Some-clause-some
returns-in-Some-clause-some c =
    subst (λ (es : List Entry). DiffersAt es (latest c.args.self.now.settled) c.args.self.now.box) (sym (c.from.ensures ∙ ap (drop c.in-Some.at) c.as_slice.ensures))
    (subst (λ (s : Stored). DiffersAt (drop c.in-Some.at c.self.inside.trail.entries) (latest s.settled) s.box) c.self.view_is
    (differs c.self.inside.domains c.self.inside.trail c.self.inside.levels.items c.self.inside.settled c.in-Some.at c.self.inside.touched c.self.inside.changes c.self.invariant c.in-Some.is))

pub returns-in-None-clause-none : goal.returns-in-None-clause-none
returns-in-None-clause-none c =
    subst (λ (s : Stored). latest s.settled ≡ None) c.self.view_is
    (none_settled c.self.inside.trail.entries c.self.inside.domains c.self.inside.settled c.self.inside.levels.items c.in-None.is)
