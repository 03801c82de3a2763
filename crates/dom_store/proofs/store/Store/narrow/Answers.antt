use Rattle.std.proofs.Common.{◌<◌, length, subst, sym}
use Rattle.dom_store.specs.Stores.{Stored}
use Rattle.dom_store.specs.Narrowing.{AltersOnly}
use Rattle.dom_store.specs.Trails.{stored_of}
use Rattle.dom_store.proofs.Levels.{narrow_keeps, narrow_alters}
use Rattle.dom_store.proofs.store.Store.narrow.Goals as goal

pub invariant_of-self : goal.invariant_of-self
invariant_of-self c =
    let inside : c.args.var < length c.self.inside.domains = subst (λ (s : Stored). c.args.var < length s.box) (sym c.self.view_is) c.requires.var in
    narrow_keeps c.self.inside.domains c.narrow-answer.new.self c.self.inside.trail c.save.new.trail c.self.inside.levels.items c.self.inside.settled c.self.inside.touched c.touch.new.touched
    c.self.inside.changes c.count_change-self-inside.result c.args.var c.args.cut c.narrow-answer.result c.self.invariant c.save.ensures.kept c.save.ensures.saves inside c.save.ensures.leaves
    c.narrow-answer.ensures.does c.narrow-answer.ensures.well_formed c.narrow-answer.ensures.others c.touch.ensures c.count_change-self-inside.ensures.value

pub returns-clause-others : goal.returns-clause-others
returns-clause-others c =
    let inside : c.args.var < length c.self.inside.domains = subst (λ (s : Stored). c.args.var < length s.box) (sym c.self.view_is) c.requires.var in
    subst (λ (s : Stored). AltersOnly c.args.var c.narrow-answer.result s (stored_of c.narrow-answer.new.self c.save.new.trail c.self.inside.levels.items c.self.inside.settled c.touch.new.touched c.count_change-self-inside.result)) c.self.view_is
    (narrow_alters c.self.inside.domains c.narrow-answer.new.self c.self.inside.trail c.save.new.trail c.self.inside.levels.items c.self.inside.settled c.self.inside.touched c.touch.new.touched
    c.self.inside.changes c.count_change-self-inside.result c.args.var c.args.cut c.narrow-answer.result c.self.invariant c.save.ensures.kept c.save.ensures.saves inside c.save.ensures.leaves
    c.narrow-answer.ensures.does c.narrow-answer.ensures.well_formed c.narrow-answer.ensures.others c.touch.ensures c.count_change-self-inside.ensures.value)
