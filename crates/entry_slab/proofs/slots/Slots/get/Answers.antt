use Rattle.std.proofs.Common.{List, ap, sym, subst, ◌∙◌}
use Rattle.std.specs.declared.option.Option.{Option}
use Rattle.entry_slab.specs.Contents.{entry_under}
use Rattle.entry_slab.specs.Slots.{Stock, IsKept, HasNone}
use Rattle.entry_slab.specs.declared.slots.Kept.{Kept}
use Rattle.entry_slab.proofs.SlotTables.{kept_is, none_is}
use Rattle.entry_slab.proofs.slots.Slots.get.Goals as goal

pub returns-in-Some : goal.returns-in-Some
returns-in-Some c =
    let kept = subst (λ (slots : List (Option Kept)). IsKept slots c.args.key c.in-Some.kept.now) c.deref.ensures.value c.in-Some.ensures.some in
    sym (ap (λ (s : Stock). entry_under s.entries c.args.key) (sym c.self.view_is) ∙ kept_is c.self.inside.slots.items c.args.key c.in-Some.kept.now c.self.invariant.0.in_place kept)

pub returns-in-None : goal.returns-in-None
returns-in-None c =
    let none = subst (λ (slots : List (Option Kept)). HasNone slots c.args.key) c.deref.ensures.value c.in-None.ensures.none in
    sym (ap (λ (s : Stock). entry_under s.entries c.args.key) (sym c.self.view_is) ∙ none_is c.self.inside.slots.items c.args.key c.self.invariant.0.in_place none)
