use Rattle.std.proofs.Common.{List, subst, ◌%◌, ◌∷◌, [], ◌++◌, set, None, length, ◌≡◌, ◌<◌, rules, arith}
use Rattle.std.proofs.lemmas.List.{length-set}
use Rattle.std.specs.declared.option.Option.{Option}
use Rattle.entry_slab.specs.Contents.{TakesOut}
use Rattle.entry_slab.specs.Slots.{IsKept, HasNone, Stock, entries_in}
use Rattle.entry_slab.specs.declared.slots.Kept.{Kept}
use Rattle.entry_slab.proofs.Stocked.{take_stocked, take_takes, take_none, some_full}
use Rattle.entry_slab.proofs.slots.Slots.remove.Goals as goal

pub returns-in-None-clause-taken : goal.returns-in-None-clause-taken
returns-in-None-clause-taken c =
    let none = subst (λ (slots : List (Option Kept)). HasNone slots c.args.key) c.deref.ensures.value c.in-None.ensures.none in
    subst (λ (s : Stock). TakesOut c.args.key s.entries s.entries) c.self.view_is (take_none c.self.inside.slots.items c.self.inside.free.items c.self.inside.next c.args.key c.self.invariant.0 none)

pub unwrap-requires : goal.unwrap-requires
unwrap-requires c =
    let kept = subst (λ (slots : List (Option Kept)). IsKept slots c.args.key c.in-Some.field-0.now) c.deref.ensures.value c.in-Some.ensures.some in
    let few : length c.self.inside.free.items < length c.self.inside.slots.items = some_full c.self.inside.slots.items c.self.inside.free.items c.self.inside.next c.args.key c.in-Some.field-0.now c.self.invariant.0 kept in
    search rules

pub invariant_of-self : goal.invariant_of-self
invariant_of-self c =
    let kept = subst (λ (slots : List (Option Kept)). IsKept slots c.args.key c.in-Some.field-0.now) c.deref.ensures.value c.in-Some.ensures.some in
    let stocked = take_stocked c.self.inside.slots.items c.self.inside.free.items c.self.inside.next c.args.key c.in-Some.field-0.now c.self.invariant.0 kept in
    let len : c.len.result ≡ length c.self.inside.slots.items = search rules in
    let items : c.push.new.self.items ≡ c.self.inside.free.items ++ (c.args.key % c.len.result) ∷ [] = rw c.unwrap.ensures at c.push.ensures.items in
    (rw (items, len) stocked, omega (arith, c.push.ensures.capacity, c.self.invariant.1, length-set {A = Option Kept}))

pub returns-clause-taken : goal.returns-clause-taken
returns-clause-taken c =
    let kept = subst (λ (slots : List (Option Kept)). IsKept slots c.args.key c.in-Some.field-0.now) c.deref.ensures.value c.in-Some.ensures.some in
    let len : c.len.result ≡ length c.self.inside.slots.items = search rules in
    subst (λ (s : Stock). TakesOut c.args.key s.entries (entries_in (set c.self.inside.slots.items (c.args.key % c.len.result) None))) c.self.view_is
    (rw len (take_takes c.self.inside.slots.items c.self.inside.free.items c.self.inside.next c.args.key c.in-Some.field-0.now c.self.invariant.0 kept))
