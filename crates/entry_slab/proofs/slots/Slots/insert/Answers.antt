use Rattle.std.proofs.Common.{List, ℕ, subst, refl, ◌+◌, ◌∷◌, [], ◌++◌, set, Some, arith}
use Rattle.std.specs.declared.option.Option.{Option}
use Rattle.std.proofs.lemmas.List.{length-set}
use Rattle.entry_slab.specs.declared.slots.Kept.{Kept}
use Rattle.entry_slab.specs.Contents.{Adds}
use Rattle.entry_slab.specs.Slots.{IsStocked, Stock, entries_in}
use Rattle.entry_slab.proofs.Stocked.{put_stocked, put_adds}
use Rattle.entry_slab.proofs.slots.Slots.insert.Goals as goal

pub invariant_of-self-2 : goal.invariant_of-self-2
invariant_of-self-2 c =
    let stocked : IsStocked c.self.inside.slots.items (c.pop.new.self.items ++ c.in-Some.at ∷ []) c.self.inside.next = subst (λ (free : List ℕ). IsStocked c.self.inside.slots.items free c.self.inside.next) c.in-Some.ensures.items c.self.invariant.0 in
    (put_stocked c.self.inside.slots.items c.pop.new.self.items c.self.inside.next c.following-self-inside.result c.in-Some.at (record { key = c.self.inside.next + c.in-Some.at; entry = c.args.entry }) stocked refl (λ low. omega (arith, c.following-self-inside.ensures.low low, c.len.ensures, length-set {A = Option Kept})) c.following-self-inside.ensures.high, omega (arith, c.in-Some.ensures.capacity, c.self.invariant.1, length-set {A = Option Kept}))

pub returns-clause-added : goal.returns-clause-added
returns-clause-added c =
    let stocked : IsStocked c.self.inside.slots.items (c.pop.new.self.items ++ c.in-Some.at ∷ []) c.self.inside.next = subst (λ (free : List ℕ). IsStocked c.self.inside.slots.items free c.self.inside.next) c.in-Some.ensures.items c.self.invariant.0 in
    subst (λ (s : Stock). Adds (c.self.inside.next + c.in-Some.at) c.args.entry s.entries (entries_in (set c.self.inside.slots.items c.in-Some.at (Some (record { key = c.self.inside.next + c.in-Some.at; entry = c.args.entry }))))) c.self.view_is
    (put_adds c.self.inside.slots.items c.pop.new.self.items c.self.inside.next c.in-Some.at (record { key = c.self.inside.next + c.in-Some.at; entry = c.args.entry }) stocked refl)
