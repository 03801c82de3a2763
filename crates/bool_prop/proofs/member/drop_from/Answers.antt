use Rattle.std.proofs.Common.{◌≡◌, arith, to_z, of_z}
use Rattle.std.specs.Prelude.{pos, ◌+ℤ◌, ◌≤ℤ◌}
use Rattle.std.specs.Int.{w64}
use Rattle.std.proofs.lemmas.Int.{ints, to_z-of_z}
use Rattle.fzn_model.specs.Meaning.{Holds}
use Rattle.dom_store.proofs.Stepping.{still_in}
use Rattle.dom_store.specs.Bases.{member_of}
use Rattle.bool_prop.specs.Parts.{member_con}
use Rattle.dom_store.proofs.Comparing.{lt_fails}
use Rattle.bool_prop.proofs.Members.{from_start, from_more, from_less, from_end}
use Rattle.bool_prop.proofs.member.drop_from.Goals as goal

pub loop-value-init : goal.loop-value-init
loop-value-init c = from_start (member_of c.args.x c.args.set.now) _ c.args.store.now c.requires.well_formed

pub drop_outside-requires-clause-term : goal.drop_outside-requires-clause-term
drop_outside-requires-clause-term c = still_in (Holds (member_con (member_of c.args.x c.args.set.now))) c.args.store.now c.loop-value.store c.args.x c.loop-value.invariant.prunes c.requires.term

pub returns-in-Empty : goal.returns-in-Empty
returns-in-Empty c =
    let low : to_z w64 (of_z w64 c.args.low) ≡ c.args.low = to_z-of_z w64 c.args.low c.ranges.low in
    from_end (member_of c.args.x c.args.set.now) c.args.low _ c.args.end c.args.store.now c.loop-value.store c.drop_outside.new.store (rw low at c.loop-value.invariant) c.in-Empty.ensures

pub loop-value-preserved : goal.loop-value-preserved
loop-value-preserved c =
    let end : to_z w64 (of_z w64 c.args.end) ≡ c.args.end = to_z-of_z w64 c.args.end c.ranges.end in
    let next : to_z w64 (of_z w64 (to_z w64 c.loop-value.value-bits +ℤ pos 1)) ≡ to_z w64 c.loop-value.value-bits +ℤ pos 1 = omega (arith, ints) in
    rw next (from_more (member_of c.args.x c.args.set.now) (to_z w64 (of_z w64 c.args.low)) (to_z w64 c.loop-value.value-bits) c.args.store.now c.loop-value.store c.drop_outside.new.store c.loop-value.invariant c.in-Done.ensures)

pub returns : goal.returns
returns c =
    let low : to_z w64 (of_z w64 c.args.low) ≡ c.args.low = to_z-of_z w64 c.args.low c.ranges.low in
    let end : to_z w64 (of_z w64 c.args.end) ≡ c.args.end = to_z-of_z w64 c.args.end c.ranges.end in
    let past : c.args.end ≤ℤ to_z w64 c.loop-value.value-bits = rw end at (lt_fails (to_z w64 c.loop-value.value-bits) (to_z w64 (of_z w64 c.args.end)) c.loop-value-test.false) in
    from_less (member_of c.args.x c.args.set.now) c.args.low (to_z w64 c.loop-value.value-bits) c.args.end c.args.store.now c.loop-value.store past (rw low at c.loop-value.invariant)
