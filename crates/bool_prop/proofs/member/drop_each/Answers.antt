use Rattle.std.proofs.Common.{◌≡◌, arith, to_z, of_z}
use Rattle.std.specs.Prelude.{pos, ◌+ℤ◌}
use Rattle.std.specs.Int.{w64}
use Rattle.std.proofs.lemmas.Int.{ints}
use Rattle.dom_store.specs.Bases.{member_of}
use Rattle.bool_prop.proofs.Members.{each_inside, wide_left}
use Rattle.bool_prop.proofs.member.drop_each.Goals as goal

pub returns-then-is_wide : goal.returns-then-is_wide
returns-then-is_wide c = wide_left (member_of c.args.x c.args.set.now) c.args.store.now c.is_wide.ensures.well_formed (c.is_wide.ensures.value.0 c.if-is_wide.true)

pub returns : goal.returns
returns c =
    let low : to_z w64 (of_z w64 c.least-low.result) ≡ c.least-low.result = omega (arith, ints) in
    let high : to_z w64 (of_z w64 c.greatest-high.result) ≡ c.greatest-high.result = omega (arith, ints) in
    let end : to_z w64 (of_z w64 (c.greatest-high.result +ℤ pos 1)) ≡ c.greatest-high.result +ℤ pos 1 = omega (arith, ints) in
    each_inside (member_of c.args.x c.args.set.now) c.args.store.now c.drop_from.new.store c.least-low.result c.greatest-high.result c.drop_from.result c.least-low.ensures.well_formed c.requires.term c.least-low.ensures.value c.greatest-high.ensures.value (rw (low, high, end) at c.drop_from.ensures)
