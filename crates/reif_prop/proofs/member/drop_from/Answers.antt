use Rattle.std.proofs.Common.{◌≡◌, arith, to_z, of_z, pos, ◌+ℤ◌, ◌≤ℤ◌, ◌<ℤ◌}
use Rattle.std.specs.Int.{w64}
use Rattle.std.proofs.lemmas.Int.{ints, to_z-of_z}
use Rattle.reif_prop.specs.Denying.{Misses}
use Rattle.dom_store.proofs.Stepping.{still_in}
use Rattle.dom_store.proofs.Comparing.{lt_test, lt_fails}
use Rattle.reif_prop.proofs.Members.{off_none, off_more, off_end, off_all}
use Rattle.reif_prop.proofs.member.drop_from.Goals as goal

pub loop-value-init : goal.loop-value-init
loop-value-init c =
    let first : to_z w64 (of_z w64 c.args.first) ≡ c.args.first = to_z-of_z w64 c.args.first c.ranges.first in
    record {
      from = omega (arith, ints);
      steps = rw first (off_none c.args.x c.args.run.now c.args.first c.args.store.now c.requires.well_formed);
    }

pub drop_number-requires : goal.drop_number-requires
drop_number-requires c = still_in (Misses c.args.x c.args.run.now) c.args.store.now c.loop-value.store c.args.x c.loop-value.invariant.steps.prunes c.requires.term

pub returns-in-Empty : goal.returns-in-Empty
returns-in-Empty c =
    let v = to_z w64 c.loop-value.value-bits in
    let first : to_z w64 (of_z w64 c.args.first) ≡ c.args.first = to_z-of_z w64 c.args.first c.ranges.first in
    let end : to_z w64 (of_z w64 c.args.end) ≡ c.args.end = to_z-of_z w64 c.args.end c.ranges.end in
    let less : v <ℤ c.args.end = rw end at (lt_test v (to_z w64 (of_z w64 c.args.end)) c.loop-value-test.true) in
    let from : c.args.run.now.0 ≤ℤ v = omega (arith, ints, c.loop-value.invariant.from, first, c.requires.first) in
    let to : v ≤ℤ c.args.run.now.1 = omega (arith, ints, less, c.requires.end) in
    off_end c.args.x c.args.run.now c.args.first v c.args.end c.args.store.now c.loop-value.store c.drop_number.new.store from to (rw first at c.loop-value.invariant.steps) c.in-Empty.ensures

pub loop-value-preserved : goal.loop-value-preserved
loop-value-preserved c =
    let v = to_z w64 c.loop-value.value-bits in
    let first : to_z w64 (of_z w64 c.args.first) ≡ c.args.first = to_z-of_z w64 c.args.first c.ranges.first in
    let end : to_z w64 (of_z w64 c.args.end) ≡ c.args.end = to_z-of_z w64 c.args.end c.ranges.end in
    let less : v <ℤ c.args.end = rw end at (lt_test v (to_z w64 (of_z w64 c.args.end)) c.loop-value-test.true) in
    let from : c.args.run.now.0 ≤ℤ v = omega (arith, ints, c.loop-value.invariant.from, first, c.requires.first) in
    let to : v ≤ℤ c.args.run.now.1 = omega (arith, ints, less, c.requires.end) in
    let next : to_z w64 (of_z w64 (v +ℤ pos 1)) ≡ v +ℤ pos 1 = omega (arith, ints) in
    record {
      from = rw next (omega (arith, ints, c.loop-value.invariant.from));
      steps = rw (first, next) (off_more c.args.x c.args.run.now c.args.first v c.args.store.now c.loop-value.store c.drop_number.new.store from to (rw first at c.loop-value.invariant.steps) c.in-Done.ensures);
    }

pub returns : goal.returns
returns c =
    let v = to_z w64 c.loop-value.value-bits in
    let first : to_z w64 (of_z w64 c.args.first) ≡ c.args.first = to_z-of_z w64 c.args.first c.ranges.first in
    let end : to_z w64 (of_z w64 c.args.end) ≡ c.args.end = to_z-of_z w64 c.args.end c.ranges.end in
    let past : c.args.end ≤ℤ v = rw end at (lt_fails v (to_z w64 (of_z w64 c.args.end)) c.loop-value-test.false) in
    off_all c.args.x c.args.run.now c.args.first v c.args.end c.args.store.now c.loop-value.store past (rw first at c.loop-value.invariant.steps)
