use Rattle.std.proofs.Common.{arith, pos, length, ◌-◌}
use Rattle.std.proofs.lemmas.Int.{ints}
use Rattle.int_domain.proofs.Runs.{first_to_last, lie_between, spanning_values, spanning_sound}
use Rattle.int_domain.proofs.Narrowed.{reaches_part, sized_at}
use Rattle.int_domain.proofs.domain.spanning.Goals as goal

pub bitmap_of-bitmap-requires-clause-ordered : goal.bitmap_of-bitmap-requires-clause-ordered
bitmap_of-bitmap-requires-clause-ordered c =
    let whole = first_to_last c.args.runs.now (pos 0, pos 0) c.requires.runs c.requires.some in
    let first = (c.requires.runs.within 0 (pos 0, pos 0) c.requires.some).0 in
    let last = (c.requires.runs.within (length c.args.runs.now - 1) (pos 0, pos 0) (omega arith)).1 in
    omega (arith, ints, whole, first.0, first.1, last.0, last.1)

pub bitmap_of-bitmap-requires-clause-between : goal.bitmap_of-bitmap-requires-clause-between
bitmap_of-bitmap-requires-clause-between c =
    let first = (c.requires.runs.within 0 (pos 0, pos 0) c.requires.some).0 in
    let last = (c.requires.runs.within (length c.args.runs.now - 1) (pos 0, pos 0) (omega arith)).1 in
    lie_between c.args.runs.now (pos 0, pos 0) _ _ c.requires.runs (omega (arith, ints, first.0, first.1)) (omega (arith, ints, last.0, last.1))

pub count_kept-size-requires-clause-ordered : goal.count_kept-size-requires-clause-ordered
count_kept-size-requires-clause-ordered c =
    let whole = first_to_last c.args.runs.now (pos 0, pos 0) c.requires.runs c.requires.some in
    let first = (c.requires.runs.within 0 (pos 0, pos 0) c.requires.some).0 in
    let last = (c.requires.runs.within (length c.args.runs.now - 1) (pos 0, pos 0) (omega arith)).1 in
    omega (arith, ints, whole, first.0, first.1, last.0, last.1)

pub count_kept-size-requires-clause-reached : goal.count_kept-size-requires-clause-reached
count_kept-size-requires-clause-reached c = reaches_part c.bitmap_of-bitmap.result _ _ _ _ c.bitmap_of-bitmap.ensures.hull (omega (arith, ints)) (omega (arith, ints))

pub invariant_of-result : goal.invariant_of-result
invariant_of-result c =
    let first = (c.requires.runs.within 0 (pos 0, pos 0) c.requires.some).0 in
    let last = (c.requires.runs.within (length c.args.runs.now - 1) (pos 0, pos 0) (omega arith)).1 in
    record {
      sound = spanning_sound c.args.runs.now (pos 0, pos 0) c.bitmap_of-bitmap.result _ _ c.requires.runs c.requires.some
          (omega (arith, ints, first.0, first.1)) (omega (arith, ints, last.0, last.1)) c.bitmap_of-bitmap.ensures.hull c.bitmap_of-bitmap.ensures.marked;
      counted = sized_at c.bitmap_of-bitmap.result _ _ _ _ _ c.count_kept-size.ensures (omega (arith, ints, first.0, first.1)) (omega (arith, ints, last.0, last.1));
    }

pub returns : goal.returns
returns c =
    let first = (c.requires.runs.within 0 (pos 0, pos 0) c.requires.some).0 in
    let last = (c.requires.runs.within (length c.args.runs.now - 1) (pos 0, pos 0) (omega arith)).1 in
    spanning_values c.args.runs.now (pos 0, pos 0) c.bitmap_of-bitmap.result _ _ c.requires.runs c.requires.some c.requires.narrow
    (omega (arith, ints, first.0, first.1)) (omega (arith, ints, last.0, last.1)) c.bitmap_of-bitmap.ensures.hull c.bitmap_of-bitmap.ensures.marked
