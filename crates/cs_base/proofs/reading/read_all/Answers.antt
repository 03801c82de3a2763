use Rattle.std.proofs.Common.{arith, ◌+◌, refl, length, length-take}
use Rattle.cs_base.proofs.Bytes.{consumes_buffer}
use Rattle.cs_base.proofs.reading.read_all.Goals as goal

pub returns-then-count-limit-clause-taken : goal.returns-then-count-limit-clause-taken
returns-then-count-limit-clause-taken g c = consumes_buffer _ _ _ c.loop-limit.bytes.items c.read.new.buf c.in-Ok.count (c.args.limit + 1) c.loop-limit.invariant.taken c.in-Ok.ensures.bytes.0 (omega (arith, c.in-Ok.ensures.bound)) (omega (arith, c.in-Ok.ensures.bound, c.loop-limit.invariant.small, length-take (c.min-room.result + 1) c.loop-limit.buf))

pub returns-then-is_err-clause-taken : goal.returns-then-is_err-clause-taken
returns-then-is_err-clause-taken g c =
    let x = consumes_buffer _ _ _ c.loop-limit.bytes.items c.read.new.buf c.in-Ok.count (length c.loop-limit.bytes.items + c.in-Ok.count) c.loop-limit.invariant.taken c.in-Ok.ensures.bytes.0 (omega (arith, c.in-Ok.ensures.bound)) refl in
    (x.0, x.1, omega (arith, x.2, c.loop-limit.invariant.small))
