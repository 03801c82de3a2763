use Rattle.std.proofs.Common.{◌≡◌, ◌+◌, pos, to_z, of_z, sym, subst, arith}
use Rattle.std.specs.Prelude.{slice_index_or}
use Rattle.std.specs.Int.{w64}
use Rattle.std.proofs.lemmas.Int.{ints}
use Rattle.alldiff_prop.specs.Fulls.{HasOverfull, AreFullsTo}
use Rattle.alldiff_prop.proofs.Filling.{fulls_none, fulls_push}
use Rattle.alldiff_prop.proofs.fulls.put_fulls.Goals as goal

pub loop-place-init : goal.loop-place-init
loop-place-init c = subst (λ l. AreFullsTo c.args.taken.now c.args.low.now c.args.highs.now l 0) (sym c.clear.ensures.items) (fulls_none _ _ _)

pub returns-then-free-place-clause-over : goal.returns-then-free-place-clause-over
unfolding HasOverfull
returns-then-free-place-clause-over c = λ none. (c.loop-place.place, c.loop-place-test.true, omega (arith, c.room-free.ensures, c.if-free-place.true))

pub loop-place-preserved : goal.loop-place-preserved
loop-place-preserved c =
    let high = slice_index_or c.args.highs.now c.loop-place.place (pos 0) in
    let plain : to_z w64 (of_z w64 high) ≡ high = omega (arith, ints) in
    let items = rw plain at c.in_ok-push.ensures.items in
    subst (λ l. AreFullsTo c.args.taken.now c.args.low.now c.args.highs.now l (c.loop-place.place + 1)) (sym items)
    (fulls_push _ _ _ _ _ c.loop-place.invariant c.loop-place-test.true c.requires.climbs c.requires.highs (omega (arith, c.room-free.ensures, c.if-free-place.false, c.if-place-free.false)))
