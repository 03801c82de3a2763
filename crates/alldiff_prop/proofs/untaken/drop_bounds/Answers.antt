use Rattle.std.proofs.Common.{◌≡◌, arith, to_z, of_z}
use Rattle.std.specs.Int.{w64}
use Rattle.std.proofs.lemmas.Int.{ints}
use Rattle.alldiff_prop.specs.Untaken.{IsDropped, BoundsAreFree}
use Rattle.alldiff_prop.proofs.Freeing.{both_drop}
use Rattle.dom_store.proofs.Stepping.{step_done, step_end}
use Rattle.alldiff_prop.proofs.untaken.drop_bounds.Goals as goal

pub returns-in-Empty : goal.returns-in-Empty
returns-in-Empty c =
    let plain : to_z w64 (of_z w64 c.least-low.result) ≡ c.least-low.result = omega (arith, ints) in
    step_end (IsDropped c.args.taken.now c.args.term c.least-low.result) (BoundsAreFree c.args.taken.now c.args.term) _ _ _ (rw plain at c.in-Empty.ensures)

pub returns : goal.returns
returns c =
    let low : to_z w64 (of_z w64 c.least-low.result) ≡ c.least-low.result = omega (arith, ints) in
    let high : to_z w64 (of_z w64 c.greatest-high.result) ≡ c.greatest-high.result = omega (arith, ints) in
    both_drop _ _ _ c.least-low.result c.greatest-high.result _ _ _ _ c.requires.ready c.requires.member c.least-low.ensures.value c.greatest-high.ensures.value
    (step_done (IsDropped c.args.taken.now c.args.term c.least-low.result) _ _ _ _ c.in_default.not-Empty (rw low at c.drop_where_taken.ensures))
    (rw high at c.drop_where_taken-2.ensures)
