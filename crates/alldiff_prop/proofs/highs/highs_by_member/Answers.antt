use Rattle.std.proofs.Common.{◌≡◌, pos, to_z, of_z, arith}
use Rattle.std.specs.Int.{w64}
use Rattle.std.proofs.lemmas.Int.{ints}
use Rattle.fzn_model.specs.declared.term.Term.TheVariants as term
use Rattle.alldiff_prop.proofs.Gathering.{highs_more}
use Rattle.alldiff_prop.proofs.highs.highs_by_member.Goals as goal

pub loop-term-preserved : goal.loop-term-preserved
loop-term-preserved c =
    let plain : to_z w64 (of_z w64 c.greatest.result) ≡ c.greatest.result = omega (arith, ints) in
    let items = rw plain at c.in_ok-push.ensures.items in
    let more = highs_more c.args.store.now.box c.args.low.now c.args.members.now c.loop-term.term-index (term.Const (pos 0)) c.loop-term-test.true (omega (arith, ints, c.if-least-low.false, c.least.ensures.value)) in
    cc
