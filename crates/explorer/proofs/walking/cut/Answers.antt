use Rattle.std.proofs.Common.{FitsSigned, w64, rules, ◌∙◌, refl}
use Rattle.std.proofs.lemmas.Int.{to_z-of_z}
use Rattle.explorer.proofs.Cutting.{cut_up, cut_down, none_up, none_down}
use Rattle.explorer.proofs.walking.cut.Goals as goal

pub returns-then-side-clause-cuts : goal.returns-then-side-clause-cuts
returns-then-side-clause-cuts c =
    let fits : FitsSigned w64 c.next.result = search rules in
    λ some. cut_up c.args.side.now _ c.args.store.now c.cut_below.new.store c.cut_below.result c.if-side.true (to_z-of_z w64 c.next.result fits ∙ c.next.ensures) c.requires.within c.cut_below.ensures.narrows (c.cut_below.ensures.reached some)

pub returns-then-side-clause-none : goal.returns-then-side-clause-none
returns-then-side-clause-none c =
    let fits : FitsSigned w64 c.next.result = search rules in
    λ empty. none_up c.args.side.now _ c.args.store.now c.cut_below.new.store c.cut_below.result c.if-side.true (to_z-of_z w64 c.next.result fits ∙ c.next.ensures) c.cut_below.ensures.narrows empty

pub returns-else-side-clause-cuts : goal.returns-else-side-clause-cuts
returns-else-side-clause-cuts c =
    λ some. cut_down c.args.side.now _ c.args.store.now c.cut_above.new.store c.cut_above.result c.if-side.false refl c.requires.within c.cut_above.ensures.narrows (c.cut_above.ensures.reached some)

pub returns-else-side-clause-none : goal.returns-else-side-clause-none
returns-else-side-clause-none c =
    λ empty. none_down c.args.side.now _ c.args.store.now c.cut_above.new.store c.cut_above.result c.if-side.false refl c.cut_above.ensures.narrows empty
