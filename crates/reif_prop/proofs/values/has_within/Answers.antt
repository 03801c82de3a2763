use Rattle.std.proofs.Common.{◌≡◌, arith, refl, sym, ◌∙◌, to_z, of_z, pos, ◌+ℤ◌, ◌≤ℤ◌, ◌<ℤ◌}
use Rattle.std.specs.Int.{w64}
use Rattle.std.proofs.lemmas.Int.{ints}
use Rattle.std.proofs.lemmas.Bool.{false≢true}
use Rattle.fzn_model.specs.Bounds.{TermHas}
use Rattle.dom_store.proofs.Comparing.{lt_test, lt_fails}
use Rattle.reif_prop.proofs.Finding.{within_is, none_more, none_first, none_within}
use Rattle.reif_prop.proofs.values.has_within.Goals as goal

pub loop-value-init : goal.loop-value-init
loop-value-init c =
    let first : to_z w64 (of_z w64 c.first_from-first.result) ≡ c.first_from-first.result = omega (arith, ints) in
    record {
      from = rw first (omega (arith, ints));
      none = rw first (none_first c.args.store.now.box c.args.x c.args.low.now c.first_from-first.result c.first_from-first.ensures.well_formed c.requires.term c.first_from-first.ensures.value);
    }

pub returns-then-can_have : goal.returns-then-can_have
returns-then-can_have c =
    let v = to_z w64 c.loop-value.value-bits in
    let first : to_z w64 (of_z w64 c.first_from-first.result) ≡ c.first_from-first.result = omega (arith, ints) in
    let end : to_z w64 (of_z w64 c.end_by-end.result) ≡ c.end_by-end.result = omega (arith, ints) in
    let less : v <ℤ c.end_by-end.result = rw end at (lt_test v (to_z w64 (of_z w64 c.end_by-end.result)) c.loop-value-test.true) in
    let found = within_is c.args.store.now.box c.args.x c.args.low.now c.args.high.now c.first_from-first.result c.end_by-end.result v c.first_from-first.ensures.value c.end_by-end.ensures.value (rw first at c.loop-value.invariant.from) less (c.can_have.ensures.value.0 c.if-can_have.true) in
    ((λ e. found), (λ h. refl))

pub loop-value-preserved : goal.loop-value-preserved
loop-value-preserved c =
    let v = to_z w64 c.loop-value.value-bits in
    let end : to_z w64 (of_z w64 c.end_by-end.result) ≡ c.end_by-end.result = omega (arith, ints) in
    let less : v <ℤ c.end_by-end.result = rw end at (lt_test v (to_z w64 (of_z w64 c.end_by-end.result)) c.loop-value-test.true) in
    let next : to_z w64 (of_z w64 (v +ℤ pos 1)) ≡ v +ℤ pos 1 = omega (arith, ints) in
    let none : TermHas c.args.store.now.box c.args.x v → ⊥ = λ has. false≢true (sym c.if-can_have.false ∙ c.can_have.ensures.value.1 has) in
    record {
      from = rw next (omega (arith, ints, c.loop-value.invariant.from));
      none = rw next (none_more c.args.store.now.box c.args.x c.args.low.now v c.loop-value.invariant.none none);
    }

pub returns : goal.returns
returns c =
    let v = to_z w64 c.loop-value.value-bits in
    let end : to_z w64 (of_z w64 c.end_by-end.result) ≡ c.end_by-end.result = omega (arith, ints) in
    let past : c.end_by-end.result ≤ℤ v = rw end at (lt_fails v (to_z w64 (of_z w64 c.end_by-end.result)) c.loop-value-test.false) in
    ((λ e. absurd (false≢true e)), (λ h. absurd (none_within c.args.store.now.box c.args.x c.args.low.now c.args.high.now v c.end_by-end.result c.end_by-end.ensures.well_formed c.requires.term c.end_by-end.ensures.value past c.loop-value.invariant.none h)))
