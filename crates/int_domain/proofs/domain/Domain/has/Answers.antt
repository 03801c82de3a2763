use Rattle.std.proofs.Common.{arith, ◌∙◌, ◌≡◌, sym, ap, subst, to_z, of_z}
use Rattle.std.specs.Prelude.{Contains}
use Rattle.std.specs.Int.{w64}
use Rattle.std.proofs.lemmas.Int.{ints, to_z-of_z}
use Rattle.int_domain.specs.Kept.{keeps}
use Rattle.std.proofs.lemmas.Bool.{false≢true}
use Rattle.int_domain.proofs.Narrowed.{reaches_part, contains_inside, inside_contains}
use Rattle.int_domain.proofs.domain.Domain.has.Goals as goal
use Rattle.int_domain.proofs.domain.Domain.has.Goals.{then-value-self-via-then-value-self, then-value-self-via-else-value-self+then-self-value}

pub returns-then-value-self : goal.returns-then-value-self
returns-then-value-self c = (
  λ e. absurd (false≢true e),
  λ has.
      let inside = contains_inside c.self.inside.bitmap c.self.inside.low c.self.inside.high c.args.value (subst (λ xs. Contains xs c.args.value) (sym c.self.view_is) has) in
      elim c.then-value-self.branch [
        | then-value-self-via-then-value-self w ↦ absurd (omega (arith, ints, inside.0))
        | then-value-self-via-else-value-self+then-self-value w ↦ absurd (omega (arith, ints, inside.1))
      ],
)

pub is_kept-requires : goal.is_kept-requires
is_kept-requires c = reaches_part c.self.inside.bitmap c.self.inside.low c.self.inside.high _ _ c.self.invariant.sound.hull (omega (arith, ints)) (omega (arith, ints))

pub returns : goal.returns
returns c =
    let plain : to_z w64 (of_z w64 c.args.value) ≡ c.args.value = to_z-of_z w64 c.args.value c.ranges.value in
    let answer : c.is_kept.result ≡ keeps c.self.inside.bitmap c.args.value = c.is_kept.ensures ∙ ap (keeps c.self.inside.bitmap) plain in (
      λ e. subst (λ xs. Contains xs c.args.value) c.self.view_is
          (inside_contains c.self.inside.bitmap c.self.inside.low c.self.inside.high c.args.value (omega (arith, ints), omega (arith, ints), sym answer ∙ e)),
      λ has.
          let inside = contains_inside c.self.inside.bitmap c.self.inside.low c.self.inside.high c.args.value (subst (λ xs. Contains xs c.args.value) (sym c.self.view_is) has) in
          answer ∙ inside.2,
    )
