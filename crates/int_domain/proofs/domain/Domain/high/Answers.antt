use Rattle.std.proofs.Common.{arith, ◌∙◌, ◌≡◌, sym, ap, subst, to_z, of_z}
use Rattle.std.specs.Int.{w64}
use Rattle.std.proofs.lemmas.Int.{ints}
use Rattle.int_domain.specs.Values.{high_of, IsDomain}
use Rattle.int_domain.proofs.Narrowed.{high_is_kept, sound_is_domain}
use Rattle.int_domain.proofs.domain.Domain.high.Goals as goal

pub returns-clause-value : goal.returns-clause-value
returns-clause-value c =
    let plain : to_z w64 (of_z w64 c.self.inside.high) ≡ c.self.inside.high = omega (arith, ints) in
    plain ∙ sym (high_is_kept c.self.inside.bitmap c.self.inside.low c.self.inside.high c.self.invariant.sound) ∙ ap high_of c.self.view_is

pub returns-clause-kept : goal.returns-clause-kept
returns-clause-kept c = subst IsDomain c.self.view_is (sound_is_domain c.self.inside.bitmap c.self.inside.low c.self.inside.high c.self.invariant.sound)
