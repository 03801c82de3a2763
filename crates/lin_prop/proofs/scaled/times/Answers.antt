use Rattle.std.proofs.Common.{rules, ◌*ℤ◌, FitsSigned}
use Rattle.std.specs.Int.{w64}
use Rattle.std.proofs.lemmas.Int.{to_z-of_z, fits_signed_mul}
use Rattle.lin_prop.proofs.scaled.times.Goals as goal

pub returns : goal.returns
returns c =
    let f : FitsSigned w64 (c.args.size *ℤ c.args.width) = fits_signed_mul w64 c.args.size c.args.width 1000000 2000000 c.requires.size c.requires.width (search rules) in
    let a : FitsSigned w64 c.args.size = c.ranges.size in
    let b : FitsSigned w64 c.args.width = c.ranges.width in
    simp (to_z-of_z, a, b, f)
