use Rattle.std.proofs.Common.{arith}
use Rattle.std.specs.Prelude.{◌≤ℤ◌}
use Rattle.std.proofs.lemmas.Int.{ints}
use Rattle.fzn_model.proofs.Terms.{low_to_high}
use Rattle.table_prop.proofs.among.span_of.Goals as goal

pub overflow_cast-result : goal.overflow_cast-result
overflow_cast-result c =
    let up = low_to_high c.args.store.now.box c.args.term c.least.ensures.well_formed c.requires in
    let order : c.least.result ≤ℤ c.greatest.result = omega (arith, ints, up, c.least.ensures.value, c.greatest.ensures.value) in
    omega (arith, ints)

pub returns : goal.returns
returns c =
    let up = low_to_high c.args.store.now.box c.args.term c.least.ensures.well_formed c.requires in
    let order : c.least.result ≤ℤ c.greatest.result = omega (arith, ints, up, c.least.ensures.value, c.greatest.ensures.value) in
    omega (arith, ints)
