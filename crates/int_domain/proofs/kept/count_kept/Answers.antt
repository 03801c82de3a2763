use Rattle.std.proofs.Common.{arith, ◌∙◌, sym, ap, length}
use Rattle.std.proofs.lemmas.Int.{ints}
use Rattle.int_domain.specs.Kept.{kept_between}
use Rattle.int_domain.proofs.Narrowed.{length_all_kept}
use Rattle.int_domain.proofs.kept.count_kept.Goals as goal

pub returns-in-None : goal.returns-in-None
returns-in-None c =
    length_all_kept c.args.low c.args.high c.numbers_between.result c.requires.ordered (omega (arith, ints)) ∙ ap (λ b. length (kept_between b c.args.low c.args.high)) (sym c.in-None.is)
