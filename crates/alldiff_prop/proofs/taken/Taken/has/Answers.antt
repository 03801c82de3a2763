use Rattle.std.proofs.Common.{sym, ◌∙◌}
use Rattle.std.proofs.lemmas.Bool.{eqb-true, eq-eqb}
use Rattle.alldiff_prop.proofs.Free.{none_free, taken_none}
use Rattle.alldiff_prop.proofs.taken.Taken.has.Goals as goal

pub returns : goal.returns
returns c = (
  (λ yes. none_free c.args.self.now c.args.number.now (sym c.free_between.ensures ∙ eqb-true c.free_between.result 0 yes)),
  (λ taken. eq-eqb c.free_between.result 0 (c.free_between.ensures ∙ taken_none c.args.self.now c.args.number.now taken)),
)
