use Rattle.std.specs.Prelude.{◌∷◌, []}
use Rattle.rest_basic.specs.Forms.{term_values}
use Rattle.rest_basic.specs.Gathered.{Gathered}
use Rattle.rest_basic.proofs.runs.gather_values.Given as goal

abbrev pub invariant-loop-number : goal.invariant-loop-number
invariant-loop-number g l = Gathered (term_values (g.V.BoxView.shape l.view) l.x) (l.bounds ∷ []) l.number-counter l.runs.items
