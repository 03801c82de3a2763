use Rattle.std.proofs.Common.{◌≡◌, take}
use Rattle.std.specs.Prelude.{filter}
use Rattle.fzn_model.specs.Bounds.{is_open}
use Rattle.rest_basic.proofs.view.open_terms_in.Given as goal

abbrev pub invariant-loop-term : goal.invariant-loop-term
invariant-loop-term g l = l.left ≡ filter (is_open (g.V.BoxView.shape l.view)) (take l.term-index l.terms)
