use Rattle.std.proofs.Common.{◌≡◌, drop}
use Rattle.std.specs.Prelude.{filter}
use Rattle.fzn_model.specs.Bounds.{is_open}
use Rattle.bool_prop.specs.Opens.{joined, opens}
use Rattle.bool_prop.proofs.clause.open_terms.Given as goal

abbrev pub invariant-loop-term : goal.invariant-loop-term
invariant-loop-term l = opens l.store.box l.terms ≡ joined l.found (filter (is_open l.store.box) (drop l.term-index l.terms))
