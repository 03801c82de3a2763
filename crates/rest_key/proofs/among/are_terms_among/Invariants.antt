use Rattle.std.proofs.Common.{ℕ, ◌<◌, get_or}
use Rattle.fzn_model.specs.declared.term.Term.{Term}
use Rattle.rest_key.specs.Weaker.{IsAmong}
use Rattle.rest_key.proofs.among.are_terms_among.Given as goal

abbrev pub invariant-loop-term : goal.invariant-loop-term
invariant-loop-term l = (k : ℕ) (d : Term) → k < l.term-index → IsAmong l.others (get_or l.terms k d)
