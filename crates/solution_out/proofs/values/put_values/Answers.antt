use Rattle.std.proofs.Common.{subst, sym, List, ℕ}
use Rattle.solution_out.proofs.Writing.{wrote_then, values_next}
use Rattle.solution_out.specs.Writes.{Wrote}
use Rattle.solution_out.proofs.values.put_values.Goals as goal

pub returns-in_ok-put_term-in-len1-up-clause-text : goal.returns-in_ok-put_term-in-len1-up-clause-text
returns-in_ok-put_term-in-len1-up-clause-text g c =
    subst (λ (t : List ℕ). Wrote (g.O.Sink.written c.args.out.now) (g.O.Sink.written c.put_next_terms.new.out) t c.put_next_terms.result)
    (sym (values_next c.args.truth c.args.values.now c.args.terms.now _ c.in-len1-up.len_at_least))
    (wrote_then _ _ _ _ _ _ c.in_ok-put_term-in-len1-up.ensures.text c.put_next_terms.ensures.text)
