use Rattle.std.proofs.Common.{◌+◌, ◌∷◌, ◌++◌, [], arith, sym, ap, subst, List, ℕ, length}
use Rattle.std.specs.Prelude.{Option}
use Rattle.run_log.specs.declared.entry.LogEntry.{LogEntry}
use Rattle.run_log.specs.Steps.{Finds, HasText}
use Rattle.std.proofs.lemmas.Bool.Decides.{nat_tests}
use Rattle.run_log.proofs.Parts.{split_is}
use Rattle.run_log.proofs.LogTexts.{Reached, log_more, log_bad}
use Rattle.run_log.proofs.reading.read_log.Goals as goal

pub returns-in_default-clause-fault : goal.returns-in_default-clause-fault
returns-in_default-clause-fault c =
    let s = split_is 10 c.loop-rest.rest.now c.split_at.result.0.now c.split_at.result.1.now _ c.split_at.ensures.front c.split_at.ensures.back c.count_before.ensures.splits in
    let none = subst (λ (o : Option LogEntry). Finds (HasText c.split_at.result.0.now) o) c.in_default.is c.in_ok-entry.ensures in
    log_bad c.args.bytes.now c.loop-rest.entries c.loop-rest.rest.now c.split_at.result.0.now c.split_at.result.1.now _ c.loop-rest.invariant (grind (arith, nat_tests)) s none (ap (λ (es : List LogEntry). length es + 1) c.as_slice.ensures)

pub loop-rest-preserved : goal.loop-rest-preserved
loop-rest-preserved c =
    let s = split_is 10 c.loop-rest.rest.now c.split_at.result.0.now c.split_at.result.1.now _ c.split_at.ensures.front c.split_at.ensures.back c.count_before.ensures.splits in
    let h : HasText c.split_at.result.0.now c.in-Some.entry = subst (λ (o : Option LogEntry). Finds (HasText c.split_at.result.0.now) o) c.in-Some.is c.in_ok-entry.ensures in
    let more = log_more c.args.bytes.now c.loop-rest.entries c.loop-rest.rest.now c.split_at.result.0.now c.split_at.result.1.now c.in-Some.entry c.loop-rest.invariant (grind (arith, nat_tests)) s h in
    subst (λ (es : List LogEntry). Reached c.args.bytes.now es c.without_first-rest.result.now) (sym c.in_ok-push.ensures.ok) (subst (λ (t : List ℕ). Reached c.args.bytes.now (c.loop-rest.entries ++ c.in-Some.entry ∷ []) t) (sym c.without_first-rest.ensures) more)
