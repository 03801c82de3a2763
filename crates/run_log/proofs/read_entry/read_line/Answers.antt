use Rattle.std.proofs.Common.{Some, None, sym, subst, List, ℤ}
use Rattle.std.specs.Prelude.{codes, Option}
use Rattle.std.proofs.lemmas.Bool.Decides.{Decides-eqb}
use Rattle.std.proofs.lemmas.Slice.Eq.{strip_prefix_is}
use Rattle.run_log.specs.Steps.{Finds, AreNumbers}
use Rattle.run_log.proofs.Parts.{split_is}
use Rattle.run_log.proofs.EntryTexts.{no_head, no_numbers, line_is_read}
use Rattle.run_log.proofs.read_entry.read_line.Goals as goal

pub returns-in_default : goal.returns-in_default
returns-in_default c = no_head c.args.line.now (strip_prefix_is Decides-eqb c.args.line.now (codes "%log ") None c.in_default.ensures.cases)

pub returns-in-None : goal.returns-in-None
returns-in-None c =
    let whole = strip_prefix_is Decides-eqb c.args.line.now (codes "%log ") (Some c.in-Some.text) c.in-Some.ensures.cases in
    let s = split_is 32 c.in-Some.text.now c.split_at.result.0.now c.split_at.result.1.now _ c.split_at.ensures.front c.split_at.ensures.back c.count_before.ensures.splits in
    no_numbers c.args.line.now c.in-Some.text.now c.split_at.result.0.now c.split_at.result.1.now whole s (subst (λ (o : Option (List ℤ)). Finds (AreNumbers c.split_at.result.1.now) o) c.in-None.is c.in_ok-numbers.ensures)

pub returns-in-Some-2 : goal.returns-in-Some-2
returns-in-Some-2 c =
    let whole = strip_prefix_is Decides-eqb c.args.line.now (codes "%log ") (Some c.in-Some.text) c.in-Some.ensures.cases in
    let s = split_is 32 c.in-Some.text.now c.split_at.result.0.now c.split_at.result.1.now _ c.split_at.ensures.front c.split_at.ensures.back c.count_before.ensures.splits in
    let n : AreNumbers c.split_at.result.1.now c.in-Some-2.numbers = subst (λ (o : Option (List ℤ)). Finds (AreNumbers c.split_at.result.1.now) o) c.in-Some-2.is c.in_ok-numbers.ensures in
    line_is_read c.args.line.now c.in-Some.text.now c.split_at.result.0.now c.split_at.result.1.now c.as_slice.result.now c.entry.result whole s (subst (AreNumbers c.split_at.result.1.now) (sym c.as_slice.ensures) n) c.entry.ensures
