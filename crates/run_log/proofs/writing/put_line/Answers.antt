use Rattle.std.specs.Prelude.{option_copied}
use Rattle.run_log.specs.Texts.{Line}
use Rattle.run_log.proofs.Lines.{name_put, numbers_put, words_put, values_put, end_put, front_fault, name_fault, numbers_fault, words_fault, values_fault}
use Rattle.run_log.proofs.writing.put_line.Goals as goal

pub returns-in_err-put-clause-text : goal.returns-in_err-put-clause-text
returns-in_err-put-clause-text g c =
    let line : Line = record { line = c.args.line.now; rest = option_copied c.args.rest; values = c.args.values.now } in
    front_fault _ _ line _ _ c.from_residual.ensures.0 c.in_err-put.ensures.text

pub returns-in_err-put-2-clause-text : goal.returns-in_err-put-2-clause-text
returns-in_err-put-2-clause-text g c =
    let line : Line = record { line = c.args.line.now; rest = option_copied c.args.rest; values = c.args.values.now } in
    name_fault _ _ line _ _ c.from_residual-in_err-put-2.ensures.0
    (name_put _ _ _ line _ c.in_ok-put.ensures.text (rw c.name.ensures.name at c.in_err-put-2.ensures.text))

pub returns-in_err-put_line_numbers-clause-text : goal.returns-in_err-put_line_numbers-clause-text
returns-in_err-put_line_numbers-clause-text g c =
    let line : Line = record { line = c.args.line.now; rest = option_copied c.args.rest; values = c.args.values.now } in
    numbers_fault _ _ line _ _ c.from_residual-in_err-put_line_numbers.ensures.0
    (numbers_put _ _ _ line _ (name_put _ _ _ line _ c.in_ok-put.ensures.text (rw c.name.ensures.name at c.in_ok-put-2.ensures.text)) c.in_err-put_line_numbers.ensures.text)

pub returns-in_err-put_rest-clause-text : goal.returns-in_err-put_rest-clause-text
returns-in_err-put_rest-clause-text g c =
    let line : Line = record { line = c.args.line.now; rest = option_copied c.args.rest; values = c.args.values.now } in
    words_fault _ _ line _ _ c.from_residual-in_err-put_rest.ensures.0
    (words_put _ _ _ line _ (numbers_put _ _ _ line _ (name_put _ _ _ line _ c.in_ok-put.ensures.text (rw c.name.ensures.name at c.in_ok-put-2.ensures.text)) c.in_ok-put_line_numbers.ensures.text) c.in_err-put_rest.ensures.text)

pub returns-in_err-put_values-clause-text : goal.returns-in_err-put_values-clause-text
returns-in_err-put_values-clause-text g c =
    let line : Line = record { line = c.args.line.now; rest = option_copied c.args.rest; values = c.args.values.now } in
    values_fault _ _ line _ _ c.from_residual-in_err-put_values.ensures.0
    (values_put _ _ _ line _ (words_put _ _ _ line _ (numbers_put _ _ _ line _ (name_put _ _ _ line _ c.in_ok-put.ensures.text (rw c.name.ensures.name at c.in_ok-put-2.ensures.text)) c.in_ok-put_line_numbers.ensures.text) c.in_ok-put_rest.ensures.text) c.in_err-put_values.ensures.text)

pub returns-clause-text : goal.returns-clause-text
returns-clause-text g c =
    let line : Line = record { line = c.args.line.now; rest = option_copied c.args.rest; values = c.args.values.now } in
    end_put _ _ _ line _ (values_put _ _ _ line _ (words_put _ _ _ line _ (numbers_put _ _ _ line _ (name_put _ _ _ line _ c.in_ok-put.ensures.text (rw c.name.ensures.name at c.in_ok-put-2.ensures.text)) c.in_ok-put_line_numbers.ensures.text) c.in_ok-put_rest.ensures.text) c.in_ok-put_values.ensures.text) c.put-3.ensures.text
