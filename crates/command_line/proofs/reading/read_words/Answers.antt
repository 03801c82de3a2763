use Rattle.std.proofs.Common.{rules, ◌≡◌, ◌∙◌, ap, map}
use Rattle.std.specs.Prelude.{string_bytes}
use Rattle.clap.specs.Words.{app_of, found_of, rows_of}
use Rattle.command_line.specs.Lines.{line}
use Rattle.command_line.proofs.Lines.{line_taken, line_refused, within}
use Rattle.command_line.proofs.reading.read_words.Goals as goal

pub returns-in-Ok : goal.returns-in-Ok
returns-in-Ok c =
    let is = c.line_from.ensures ∙ line_taken (app_of c.in_ok-command.field-0) (map string_bytes c.as_slice.result.now) (rows_of (found_of c.in-Ok.matches)) c.in_ok-command.ensures c.in-Ok.ensures.kinds (λ s. (c.in-Ok.ensures.matches s).0) ∙ ap line c.as_slice.ensures in
    record { line = is; limits = within c.line_from.result c.args.words.now is }

pub returns : goal.returns
returns c =
    let is = line_refused (app_of c.in_ok-command.field-0) (map string_bytes c.as_slice.result.now) c.in-Err-2.field-0 c.in_ok-command.ensures c.in-Err-2.ensures.kinds (search rules) ∙ ap line c.as_slice.ensures in
    record { line = is; limits = tt }
