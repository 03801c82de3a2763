use Rattle.std.proofs.Common.{rules, ◌≡◌, ◌∙◌, ap₂}
use Rattle.std.proofs.lemmas.Result.{IfOk-weaker}
use Rattle.clap.specs.Words.{app_of, with_rule}
use Rattle.command_line.specs.Lines.{command}
use Rattle.command_line.proofs.command.command.Goals as goal

pub returns : goal.returns
returns c =
    let workers = c.in_ok-with_workers.ensures ∙ ap₂ with_rule c.bare.ensures c.short.ensures.rule in
    let stats = c.in_ok-with_stats.ensures ∙ ap₂ with_rule workers c.short_flag.ensures.rule in
    let cache = c.in_ok-with_cache.ensures ∙ ap₂ with_rule stats c.value.ensures.rule in
    let key_words = c.in_ok-with_key_words.ensures ∙ ap₂ with_rule cache c.value-2.ensures.rule in
    let nodes = c.in_ok-with_nodes.ensures ∙ ap₂ with_rule key_words c.value-3.ensures.rule in
    let log = c.in_ok-with_log.ensures ∙ ap₂ with_rule nodes c.flag.ensures.rule in
    let make = c.in_ok-with_make.ensures ∙ ap₂ with_rule log c.value-4.ensures.rule in
    IfOk-weaker c.with-8.result _ _ (λ x h. h ∙ ap₂ with_rule make c.new.ensures.rule) c.with-8.ensures
