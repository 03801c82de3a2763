use Rattle.std.proofs.Common.{length}
use Rattle.fzn_reader.proofs.search_variables.named_vars.Goals as goal

pub returns-clause-kept : goal.returns-clause-kept
returns-clause-kept c = c.in_ok-vars.ensures.kept (length c.args.draft.now.doms) (c.in-Some-array_terms.ensures.kept c.args.draft.now.doms c.in-Some.ensures.kept)
