use Rattle.fzn_builtin.specs.Builtins.{needs_of}
use Rattle.fzn_reader.proofs.ArgLemmas.{built_fits}
use Rattle.fzn_reader.proofs.constraint.built.Goals as goal

pub returns-in-Ok-clause-kept : goal.returns-in-Ok-clause-kept
returns-in-Ok-clause-kept c = built_fits c.args.draft.now.doms (needs_of c.args.builtin) c.args.args.now c.args.used c.in-Ok.con c.requires.kept c.in-Ok.ensures.kept c.in-Ok.ensures.truths
