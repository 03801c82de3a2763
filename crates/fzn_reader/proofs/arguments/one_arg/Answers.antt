use Rattle.std.proofs.Common.{◌≡◌, length, Some}
use Rattle.std.specs.Prelude.{slice_get}
use Rattle.fzn_builtin.specs.Builtins.{needs_of}
use Rattle.fzn_reader.proofs.ArgLemmas.{args_push}
use Rattle.fzn_reader.proofs.arguments.one_arg.Goals as goal

pub returns-clause-kept : goal.returns-clause-kept
returns-clause-kept c =
    let e : slice_get (needs_of c.args.builtin) (length c.args.args.now) ≡ Some c.in-Some.need = cc in
    rw c.in_ok-push.ensures.ok (args_push c.args.draft.now.doms (needs_of c.args.builtin) c.args.args.now c.args.used.now c.in_ok-arg.count c.in-Some.need c.in_ok-arg.arg e c.in_ok-arg.ensures.kept c.in_ok-arg.ensures.used c.requires.kept)
