use Rattle.std.proofs.Common.{List, subst, sym}
use Rattle.std.specs.Prelude.{All}
use Rattle.std.proofs.lemmas.List.Elements.{All-push}
use Rattle.fzn_model.specs.declared.con.Con.{Con}
use Rattle.fzn_model.specs.Limits.{ConTruths}
use Rattle.prop_tests.proofs.tests.turned.add_turned.Goals as goal

pub returns-clause-truths : goal.returns-clause-truths
returns-clause-truths c = subst (λ (cons : List Con). All (ConTruths c.args.domains.now) cons) (sym c.in_ok-push.ensures.ok) (All-push (ConTruths c.args.domains.now) _ _ c.requires.truths c.in_ok-con.ensures.truths)
