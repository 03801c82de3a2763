use Rattle.std.proofs.Common.{subst}
use Rattle.std.specs.Prelude.{IfSome}
use Rattle.fzn_reader.specs.Drafts.{Stated}
use Rattle.fzn_reader.specs.Invariants.{DeclKept}
use Rattle.fzn_reader.proofs.DraftKept.{found_kept}
use Rattle.fzn_reader.proofs.draft.Draft.find.Goals as goal

pub returns-clause-kept : goal.returns-clause-kept
returns-clause-kept c = subst (λ (d : Stated). IfSome c.find.result (λ e. DeclKept d.doms e.now)) c.self.view_is (found_kept c.self.inside.doms c.self.inside.names c.args.name.now c.find.result c.self.invariant.names c.find.ensures)
