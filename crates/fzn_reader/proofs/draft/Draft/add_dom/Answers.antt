use Rattle.std.proofs.Common.{◌<◌, length, sym, subst}
use Rattle.fzn_reader.specs.Drafts.{Stated}
use Rattle.fzn_reader.proofs.DraftKept.{kept_dom}
use Rattle.fzn_reader.proofs.draft.Draft.add_dom.Goals as goal

pub invariant_of-self-2 : goal.invariant_of-self-2
invariant_of-self-2 c = rw c.in_ok-push.ensures.ok (kept_dom _ c.args.dom c.requires.kept (subst (λ (d : Stated). length d.doms < 100000) (sym c.self.view_is) c.requires.room) c.self.invariant)
