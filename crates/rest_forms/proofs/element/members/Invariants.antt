use Rattle.std.proofs.Common.{◌≡◌, suc, ◌++◌, drop}
use Rattle.rest_forms.specs.Forms.{members_from}
use Rattle.rest_forms.proofs.element.members.Given as goal

abbrev pub invariant-loop-at : goal.invariant-loop-at
invariant-loop-at g l = l.left.items ++ members_from (g.V.BoxView.shape l.view) l.i (suc l.at) (drop l.at l.xs) ≡ members_from (g.V.BoxView.shape l.view) l.i 1 l.xs
