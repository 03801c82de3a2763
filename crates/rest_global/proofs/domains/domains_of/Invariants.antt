use Rattle.std.proofs.Common.{◌≡◌, take, map}
use Rattle.fzn_model.specs.Boxes.{domain_at}
use Rattle.fzn_model.specs.Grouping.{runs_of}
use Rattle.rest_global.proofs.domains.domains_of.Given as goal

abbrev pub invariant-loop-var : goal.invariant-loop-var
invariant-loop-var g l = l.domains.items ≡ map (λ var. runs_of (domain_at (g.V.BoxView.shape l.view) var)) (take l.var-index l.variables)
