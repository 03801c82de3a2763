-- A solution has as many values as the model has variables.
use Rattle.std.specs.Prelude.{◌≡◌, List, length, ℤ}
use Rattle.std.proofs.Common.{sym}
use Rattle.fzn_model.specs.Parts.{Parts}
use Rattle.fzn_model.specs.Solutions.{InDomains, Solves}

pub solves_length : (m : Parts) (θ : List ℤ) → Solves m θ → length θ ≡ length m.doms
unfolding InDomains
solves_length m θ s = sym s.domains.0
