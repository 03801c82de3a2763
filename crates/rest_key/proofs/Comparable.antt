-- All that a residual problem keeps can be compared.
use Rattle.std.proofs.Common.{ℕ, List, get_or}
use Rattle.std.specs.Prelude.{All}
use Rattle.fzn_model.specs.declared.term.Term.{Term}
use Rattle.fzn_model.specs.declared.term.Term.TheVariants as term
use Rattle.fzn_model.specs.declared.con.Con.{Con}
use Rattle.fzn_model.specs.declared.con.Con.TheVariants as con
use Rattle.fzn_model.specs.Limits.{TermIn, ConInLimits, of_call}
use Rattle.rest_key.specs.Comparing.{CapacityKept, CanCompare}

capacity_kept : (n : ℕ) (t : Term) → TermIn n t → CapacityKept t
capacity_kept n (term.Const z) k = k
capacity_kept n (term.Var v) k = tt

pub kept_compares : (n : ℕ) (c : Con) → ConInLimits of_call n c → CanCompare c
kept_compares n (con.CumulUsed tasks used b) k = (k.1, capacity_kept n b k.2)
kept_compares n (con.Table xs rows) k = k.columns.some
kept_compares n c k = tt

pub can_compare : (n : ℕ) (cs : List Con) → All (ConInLimits of_call n) cs → All CanCompare cs
can_compare n cs k i d h = kept_compares n (get_or cs i d) (k i d h)
