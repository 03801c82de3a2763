-- Bases from their parts.
use Rattle.std.specs.Prelude.{List, ℤ}
use Rattle.fzn_model.specs.declared.term.Term.{Term}
use Rattle.fzn_model.specs.declared.clause.Clause.{Clause}
use Rattle.fzn_model.specs.declared.member.Member.{Member}

abbrev pub clause_of : List Term → List Term → Clause
clause_of pos neg = record { pos = pos; neg = neg }

abbrev pub member_of : Term → List (ℤ × ℤ) → Member
member_of x set = record { x = x; set = set }
