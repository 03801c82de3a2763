-- Constraints from their parts.
use Rattle.fzn_model.specs.declared.clause.Clause.{Clause}
use Rattle.fzn_model.specs.declared.member.Member.{Member}
use Rattle.fzn_model.specs.declared.base.Base.TheVariants as base
use Rattle.fzn_model.specs.declared.con.Con.{Con}
use Rattle.fzn_model.specs.declared.con.Con.TheVariants as con
use Rattle.bool_prop.specs.declared.clause_prop.Kind.{Kind}
use Rattle.bool_prop.specs.declared.clause_prop.Kind.TheVariants as kind

abbrev pub clause_con : Clause → Con
clause_con c = con.Base (base.Clause c)

abbrev pub member_con : Member → Con
member_con m = con.Base (base.Member m)

abbrev pub con_of : Kind → Con
con_of (kind.Clause c) = clause_con c
con_of (kind.Member m) = member_con m
