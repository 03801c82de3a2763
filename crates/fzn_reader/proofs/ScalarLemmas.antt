-- What a declaration gives for a place is of the type needed.
use Rattle.std.proofs.Common.{List, ℤ}
use Rattle.std.specs.Prelude.{IfSome}
use Rattle.fzn_model.specs.declared.term.Term.TheVariants.{Const, Var}
use Rattle.fzn_reader.specs.declared.decl.Decl.{Decl}
use Rattle.fzn_reader.specs.declared.decl.Decl.TheVariants as decl
use Rattle.fzn_reader.specs.declared.scalar.Scalar.{Scalar}
use Rattle.fzn_reader.specs.declared.scalar.Scalar.TheVariants.{IntConst, IntTerm, BoolConst, BoolTerm}
use Rattle.fzn_reader.specs.Scalars.{fitting_term}
use Rattle.fzn_reader.specs.Invariants.{DeclKept, ScalarKept}

pub fitting_kept : (s : Scalar) (e : Decl) (ds : List (List (ℤ × ℤ))) → DeclKept ds e → IfSome (fitting_term s e) (ScalarKept ds s)
fitting_kept IntConst (decl.Int (Const z)) ds p = record { within = p; fits = tt }
fitting_kept IntConst (decl.Int (Var k)) ds p = tt
fitting_kept IntTerm (decl.Int t) ds p = record { within = p; fits = tt }
fitting_kept BoolConst (decl.Bool (Const z)) ds p = record { within = p.within; fits = (tt, p.truth) }
fitting_kept BoolConst (decl.Bool (Var k)) ds p = tt
fitting_kept BoolTerm (decl.Bool t) ds p = record { within = p.within; fits = p.truth }
fitting_kept s e ds p = tt
