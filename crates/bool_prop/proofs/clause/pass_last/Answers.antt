use Rattle.std.proofs.Common.{rules, sym, ◌∙◌, FitsSigned}
use Rattle.std.specs.Int.{w64}
use Rattle.std.proofs.lemmas.Int.{to_z-of_z}
use Rattle.std.proofs.lemmas.Bool.{false≢true}
use Rattle.dom_store.specs.Strength.{HasTrue}
use Rattle.dom_store.specs.Bases.{clause_of}
use Rattle.bool_prop.proofs.Clauses.{last_fixed}
use Rattle.bool_prop.proofs.clause.pass_last.Goals as goal

pub returns : goal.returns
returns c =
    let fits : FitsSigned w64 c.args.value = search rules in
    let none : HasTrue c.args.store.now.box (clause_of c.args.pos.now c.args.neg.now) → ⊥ = λ some. false≢true (sym c.if-has_true.false ∙ c.has_true.ensures.1 some) in
    last_fixed (clause_of c.args.pos.now c.args.neg.now) c.args.term c.args.value c.args.store.now c.fix.new.store c.fix.result c.requires.well_formed c.requires.kept c.requires.last none (simp to_z-of_z at c.fix.ensures.narrows)
