use Rattle.std.proofs.Common.{rules, FitsSigned}
use Rattle.std.specs.Int.{w64}
use Rattle.std.proofs.lemmas.Int.{to_z-of_z}
use Rattle.dom_store.specs.Bases.{member_of}
use Rattle.bool_prop.proofs.Members.{bound_cut, none_near}
use Rattle.bool_prop.proofs.member.cut_to_near.Goals as goal

pub returns-in-Some : goal.returns-in-Some
returns-in-Some c =
    let f : FitsSigned w64 c.bound-number.result = search rules in
    let g : FitsSigned w64 c.in-Some.near = search rules in
    bound_cut c.args.extreme (member_of c.args.x c.args.set.now) c.args.store.now c.cut.new.store c.bound-number.result c.in-Some.near c.cut.result c.bound-number.ensures.well_formed c.requires.term c.bound-number.ensures.value (simp to_z-of_z at c.in-Some.ensures.some) (simp to_z-of_z at c.cut.ensures.narrows)

pub returns-in-None : goal.returns-in-None
returns-in-None c =
    let f : FitsSigned w64 c.bound-number.result = search rules in
    none_near c.args.extreme (member_of c.args.x c.args.set.now) c.args.store.now c.bound-number.result c.bound-number.ensures.well_formed c.requires.term c.bound-number.ensures.value (simp to_z-of_z at c.in-None.ensures.none)
