use Rattle.std.proofs.Common.{rules, FitsSigned}
use Rattle.std.specs.Int.{w64}
use Rattle.std.proofs.lemmas.Int.{to_z-of_z}
use Rattle.reif_prop.proofs.Members.{wide_left, each_off}
use Rattle.reif_prop.proofs.member.drop_each.Goals as goal

pub returns-then-is_wide : goal.returns-then-is_wide
returns-then-is_wide c = wide_left c.args.x c.args.run.now c.args.store.now c.is_wide.ensures.well_formed (c.is_wide.ensures.value.0 c.if-is_wide.true)

pub returns : goal.returns
returns c =
    let f : FitsSigned w64 c.first_from-first.result = search rules in
    let g : FitsSigned w64 c.end_by-end.result = search rules in
    each_off c.args.x c.args.run.now c.first_from-first.result c.end_by-end.result c.args.store.now c.drop_from.new.store c.drop_from.result c.is_wide.ensures.well_formed c.requires.term c.first_from-first.ensures.value c.end_by-end.ensures.value (simp to_z-of_z at c.drop_from.ensures)
