use Rattle.std.proofs.Common.{rules, refl, FitsSigned}
use Rattle.std.specs.Int.{w64}
use Rattle.std.proofs.lemmas.Int.{to_z-of_z}
use Rattle.element_prop.proofs.Limiting.{limits_run, limits_none}
use Rattle.element_prop.proofs.Ending.{member_bounded, joined_from}
use Rattle.element_prop.proofs.ends.bound_member.Goals as goal

pub returns-clause-prunes : goal.returns-clause-prunes
returns-clause-prunes c =
    let f : FitsSigned w64 c.least-low.result = search rules in
    let g : FitsSigned w64 c.greatest-high.result = search rules in
    let bounded = member_bounded _ _ _ _ c.first_place.result _ _ c.requires.ready (c.if-is_open.ensures.fixed refl) c.first_place.ensures.place.inside c.first_place.ensures.value c.least-low.ensures.value c.greatest-high.ensures.value in
    limits_run _ _ _ _ _ _ _ _ bounded (simp to_z-of_z at c.limit.ensures.prunes)

pub returns-clause-none : goal.returns-clause-none
returns-clause-none c = λ e.
    let f : FitsSigned w64 c.least-low.result = search rules in
    let g : FitsSigned w64 c.greatest-high.result = search rules in
    let bounded = member_bounded _ _ _ _ c.first_place.result _ _ c.requires.ready (c.if-is_open.ensures.fixed refl) c.first_place.ensures.place.inside c.first_place.ensures.value c.least-low.ensures.value c.greatest-high.ensures.value in
    limits_none _ _ _ _ _ _ _ bounded ((simp to_z-of_z at c.limit.ensures.none) e)

pub returns-clause-joined : goal.returns-clause-joined
returns-clause-joined c = λ done same.
    let f : FitsSigned w64 c.least-low.result = search rules in
    let g : FitsSigned w64 c.greatest-high.result = search rules in
    joined_from _ _ _ _ _ c.first_place.result _ _ c.first_place.ensures.value c.least-low.ensures.value c.greatest-high.ensures.value ((simp to_z-of_z at c.limit.ensures.low) done) ((simp to_z-of_z at c.limit.ensures.high) done) same
