use Rattle.std.proofs.Common.{rules, FitsSigned}
use Rattle.std.specs.Int.{w64}
use Rattle.std.proofs.lemmas.Int.{to_z-of_z}
use Rattle.element_prop.proofs.Limiting.{limits_run, limits_none}
use Rattle.element_prop.proofs.Ending.{chosen_bounded, within_from}
use Rattle.element_prop.proofs.ends.bound_chosen.Goals as goal

pub returns-clause-prunes : goal.returns-clause-prunes
returns-clause-prunes c =
    let f : FitsSigned w64 c.least-low.result = search rules in
    let g : FitsSigned w64 c.greatest-high.result = search rules in
    let bounded = chosen_bounded _ _ _ _ _ _ _ _ c.requires.ready c.least-low.ensures.value c.greatest-high.ensures.value c.ends_of-ends.ensures.least c.ends_of-ends.ensures.most in
    limits_run _ _ _ _ _ _ _ _ bounded (simp to_z-of_z at c.limit.ensures.prunes)

pub returns-clause-none : goal.returns-clause-none
returns-clause-none c = λ e.
    let f : FitsSigned w64 c.least-low.result = search rules in
    let g : FitsSigned w64 c.greatest-high.result = search rules in
    let bounded = chosen_bounded _ _ _ _ _ _ _ _ c.requires.ready c.least-low.ensures.value c.greatest-high.ensures.value c.ends_of-ends.ensures.least c.ends_of-ends.ensures.most in
    limits_none _ _ _ _ _ _ _ bounded ((simp to_z-of_z at c.limit.ensures.none) e)

pub returns-clause-within : goal.returns-clause-within
returns-clause-within c = λ done same.
    let f : FitsSigned w64 c.least-low.result = search rules in
    let g : FitsSigned w64 c.greatest-high.result = search rules in
    within_from _ _ _ _ _ _ _ _ _ c.ends_of-ends.ensures.low c.ends_of-ends.ensures.high c.least-low.ensures.value c.greatest-high.ensures.value ((simp to_z-of_z at c.limit.ensures.low) done) ((simp to_z-of_z at c.limit.ensures.high) done) same
