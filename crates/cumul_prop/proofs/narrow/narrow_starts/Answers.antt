use Rattle.std.proofs.Common.{List, length, ℤ, sym, subst, ◌∙◌}
use Rattle.fzn_model.specs.declared.cumulative.Used.{Used}
use Rattle.cumul_prop.specs.Parts.{AreParts, IsKept, IsProfileTo, IsProfile, all_parts}
use Rattle.cumul_prop.proofs.Profiling.{profile_is}
use Rattle.cumul_prop.proofs.narrow.narrow_starts.Goals as goal

pub narrow_by-requires-clause-profile : goal.narrow_by-requires-clause-profile
narrow_by-requires-clause-profile c =
    let box = c.args.store.now.box in
    let ks = c.args.tasks.now in
    let us = c.args.used.now in
    let all = c.as_slice-2.result.now in
    let profile = c.put_profile.new.profile.items in
    subst (λ (p : List (ℤ × ℤ)). IsProfile box ks us all p) (sym c.as_slice-3.ensures.value)
    (profile_is box ks us all profile
    (subst AreParts (sym c.as_slice-2.ensures.value) c.in_ok-put_parts.ensures.parts)
    (subst (λ (xs : List Used). IsKept us (all_parts box ks us) xs) (sym c.as_slice-2.ensures.value) c.in_ok-put_parts.ensures.kept)
    (subst (λ (xs : List Used). IsProfileTo xs (length xs) (length us) profile) (c.as_slice.ensures.value ∙ sym c.as_slice-2.ensures.value) c.in_ok-put_profile.ensures))
