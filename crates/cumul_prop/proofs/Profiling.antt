-- What is used at the moments where amounts begin and end.
use Rattle.std.proofs.Common.{◌≡◌, ℕ, ◌+◌, ◌<◌, List, [], map, length, get_or, ℤ, ◌<ℤ◌, subst, sym, ◌∙◌, ap, arith, inl, inr}
use Rattle.std.specs.Prelude.{All}
use Rattle.std.proofs.lemmas.Int.{ints}
use Rattle.std.proofs.lemmas.Bool.{cases_lt}
use Rattle.std.proofs.lemmas.List.{get_or_default, length-map, length-append, get_or-map, get_or-append-add}
use Rattle.std.proofs.lemmas.List.Elements.{All-nil}
use Rattle.fzn_model.specs.declared.cumulative.CumTask.{CumTask}
use Rattle.fzn_model.specs.declared.cumulative.Used.{Used}
use Rattle.dom_store.specs.Strength.{part_of, IsMoment}
use Rattle.cumul_prop.specs.Parts.{AreParts, IsUseAt, HasMoment, IsProfileTo, IsKept, IsProfile, all_parts}

pub profile_none : (all : List Used) → IsProfileTo all 0 0 []
profile_none all = record { each = All-nil (IsUseAt all); from = λ k d h. absurd (omega (arith, h)); to = λ k d h. absurd (omega (arith, h)) }

module _ (all : List Used) (old new : List (ℤ × ℤ)) (each : All (IsUseAt all) new) (keeps : (t : ℤ) → HasMoment old t → HasMoment new t) where
  -- the moments of the amounts before one, and that of that one
  moments_more : (end : Used → ℤ) (n : ℕ) (d : Used) → n < length all → ((k : ℕ) (d : Used) → k < n → HasMoment old (end (get_or all k d))) → HasMoment new (end (get_or all n d)) → (k : ℕ) (e : Used) → k < n + 1 → HasMoment new (end (get_or all k e))
  moments_more end n d inside before here k e h = elim (cases_lt k n) [
    | inl less ↦ keeps _ (before k e less)
    | inr last ↦
        let at : k ≡ n = omega (arith, h, last) in
        let same : get_or all k e ≡ get_or all n d = ap (λ i. get_or all i e) at ∙ get_or_default all n e d inside in
        subst (λ (u : Used). HasMoment new (end u)) (sym same) here
  ]

  pub begins_more : (n : ℕ) (d : Used) → n < length all → IsProfileTo all n 0 old → HasMoment new (get_or all n d).from → IsProfileTo all (n + 1) 0 new
  begins_more n d inside before here = record {
    each = each;
    from = moments_more (λ u. u.from) n d inside before.from here;
    to = λ k e h. absurd (omega (arith, h));
  }

  pub ends_more : (n m : ℕ) (d : Used) → m < length all → IsProfileTo all n m old → HasMoment new (get_or all m d).to → IsProfileTo all n (m + 1) new
  ends_more n m d inside before here = record {
    each = each;
    from = λ k e h. keeps _ (before.from k e h);
    to = moments_more (λ u. u.to) m d inside before.to here;
  }

-- ---- the moments of a box
module _ (box : List (List ℤ)) (ks : List CumTask) (us kept : List Used) (profile : List (ℤ × ℤ)) (are : IsKept us (all_parts box ks us) kept) (whole : IsProfileTo kept (length kept) (length us) profile) where
  part_moment : (k : ℕ) (task : CumTask) → k < length ks → get_or ks k task ≡ task → (part_of box task).from <ℤ (part_of box task).to → HasMoment profile (part_of box task).from
  part_moment k task h is some =
      let u : Used = part_of box task in
      let inside : length us + k < length (all_parts box ks us) = omega (arith, h, length-append us (map (part_of box) ks), length-map ks (part_of box)) in
      let same : get_or (all_parts box ks us) (length us + k) u ≡ u = get_or-append-add us (map (part_of box) ks) k u ∙ get_or-map (part_of box) ks k task u h ∙ ap (part_of box) is in
      elim (are.each (length us + k) u inside) [
        | inl has ↦
            let at : get_or kept has.0 (get_or (all_parts box ks us) (length us + k) u) ≡ u = has.2 ∙ same in
            subst (λ (v : Used). HasMoment profile v.from) at (whole.from has.0 (get_or (all_parts box ks us) (length us + k) u) has.1)
        | inr empty ↦ absurd (omega (arith, ints, some, empty, ap (λ (v : Used). v.from) same, ap (λ (v : Used). v.to) same))
      ]

  moment_in : (t : ℤ) → IsMoment box ks us t → HasMoment profile t
  unfolding IsMoment
  moment_in t (inl (k, u, h, is, inl e)) = subst (HasMoment profile) (ap (λ (v : Used). v.from) (are.front k u h ∙ is) ∙ sym e) (whole.from k u (omega (arith, h, are.room)))
  moment_in t (inl (k, u, h, is, inr e)) = subst (HasMoment profile) (ap (λ (v : Used). v.to) (are.front k u h ∙ is) ∙ sym e) (whole.to k u h)
  moment_in t (inr (k, task, h, is, (e, some))) = subst (HasMoment profile) (sym e) (part_moment k task h is some)

pub profile_is : (box : List (List ℤ)) (ks : List CumTask) (us kept : List Used) (profile : List (ℤ × ℤ)) → AreParts kept → IsKept us (all_parts box ks us) kept → IsProfileTo kept (length kept) (length us) profile → IsProfile box ks us kept profile
profile_is box ks us kept profile parts are whole = record { parts = parts; kept = are; each = whole.each; moments = moment_in box ks us kept profile are whole }
