-- The compulsory parts that aren't empty, gathered behind the used amounts.
use Rattle.std.proofs.Common.{◌≡◌, ℕ, ◌+◌, ◌<◌, ◌≤◌, List, [], ◌∷◌, ◌++◌, take, map, length, get_or, ℤ, pos, ◌≤ℤ◌, ◌⊎◌, refl, subst, sym, ap, ◌∙◌, arith, inl, inr}
use Rattle.std.specs.Prelude.{All, Contains}
use Rattle.std.proofs.lemmas.Int.{ints}
use Rattle.std.proofs.lemmas.Bool.{cases_lt}
use Rattle.std.proofs.lemmas.List.{length-map, length-append, map_more, append_assoc, append-nil, take_all, get_or_append_left}
use Rattle.std.proofs.lemmas.List.Elements.{All-push, Contains-get_or, Contains-append_left, Contains-push}
use Rattle.std.proofs.Math.Seq.{get_or-append_seam}
use Rattle.fzn_model.specs.declared.cumulative.CumTask.{CumTask}
use Rattle.fzn_model.specs.declared.cumulative.Used.{Used}
use Rattle.fzn_model.specs.Limits.{TasksInLimits, UsedInLimits, of_call}
use Rattle.fzn_model.specs.Meaning.{amount_at}
use Rattle.fzn_model.proofs.Moments.{part, amount_append}
use Rattle.dom_store.specs.Strength.{part_of}
use Rattle.cumul_prop.specs.Parts.{all_parts, IsPart, AreParts, IsGathered, IsKept}

pub used_parts : (us : List Used) → UsedInLimits of_call us → All IsPart us
used_parts us kept k d h = record {
  amount = (kept.amounts k d h).0;
  small = (kept.amounts k d h).1;
  from = (kept.moments k d h).0;
  to = (kept.moments k d h).1;
}

pub parts_kept : (n : ℕ) (box : List (List ℤ)) (ks : List CumTask) (us kept : List Used) → TasksInLimits n ks → UsedInLimits of_call us → IsKept us (all_parts box ks us) kept → All IsPart kept → AreParts kept
parts_kept n box ks us kept tasks used are each = record {
  count = omega (arith, are.few, length-append us (map (part_of box) ks), length-map ks (part_of box), tasks.count, used.count);
  each = each;
}

-- an amount that ends where it begins, or before, is never used
pub part_empty : (u : Used) (t : ℤ) → u.to ≤ℤ u.from → part u t ≡ pos 0
part_empty u t empty = grind (arith, ints)

pub kept_none : (us : List Used) → IsKept us (us ++ []) us
kept_none us = record {
  amounts = λ t. ap (λ (xs : List Used). amount_at xs t) (sym (append-nil us));
  room = omega arith;
  few = omega (arith, length-append us []);
  front = λ k d h. refl;
  each = λ k d h. inl (subst (λ (xs : List Used). Contains us (get_or xs k d)) (sym (append-nil us)) (Contains-get_or us k d (omega (arith, h, length-append us []))));
}

-- one amount more
module _ (us all old : List Used) (u : Used) (before : IsKept us all old) where
  module _ (new : List Used) (more : (v : Used) → Contains old v → Contains new v) (last : Contains new u ⊎ (u.to ≤ℤ u.from)) where
    each_more : (k : ℕ) (d : Used) → k < length (all ++ u ∷ []) → Contains new (get_or (all ++ u ∷ []) k d) ⊎ ((get_or (all ++ u ∷ []) k d).to ≤ℤ (get_or (all ++ u ∷ []) k d).from)
    each_more k d h = elim (cases_lt k (length all)) [
      | inl less ↦ subst (λ (v : Used). Contains new v ⊎ (v.to ≤ℤ v.from)) (sym (get_or_append_left all (u ∷ []) d k less)) (elim (before.each k d less) [
        | inl has ↦ inl (more (get_or all k d) has)
        | inr empty ↦ inr empty
      ])
      | inr most ↦
          let at : k ≡ length all = omega (arith, h, most, length-append all (u ∷ [])) in
          let same : get_or (all ++ u ∷ []) k d ≡ u = ap (λ i. get_or (all ++ u ∷ []) i d) at ∙ get_or-append_seam all u [] d in
          subst (λ (v : Used). Contains new v ⊎ (v.to ≤ℤ v.from)) (sym same) last
    ]

  kept_push : IsKept us (all ++ u ∷ []) (old ++ u ∷ [])
  kept_push = record {
    amounts = λ t. let first = amount_append old (u ∷ []) t in let second = amount_append all (u ∷ []) t in let same = before.amounts t in omega (arith, ints, first, second, same);
    room = omega (arith, before.room, length-append old (u ∷ []));
    few = omega (arith, before.few, length-append old (u ∷ []), length-append all (u ∷ []));
    front = λ k d h. get_or_append_left old (u ∷ []) d k (omega (arith, h, before.room)) ∙ before.front k d h;
    each = each_more (old ++ u ∷ []) (λ v has. Contains-append_left old (u ∷ []) v has) (inl (Contains-push old u));
  }

  kept_pass : u.to ≤ℤ u.from → IsKept us (all ++ u ∷ []) old
  kept_pass empty = record {
    amounts = λ t. let none : part u t ≡ pos 0 = part_empty u t empty in let second = amount_append all (u ∷ []) t in let same = before.amounts t in omega (arith, ints, none, second, same);
    room = before.room;
    few = omega (arith, before.few, length-append all (u ∷ []));
    front = before.front;
    each = each_more old (λ v has. has) (inr empty);
  }

  kept_more : (new : List Used) → IsGathered u old new → IsKept us (all ++ u ∷ []) new
  kept_more new (inl is) = subst (IsKept us (all ++ u ∷ [])) (sym is) kept_push
  kept_more new (inr (empty, is)) = subst (IsKept us (all ++ u ∷ [])) (sym is) (kept_pass empty)

pub each_gathered : (u : Used) (old new : List Used) → All IsPart old → IsPart u → IsGathered u old new → All IsPart new
each_gathered u old new before here (inl is) = subst (All IsPart) (sym is) (All-push IsPart old u before here)
each_gathered u old new before here (inr (empty, is)) = subst (All IsPart) (sym is) before

-- one task more
pub kept_task : (box : List (List ℤ)) (us : List Used) (ks : List CumTask) (old new : List Used) (u : Used) (i : ℕ) (d : CumTask) → i < length ks → u ≡ part_of box (get_or ks i d) → IsKept us (us ++ map (part_of box) (take i ks)) old → IsGathered u old new
    → IsKept us (us ++ map (part_of box) (take (i + 1) ks)) new
kept_task box us ks old new u i d h is before gathered =
    let more = map_more (part_of box) ks i d h in
    let same : (us ++ map (part_of box) (take i ks)) ++ u ∷ [] ≡ us ++ map (part_of box) (take (i + 1) ks) =
    append_assoc us (map (part_of box) (take i ks)) (u ∷ []) ∙ ap (λ (xs : List Used). us ++ xs) (ap (λ (v : Used). map (part_of box) (take i ks) ++ v ∷ []) is ∙ sym more) in
    subst (λ (all : List Used). IsKept us all new) same (kept_more us (us ++ map (part_of box) (take i ks)) old u before new gathered)

pub kept_all : (box : List (List ℤ)) (us : List Used) (ks : List CumTask) (kept : List Used) (n : ℕ) → length ks ≤ n → IsKept us (us ++ map (part_of box) (take n ks)) kept → IsKept us (all_parts box ks us) kept
kept_all box us ks kept n far are = subst (λ (xs : List CumTask). IsKept us (us ++ map (part_of box) xs) kept) (take_all n ks far) are
