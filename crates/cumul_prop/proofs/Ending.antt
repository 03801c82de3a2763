-- The amount that ends first of those that are used at a moment.
use Rattle.std.proofs.Common.{◌≡◌, ℕ, ◌+◌, ◌<◌, List, length, get_or, ℤ, pos, ◌+ℤ◌, ◌≤ℤ◌, ◌<ℤ◌, refl, sym, ap, ◌∙◌, subst, arith, inl, inr}
use Rattle.std.specs.Prelude.{Bool, true, false}
use Rattle.std.proofs.lemmas.Int.{ints, by_lt_z}
use Rattle.std.proofs.lemmas.Bool.{cases_lt, false≢true}
use Rattle.std.proofs.lemmas.List.{get_or_default}
use Rattle.fzn_model.specs.declared.cumulative.Used.{Used}
use Rattle.fzn_model.proofs.Moments.{part, active}
use Rattle.cumul_prop.specs.Parts.{AreParts}
use Rattle.cumul_prop.specs.Limits.{NoneUsed, IsFirstEnd, IsNext}

pub first_none : (all : List Used) (t : ℤ) → NoneUsed all t 0
unfolding NoneUsed
first_none all t j d h = absurd (omega arith)

-- one amount more
module _ (all : List Used) (t : ℤ) (n : ℕ) (here : Used) (inside : n < length all) where
  at_last : (j : ℕ) (d : Used) → j < n + 1 → (j < n → ⊥) → get_or all j d ≡ get_or all n here
  at_last j d h last = let at : j ≡ n = omega (arith, h, last) in ap (λ i. get_or all i d) at ∙ get_or_default all n d here inside

  -- it isn't used
  pub unused_none : NoneUsed all t n → active (get_or all n here) t ≡ false → NoneUsed all t (n + 1)
  unfolding NoneUsed
  unused_none before not j d h = elim (cases_lt j n) [
    | inl less ↦ before j d less
    | inr more ↦ subst (λ (u : Used). active u t ≡ false) (sym (at_last j d h (λ less. absurd (omega (arith, less, more))))) not
  ]

  pub used_none : NoneUsed all t n → active (get_or all n here) t ≡ true → IsFirstEnd all t (n + 1) n
  unfolding NoneUsed
  used_none before is = record {
    inside = inside;
    used = (λ d. subst (λ (u : Used). active u t ≡ true) (get_or_default all n here d inside) is);
    first = (λ j d e h on. elim (cases_lt j n) [
      | inl less ↦ absurd (false≢true (sym (before j d less) ∙ on))
      | inr more ↦
          let same : get_or all j d ≡ get_or all n here = at_last j d h (λ less. absurd (omega (arith, less, more))) in
          let own : get_or all n e ≡ get_or all n here = get_or_default all n e here inside in
          let ends : (get_or all n e).to ≡ (get_or all j d).to = ap (λ (u : Used). u.to) (own ∙ sym same) in
          omega (arith, ints, ends)
    ]);
  }

  pub kept_some : (k : ℕ) → IsFirstEnd all t n k → (active (get_or all n here) t ≡ true → (e : Used) → (get_or all k e).to ≤ℤ (get_or all n here).to) → IsFirstEnd all t (n + 1) k
  unfolding NoneUsed
  kept_some k before sooner = record {
    inside = before.inside;
    used = before.used;
    first = (λ j d e h on. elim (cases_lt j n) [
      | inl less ↦ before.first j d e less on
      | inr more ↦
          let same : get_or all j d ≡ get_or all n here = at_last j d h (λ less. absurd (omega (arith, less, more))) in
          let there = sooner (subst (λ (u : Used). active u t ≡ true) same on) e in
          let ends : (get_or all j d).to ≡ (get_or all n here).to = ap (λ (u : Used). u.to) same in
          omega (arith, ints, there, ends)
    ]);
  }

  pub kept_unused : (k : ℕ) → IsFirstEnd all t n k → active (get_or all n here) t ≡ false → IsFirstEnd all t (n + 1) k
  kept_unused k before not = kept_some k before (λ on e. absurd (false≢true (sym not ∙ on)))

  pub kept_later : (k : ℕ) (d : Used) → IsFirstEnd all t n k → ((get_or all n here).to <ℤ (get_or all k d).to → ⊥) → IsFirstEnd all t (n + 1) k
  kept_later k d before later = kept_some k before (λ on e.
      let same : (get_or all k e).to ≡ (get_or all k d).to = ap (λ (u : Used). u.to) (get_or_default all k e d before.inside) in
      by_lt_z (get_or all n here).to (get_or all k d).to (λ less. absurd (later less)) (λ more. omega (arith, ints, more, same)))

  pub taken_some : (k : ℕ) → IsFirstEnd all t n k → active (get_or all n here) t ≡ true → (o : Used) → (get_or all n here).to <ℤ (get_or all k o).to → IsFirstEnd all t (n + 1) n
  unfolding NoneUsed
  taken_some k before is o sooner = record {
    inside = inside;
    used = (λ d. subst (λ (u : Used). active u t ≡ true) (get_or_default all n here d inside) is);
    first = (λ j d e h on.
        let own : get_or all n e ≡ get_or all n here = get_or_default all n e here inside in
        let end : (get_or all n e).to ≡ (get_or all n here).to = ap (λ (u : Used). u.to) own in
        elim (cases_lt j n) [
          | inl less ↦ let later = before.first j d e less on in let same : (get_or all k e).to ≡ (get_or all k o).to = ap (λ (u : Used). u.to) (get_or_default all k e o before.inside) in omega (arith, ints, later, sooner, same, end)
          | inr more ↦
              let same : get_or all j d ≡ get_or all n here = at_last j d h (λ less. absurd (omega (arith, less, more))) in
              let ends : (get_or all j d).to ≡ (get_or all n here).to = ap (λ (u : Used). u.to) same in
              omega (arith, ints, ends, end)
        ]);
  }

-- ---- the next moment
part_on : (u : Used) (t s : ℤ) → active u t ≡ true → t ≤ℤ s → s <ℤ u.to → part u t ≤ℤ part u s
part_on u t s on from to = grind (arith, ints)

part_off : (u : Used) (t s : ℤ) → active u t ≡ false → pos 0 ≤ℤ u.amount → part u t ≤ℤ part u s
part_off u t s off some = grind (arith, ints)

ends_later : (u : Used) (t : ℤ) → active u t ≡ true → t <ℤ u.to
ends_later u t on = grind (arith, ints)

part_until : (u : Used) (t s next : ℤ) (on : Bool) → active u t ≡ on → t ≤ℤ s → s <ℤ next → (active u t ≡ true → next ≤ℤ u.to) → pos 0 ≤ℤ u.amount → part u t ≤ℤ part u s
part_until u t s next true is from to ends some = let end = ends is in part_on u t s is from (omega (arith, ints, to, end))
part_until u t s next false is from to ends some = part_off u t s is some

pub next_end : (all : List Used) (t next : ℤ) (k : ℕ) (none : Used) → AreParts all → IsFirstEnd all t (length all) k → next ≡ (get_or all k none).to → IsNext all t next
unfolding NoneUsed
next_end all t next k none parts first is = record {
  later = let end = ends_later (get_or all k none) t (first.used none) in omega (arith, ints, end, is);
  used = λ s from to j d h. part_until (get_or all j d) t s next (active (get_or all j d) t) refl from to
      (λ on. let end = first.first j d none h on in omega (arith, ints, end, is)) (parts.each j d h).amount;
}

pub next_one : (all : List Used) (t next : ℤ) → next ≡ t +ℤ pos 1 → IsNext all t next
next_one all t next is = record {
  later = omega (arith, ints, is);
  used = λ s from to j d h. let same : t ≡ s = omega (arith, ints, from, to, is) in subst (λ (x : ℤ). part (get_or all j d) t ≤ℤ part (get_or all j d) x) same (omega (arith, ints));
}
