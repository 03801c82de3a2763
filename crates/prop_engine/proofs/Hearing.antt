-- A constraint that hears of fixed variables alone keeps its strength while each of its variables that changes is open, and was
-- not wide before.
use Rattle.std.specs.Prelude.{◌≡◌, ◌≢◌, ℕ, zero, suc, ◌<◌, ◌≤◌, ◌⊎◌, List, [], ◌∷◌, length, slice_index_or, ℤ, ◌+ℤ◌, ◌-ℤ◌, ◌*ℤ◌, All}
use Rattle.std.proofs.Common.{refl, sym, subst, ap, ◌∙◌, arith, inl, inr}
use Rattle.std.proofs.lemmas.Bool.{cases_lt}
use Rattle.std.proofs.lemmas.List.{get_or_default, get_or_past}
use Rattle.std.proofs.lemmas.Int.{ints}
use Rattle.std.proofs.lemmas.List.Elements.{recursion_from_All}
use Rattle.fzn_model.specs.declared.term.Term.{Term}
use Rattle.fzn_model.specs.declared.term.Term.TheVariants as term
use Rattle.fzn_model.specs.declared.lin.Rel.{Rel}
use Rattle.fzn_model.specs.declared.lin.Rel.TheVariants as rel
use Rattle.fzn_model.specs.declared.base.Base.{Base}
use Rattle.fzn_model.specs.declared.base.Base.TheVariants as base
use Rattle.fzn_model.specs.declared.con.Con.{Con}
use Rattle.fzn_model.specs.declared.con.Con.TheVariants as con
use Rattle.fzn_model.specs.Named.{base_terms, con_terms}
use Rattle.fzn_model.specs.Boxes.{IsBox, InBox, domain_at, low_value, high_value}
use Rattle.fzn_model.proofs.Domains.{between, low_in, high_in}
use Rattle.dom_store.specs.Stores.{IsInside}
use Rattle.fzn_model.specs.Bounds.{TermHas, IsFixed, IsWide, IsLookedAt, scaled_low, sum_of, others_low}
use Rattle.dom_store.specs.Strength.{OthersFixed, IsAvoided, LinIsStrong, BaseIsStrong, ResultIsFixed, KindIsStrong, IsChecked, IsStrong}
use Rattle.prop_engine.specs.declared.event.Event.{Event}
use Rattle.prop_engine.specs.declared.event.Event.TheVariants as event
use Rattle.prop_engine.specs.Events.{relation_event, base_event, con_event, IsStirred, IsUnheard, KeepsUnheard}
use Rattle.prop_engine.proofs.Frame.{Box, Alike, alike_const, alike_var, alike_sym, fixed, same_scaled_low, same_sums, all_unmapped, lin_frame, base_frame, kind_frame, checked_frame}

-- a term that changed is open, as it was before, and wasn't wide
record StaysOpen (old new : Box) (t : Term) : Type 0 where
  pub unfixed : IsFixed new t → ⊥
  pub was : IsFixed old t → ⊥
  pub narrow : IsWide old t → ⊥
  pub has : (v : ℤ) → TermHas new t v → TermHas old t v

-- what is known of a term of which nothing was heard
abbrev IsTold : Event → Box → Box → Term → Type 0
IsTold event.Changed old new t = Alike old new t
IsTold event.Fixed old new t = Alike old new t ⊎ StaysOpen old new t

-- no such variable is fixed
pub beyond_fixed : (box : Box) (k : ℕ) → length box ≤ k → IsFixed box (term.Var k)
unfolding low_value high_value
beyond_fixed box k far = subst (λ d. low_value d ≡ high_value d) (sym (get_or_past box k [] far)) refl

-- a fixed one has not changed
alike_fixed : (e : Event) (old new : Box) (t : Term) → IsTold e old new t → IsFixed new t → Alike old new t
alike_fixed event.Changed old new t a is = a
alike_fixed event.Fixed old new t (inl a) is = a
alike_fixed event.Fixed old new t (inr stirred) is = absurd (stirred.unfixed is)

-- ---- sums
-- what all terms but one add up to
others_same : (f g : ℤ × Term → ℤ) (ps : List (ℤ × Term)) (i : ℕ) (d : ℤ × Term) → i < length ps → ((j : ℕ) → j < length ps → j ≢ i → f (slice_index_or ps j d) ≡ g (slice_index_or ps j d)) → (sum_of f ps -ℤ f (slice_index_or ps i d)) ≡ (sum_of g ps -ℤ g (slice_index_or ps i d))
others_same f g [] i d h same = absurd (omega (arith, h))
others_same f g (p ∷ ps) zero d h same =
    let rest : sum_of f ps ≡ sum_of g ps = same_sums f g ps (recursion_from_All (λ q. f q ≡ g q) ps (λ k e less. rest_same k e less)) in
    omega (arith, ints, rest)
  where
    rest_same : (k : ℕ) (e : ℤ × Term) → k < length ps → f (slice_index_or ps k e) ≡ g (slice_index_or ps k e)
    rest_same k e less = subst (λ q. f q ≡ g q) (get_or_default ps k d e less) (same (suc k) (omega (arith, less)) (λ is. absurd (omega (arith, is))))
others_same f g (p ∷ ps) (suc i) d h same =
    let rest = others_same f g ps i d (omega (arith, h)) (λ j less apart. same (suc j) (omega (arith, less)) (λ is. apart (omega (arith, is)))) in
    let first : f p ≡ g p = same zero (omega arith) (λ is. absurd (omega (arith, is))) in
    omega (arith, ints, rest, first)

module _ (old new : Box) (ps : List (ℤ × Term)) (r : ℤ) (told : All (λ p. IsTold event.Fixed old new p.1) ps) where
  -- all terms but one that are fixed now have not changed
  others_alike : (i : ℕ) → OthersFixed new ps i → (j : ℕ) (d : ℤ × Term) → j < length ps → j ≢ i → Alike old new (slice_index_or ps j d).1
  unfolding OthersFixed
  others_alike i others j d h apart = alike_fixed event.Fixed old new _ (told j d h) (others j d h apart)

  others_were : (i : ℕ) → OthersFixed new ps i → OthersFixed old ps i
  unfolding OthersFixed
  others_were i others j d h apart = fixed new old _ (alike_sym old new _ (others_alike i others j d h apart)) (others j d h apart)

  looked_before : (i : ℕ) (d : ℤ × Term) (v : ℤ) → i < length ps → IsLookedAt new (slice_index_or ps i d).1 v → IsLookedAt old (slice_index_or ps i d).1 v
  looked_before i d v h seen = elim (told i d h) [
    | inl a ↦ record { has = a.has v seen.has; bound = λ w. elim (seen.bound (a.wide w)) [ inl e ↦ inl (e ∙ a.low) | inr e ↦ inr (e ∙ a.high) ] }
    | inr stirred ↦ record { has = stirred.has v seen.has; bound = λ w. absurd (stirred.narrow w) }
  ]

  avoided_told : IsAvoided old ps r → IsAvoided new ps r
  unfolding IsAvoided
  avoided_told is i d h some others v seen e =
      let same : others_low new ps (slice_index_or ps i d) ≡ others_low old ps (slice_index_or ps i d) = others_same (scaled_low new) (scaled_low old) ps i d h (λ j less apart. same_scaled_low old new _ (others_alike i others j d less apart)) in
      is i d h some (others_were i others) v (looked_before i d v h seen) (ap (λ z. (slice_index_or ps i d).0 *ℤ v +ℤ z) (sym same) ∙ e)

lin_told : (old new : Box) (which : Rel) (ps : List (ℤ × Term)) (r : ℤ) → All (λ p. IsTold (relation_event which) old new p.1) ps → LinIsStrong old which ps r → LinIsStrong new which ps r
lin_told old new rel.Le ps r told is = lin_frame old new rel.Le ps r told is
lin_told old new rel.Eq ps r told is = lin_frame old new rel.Eq ps r told is
lin_told old new rel.Ne ps r told is = avoided_told old new ps r told is

base_told : (old new : Box) (b : Base) → All (IsTold (base_event b) old new) (base_terms b) → BaseIsStrong old b → BaseIsStrong new b
base_told old new (base.Lin l) told is = lin_told old new l.rel l.terms l.r (all_unmapped (IsTold (relation_event l.rel) old new) (λ (p : ℤ × Term). p.1) l.terms told) is
base_told old new (base.Clause c) told is = base_frame old new (base.Clause c) told is
base_told old new (base.Member m) told is = base_frame old new (base.Member m) told is

-- ---- divisions
-- where both arguments are fixed now, they were, and so was the result
stays_fixed : (old new : Box) (t : Term) → IsTold event.Fixed old new t → IsFixed old t → IsFixed new t
stays_fixed old new t (inl a) is = fixed old new t a is
stays_fixed old new t (inr stirred) is = absurd (stirred.was is)

module _ (old new : Box) where
  result_told : (a b c : Term) → All (IsTold event.Fixed old new) (a ∷ b ∷ c ∷ []) → ResultIsFixed old a b c → ResultIsFixed new a b c
  unfolding ResultIsFixed
  result_told a b c told is one other =
      let all = recursion_from_All (IsTold event.Fixed old new) (a ∷ b ∷ c ∷ []) told in
      let first = alike_fixed event.Fixed old new a all.0 one in
      let second = alike_fixed event.Fixed old new b all.1.0 other in
      stays_fixed old new c all.1.1.0 (is (fixed new old a (alike_sym old new a first) one) (fixed new old b (alike_sym old new b second) other))

  -- ---- each kind
  kind_told : (c : Con) → All (IsTold (con_event c) old new) (con_terms c) → KindIsStrong old c → KindIsStrong new c
  kind_told (con.Base b) told is = base_told old new b told is
  kind_told (con.Reif b r f) told is = kind_frame old new (con.Reif b r f) told is
  kind_told (con.Times a b c) told is = kind_frame old new (con.Times a b c) told is
  kind_told (con.Abs a b) told is = kind_frame old new (con.Abs a b) told is
  kind_told (con.Div a b c) told is = result_told a b c told is
  kind_told (con.Mod a b c) told is = result_told a b c told is
  kind_told (con.Greatest m xs) told is = kind_frame old new (con.Greatest m xs) told is
  kind_told (con.Least m xs) told is = kind_frame old new (con.Least m xs) told is
  kind_told (con.Element i xs c) told is = kind_frame old new (con.Element i xs c) told is
  kind_told (con.AllDiffExcept xs taken) told is = kind_frame old new (con.AllDiffExcept xs taken) told is
  kind_told (con.CumulUsed tasks used b) told is = kind_frame old new (con.CumulUsed tasks used b) told is
  kind_told (con.Table xs rows) told is = kind_frame old new (con.Table xs rows) told is

-- where all its terms are fixed now, none has changed
checked_told : (old new : Box) (c : Con) → ((θ : List ℤ) → InBox new θ → InBox old θ) → All (IsTold (con_event c) old new) (con_terms c) → IsChecked old c → IsChecked new c
unfolding IsChecked
checked_told old new c within told is all θ lies = checked_frame old new c within (λ k d h. alike_fixed (con_event c) old new _ (told k d h) (all k d h)) is all θ lies

told_frame : (old new : Box) (c : Con) → ((θ : List ℤ) → InBox new θ → InBox old θ) → All (IsTold (con_event c) old new) (con_terms c) → IsStrong old c → IsStrong new c
told_frame old new c within told is = record { kind = kind_told old new c told is.kind; checked = checked_told old new c within told is.checked }

-- ---- the frame law
pub in_earlier : (earlier box : Box) (θ : List ℤ) → IsInside earlier box → InBox box θ → InBox earlier θ
in_earlier earlier box θ inside lies = record {
  count = lies.count ∙ inside.count;
  each = λ k h. inside.within k _ (lies.each k (omega (arith, h, inside.count)));
}

module _ (old new : Box) (was : IsBox old) (is : IsBox new) (inside : IsInside old new) where
  -- what was fixed is
  fixed_stays : (k : ℕ) → k < length new → IsFixed old (term.Var k) → IsFixed new (term.Var k)
  fixed_stays k here one =
      let domain = was k [] (omega (arith, here, inside.count)) in
      let low = between (domain_at old k) (low_value (domain_at new k)) domain (inside.within k _ (low_in (domain_at new k) (is k [] here))) in
      let high = between (domain_at old k) (high_value (domain_at new k)) domain (inside.within k _ (high_in (domain_at new k) (is k [] here))) in
      omega (arith, ints, one, low.0, low.1, high.0, high.1)

  stays_open : (k : ℕ) → IsStirred old new k → StaysOpen old new (term.Var k)
  stays_open k stirred = record {
    unfixed = stirred.unfixed;
    was = λ one. elim (cases_lt k (length new)) [ inl here ↦ stirred.unfixed (fixed_stays k here one) | inr far ↦ stirred.unfixed (beyond_fixed new k far) ];
    narrow = stirred.narrow;
    has = λ v. inside.within k v;
  }

  tells : (e : Event) (t : Term) → IsUnheard e old new t → IsTold e old new t
  tells event.Changed (term.Const z) unheard = alike_const old new z
  tells event.Fixed (term.Const z) unheard = inl (alike_const old new z)
  tells event.Changed (term.Var k) unheard = alike_var old new k unheard
  tells event.Fixed (term.Var k) (inl same) = inl (alike_var old new k same)
  tells event.Fixed (term.Var k) (inr stirred) = inr (stays_open k stirred)

pub keeps_unheard : KeepsUnheard
keeps_unheard old new c was is inside unheard strong = told_frame old new c (λ θ. in_earlier old new θ inside) (λ k d h. tells old new was is inside (con_event c) _ (unheard k d h)) strong
