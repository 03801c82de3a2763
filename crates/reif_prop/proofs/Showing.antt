-- What the bounds show of a base.
use Rattle.std.proofs.Common.{◌≡◌, ℕ, zero, suc, ◌<◌, ◌⊎◌, List, [], ◌∷◌, ◌++◌, length, get_or, map, refl, sym, subst, ◌∙◌, arith, inl, inr}
use Rattle.std.specs.Prelude.{ℤ, pos, ◌≤ℤ◌, ◌<ℤ◌, All, Any, Contains}
use Rattle.std.proofs.lemmas.Int.{ints}
use Rattle.std.proofs.lemmas.List.{length-map, get_or-map, get_or_default}
use Rattle.fzn_model.specs.declared.term.Term.{Term}
use Rattle.fzn_model.specs.declared.lin.Rel.{Rel}
use Rattle.fzn_model.specs.declared.lin.Rel.TheVariants as rel
use Rattle.fzn_model.specs.declared.base.Base.{Base}
use Rattle.fzn_model.specs.declared.base.Base.TheVariants as base
use Rattle.fzn_model.specs.Sets.{IsIn, AreRuns}
use Rattle.fzn_model.specs.Meaning.{val, lin_sum, Stands, HasValue, HoldsBase}
use Rattle.fzn_model.specs.Limits.{TermIn, IsBit}
use Rattle.fzn_model.specs.Boxes.{IsBox, InBox, domain_at, low_value}
use Rattle.fzn_model.specs.Bounds.{term_low, term_high, TermHas, IsFixed, IsAt, IsLookedAt, sum_low, sum_high}
use Rattle.fzn_model.specs.Booleans.{IsBoolean}
use Rattle.fzn_model.specs.Named.{base_terms}
use Rattle.dom_store.specs.Strength.{SumIsFixed, HasTrue, AllFalse, MemberIsOut, LinIsShown, LinIsRefuted, BaseIsShown, BaseIsRefuted}
use Rattle.fzn_model.proofs.Terms.{val_has, at_val, has_low, has_between}
use Rattle.fzn_model.proofs.Domains.{low_in}
use Rattle.fzn_model.specs.declared.clause.Clause.{Clause}
use Rattle.fzn_model.specs.declared.member.Member.{Member}
use Rattle.dom_store.specs.Bases.{member_of}
use Rattle.reif_prop.specs.Parts.{relation, IsOver}
use Rattle.reif_prop.specs.Values.{AllInside, AllOutside, HasInGap}
use Rattle.reif_prop.specs.Judging.{CanHold, HasFailed}
use Rattle.reif_prop.proofs.Finding.{located, gap_outside}
use Rattle.dom_store.proofs.Comparing.{below_or_from}
use Rattle.fzn_model.proofs.LinearBounds.{ScaledIn, sum_least, sum_most, bounds_fixed}
use Rattle.reif_prop.proofs.Clauses.{has_bit}

-- what holds at a place of a list that has the term
at_place : (P : Term → Type 0) (ts : List Term) (k : ℕ) (t : Term) → All P ts → k < length ts → get_or ts k t ≡ t → P t
at_place P ts k t all h is = subst P is (all k t h)

-- ---- what the bounds show is so, under each assignment
module _ (box : List (List ℤ)) (θ : List ℤ) (lies : InBox box θ) where
  sum_exact : (ps : List (ℤ × Term)) (r : ℤ) → IsBox box → ScaledIn (length box) ps → SumIsFixed box ps → sum_low box ps ≡ r → lin_sum ps θ ≡ r
  unfolding SumIsFixed
  sum_exact ps r well_formed inside fixed is =
      let least = sum_least box ps θ well_formed inside lies in
      let most = sum_most box ps θ well_formed inside lies in
      let one = bounds_fixed box ps fixed in
      omega (arith, ints, least, most, one, is)

  sum_apart : (ps : List (ℤ × Term)) (r : ℤ) → IsBox box → ScaledIn (length box) ps → (r <ℤ sum_low box ps) ⊎ (sum_high box ps <ℤ r) → lin_sum ps θ ≡ r → ⊥
  sum_apart ps r well_formed inside (inl above) is = let least = sum_least box ps θ well_formed inside lies in omega (arith, ints, least, above, is)
  sum_apart ps r well_formed inside (inr below) is = let most = sum_most box ps θ well_formed inside lies in omega (arith, ints, most, below, is)

  relation_holds : (rl : Rel) (ps : List (ℤ × Term)) (r : ℤ) → IsBox box → ScaledIn (length box) ps → LinIsShown box rl ps r → Stands rl (lin_sum ps θ) r
  relation_holds rel.Le ps r well_formed inside shown =
      let most = sum_most box ps θ well_formed inside lies in
      omega (arith, ints, most, shown)
  relation_holds rel.Eq ps r well_formed inside shown = sum_exact ps r well_formed inside shown.0 shown.1
  relation_holds rel.Ne ps r well_formed inside shown = sum_apart ps r well_formed inside shown

  relation_fails : (rl : Rel) (ps : List (ℤ × Term)) (r : ℤ) → IsBox box → ScaledIn (length box) ps → LinIsRefuted box rl ps r → Stands rl (lin_sum ps θ) r → ⊥
  relation_fails rel.Le ps r well_formed inside refuted holds =
      let least = sum_least box ps θ well_formed inside lies in
      omega (arith, ints, least, refuted, holds)
  relation_fails rel.Eq ps r well_formed inside refuted holds = sum_apart ps r well_formed inside refuted holds
  relation_fails rel.Ne ps r well_formed inside refuted holds = holds (sum_exact ps r well_formed inside refuted.0 refuted.1)

  pub shown_holds : (b : Base) → IsOver box b → BaseIsShown box b → HoldsBase b θ
  unfolding HasTrue HasValue
  shown_holds (base.Lin l) over shown = relation_holds l.rel l.terms l.r over.well_formed over.kept.sum.terms shown
  shown_holds (base.Clause c) over (inl (k, t, h, is, at)) = inl (k, t, h, is, at_val box t (pos 1) θ over.well_formed (at_place (TermIn (length box)) c.pos k t over.kept.pos.terms h is) at lies)
  shown_holds (base.Clause c) over (inr (k, t, h, is, at)) = inr (k, t, h, is, at_val box t (pos 0) θ over.well_formed (at_place (TermIn (length box)) c.neg k t over.kept.neg.terms h is) at lies)
  shown_holds (base.Member m) over shown = shown (val m.x θ) (val_has box m.x θ over.kept.x lies)

  false_value : (ts : List Term) (a b : ℤ) → IsBox box → All (TermIn (length box)) ts → All (λ t. IsAt box t a) ts → (a ≡ b → ⊥) → HasValue ts b θ → ⊥
  unfolding HasValue
  false_value ts a b well_formed inside all apart (k, t, h, is, value) =
      let one : val t θ ≡ a = at_val box t a θ well_formed (at_place (TermIn (length box)) ts k t inside h is) (at_place (λ u. IsAt box u a) ts k t all h is) lies in
      apart (sym one ∙ value)

  pub refuted_fails : (b : Base) → IsOver box b → BaseIsRefuted box b → HoldsBase b θ → ⊥
  unfolding AllFalse
  refuted_fails (base.Lin l) over refuted holds = relation_fails l.rel l.terms l.r over.well_formed over.kept.sum.terms refuted holds
  refuted_fails (base.Clause c) over refuted (inl has) = false_value c.pos (pos 0) (pos 1) over.well_formed over.kept.pos.terms refuted.0 (λ e. omega (arith, ints, e)) has
  refuted_fails (base.Clause c) over refuted (inr has) = false_value c.neg (pos 1) (pos 0) over.well_formed over.kept.neg.terms refuted.1 (λ e. omega (arith, ints, e)) has
  refuted_fails (base.Member m) over refuted holds = refuted (val m.x θ) (val_has box m.x θ over.kept.x lies) holds

-- the least values are an assignment of the box
lows : List (List ℤ) → List ℤ
lows box = map low_value box

lows_in : (box : List (List ℤ)) → IsBox box → InBox box (lows box)
unfolding lows
lows_in box well_formed = record {
  count = length-map box low_value;
  each = λ k h. subst (Contains (domain_at box k)) (sym (get_or-map low_value box k [] (pos 0) h)) (low_in (domain_at box k) (well_formed k [] h));
}

-- so no base is shown and refuted
pub clash : (box : List (List ℤ)) (b : Base) → IsOver box b → BaseIsShown box b → BaseIsRefuted box b → ⊥
clash box b over shown refuted =
    let lies = lows_in box over.well_formed in
    refuted_fails box (lows box) lies b over refuted (shown_holds box (lows box) lies b over shown)

-- ---- where all terms are fixed, one of both is shown
module _ (box : List (List ℤ)) where
  parts_fixed : (ps : List (ℤ × Term)) → All (IsFixed box) (map (λ p. p.1) ps) → SumIsFixed box ps
  unfolding SumIsFixed
  parts_fixed ps all k d h = subst (IsFixed box) (get_or-map (λ (p : ℤ × Term). p.1) ps k d d.1 h) (all k d.1 (omega (arith, h, length-map ps (λ (p : ℤ × Term). p.1))))

  front : (ts us : List Term) → All (IsFixed box) (ts ++ us) → All (IsFixed box) ts
  front [] us all k d h = absurd (omega (arith, h))
  front (t ∷ ts) us all zero d h = all zero d (omega arith)
  front (t ∷ ts) us all (suc k) d h = front ts us (λ j e i. all (suc j) e (omega (arith, i))) k d (omega (arith, h))

  back : (ts us : List Term) → All (IsFixed box) (ts ++ us) → All (IsFixed box) us
  back [] us all = all
  back (t ∷ ts) us all = back ts us (λ j e i. all (suc j) e (omega (arith, i)))

  -- a fixed Boolean is at 0 or at 1
  fixed_bit : (t : Term) → IsBox box → TermIn (length box) t → IsBoolean box t → IsFixed box t → IsAt box t (pos 0) ⊎ IsAt box t (pos 1)
  fixed_bit t well_formed inside bool fixed = by_order (below_or_from (term_low box t) (pos 1))
    where
      one : term_low box t ≡ term_high box t
      one = fixed

      low : IsBit (term_low box t)
      low = has_bit box t (term_low box t) bool (has_low box t well_formed inside)

      by_order : (term_low box t <ℤ pos 1) ⊎ (pos 1 ≤ℤ term_low box t) → IsAt box t (pos 0) ⊎ IsAt box t (pos 1)
      by_order (inl less) = inl (record { low = omega (arith, ints, less, low.0); high = omega (arith, ints, less, low.0, one) })
      by_order (inr more) = inr (record { low = omega (arith, ints, more, low.1); high = omega (arith, ints, more, low.1, one) })

  relation_refuted : (rl : Rel) (ps : List (ℤ × Term)) (r : ℤ) → SumIsFixed box ps → (LinIsShown box rl ps r → ⊥) → LinIsRefuted box rl ps r
  unfolding SumIsFixed
  relation_refuted rel.Le ps r all not_shown =
      let one = bounds_fixed box ps all in
      elim (below_or_from r (sum_high box ps)) [ inl above ↦ omega (arith, ints, one, above) | inr most ↦ absurd (not_shown most) ]
  relation_refuted rel.Eq ps r all not_shown = elim (below_or_from r (sum_low box ps)) [
    | inl above ↦ inl above
    | inr most ↦ elim (below_or_from (sum_high box ps) r) [
      | inl below ↦ inr below
      | inr least ↦ let one = bounds_fixed box ps all in absurd (not_shown (all, omega (arith, ints, one, most, least)))
    ]
  ]
  relation_refuted rel.Ne ps r all not_shown = elim (below_or_from r (sum_low box ps)) [
    | inl above ↦ absurd (not_shown (inl above))
    | inr most ↦ elim (below_or_from (sum_high box ps) r) [
      | inl below ↦ absurd (not_shown (inr below))
      | inr least ↦ let one = bounds_fixed box ps all in (all, omega (arith, ints, one, most, least))
    ]
  ]

  -- a fixed term has no two values
  same_value : (x : Term) (w u : ℤ) → IsBox box → TermIn (length box) x → IsFixed box x → TermHas box x w → TermHas box x u → u ≡ w
  same_value x w u well_formed inside fixed has_w has_u =
      let one : term_low box x ≡ term_high box x = fixed in
      let first = has_between box x w well_formed inside has_w in
      let then = has_between box x u well_formed inside has_u in
      omega (arith, ints, one, first.0, first.1, then.0, then.1)

  member_refuted : (x : Term) (set : List (ℤ × ℤ)) → IsBox box → TermIn (length box) x → IsFixed box x → (((v : ℤ) → TermHas box x v → IsIn set v) → ⊥) → (v : ℤ) → TermHas box x v → IsIn set v → ⊥
  member_refuted x set well_formed inside fixed not_shown v has there = not_shown (λ w other. subst (IsIn set) (same_value x w v well_formed inside fixed other has) there)

  pub fixed_refuted : (b : Base) → IsOver box b → All (IsFixed box) (base_terms b) → (BaseIsShown box b → ⊥) → BaseIsRefuted box b
  unfolding HasTrue AllFalse
  fixed_refuted (base.Lin l) over all not_shown = relation_refuted l.rel l.terms l.r (parts_fixed l.terms all) not_shown
  fixed_refuted (base.Clause c) over all not_shown = (
    (λ k d h. elim (fixed_bit (get_or c.pos k d) over.well_formed (over.kept.pos.terms k d h) (over.booleans.0 k d h) (front c.pos c.neg all k d h)) [
      | inl at ↦ at
      | inr at ↦ absurd (not_shown (inl (k, get_or c.pos k d, h, get_or_default c.pos k (get_or c.pos k d) d h, at)))
    ]),
    (λ k d h. elim (fixed_bit (get_or c.neg k d) over.well_formed (over.kept.neg.terms k d h) (over.booleans.1 k d h) (back c.pos c.neg all k d h)) [
      | inl at ↦ absurd (not_shown (inr (k, get_or c.neg k d, h, get_or_default c.neg k (get_or c.neg k d) d h, at)))
      | inr at ↦ at
    ]),
  )
  fixed_refuted (base.Member m) over all not_shown = member_refuted m.x m.set over.well_formed over.kept.x (all zero m.x (omega arith)) not_shown

  -- ---- and one of both is refuted
  relation_shown : (rl : Rel) (ps : List (ℤ × Term)) (r : ℤ) → SumIsFixed box ps → (LinIsRefuted box rl ps r → ⊥) → LinIsShown box rl ps r
  unfolding SumIsFixed
  relation_shown rel.Le ps r all not_refuted =
      let one = bounds_fixed box ps all in
      elim (below_or_from r (sum_low box ps)) [ inl above ↦ absurd (not_refuted above) | inr most ↦ omega (arith, ints, one, most) ]
  relation_shown rel.Eq ps r all not_refuted = elim (below_or_from r (sum_low box ps)) [
    | inl above ↦ absurd (not_refuted (inl above))
    | inr most ↦ elim (below_or_from (sum_high box ps) r) [
      | inl below ↦ absurd (not_refuted (inr below))
      | inr least ↦ let one = bounds_fixed box ps all in (all, omega (arith, ints, one, most, least))
    ]
  ]
  relation_shown rel.Ne ps r all not_refuted = elim (below_or_from r (sum_low box ps)) [
    | inl above ↦ inl above
    | inr most ↦ elim (below_or_from (sum_high box ps) r) [
      | inl below ↦ inr below
      | inr least ↦ let one = bounds_fixed box ps all in absurd (not_refuted (all, omega (arith, ints, one, most, least)))
    ]
  ]

  all_on : (P : Term → Type 0) (t : Term) (ts : List Term) → P t → All P ts → All P (t ∷ ts)
  all_on P t ts here rest zero d h = here
  all_on P t ts here rest (suc k) d h = rest k d (omega (arith, h))

  -- one of the terms is at the second value, or all are at the first
  some_or_all : (ts : List Term) (a b : ℤ) → All (λ t. IsAt box t a ⊎ IsAt box t b) ts → Any (λ t. IsAt box t b) ts ⊎ All (λ t. IsAt box t a) ts
  some_or_all [] a b each = inr (λ k d h. absurd (omega (arith, h)))
  some_or_all (t ∷ ts) a b each = elim (each zero t (omega arith)) [
    | inr at ↦ inl (zero, t, omega arith, refl, at)
    | inl at ↦ elim (some_or_all ts a b (λ k d h. each (suc k) d (omega (arith, h)))) [
      | inl (k, u, h, is, there) ↦ inl (suc k, u, omega (arith, h), is, there)
      | inr all ↦ inr (all_on (λ u. IsAt box u a) t ts at all)
    ]
  ]

  other_way : (t : Term) → IsAt box t (pos 0) ⊎ IsAt box t (pos 1) → IsAt box t (pos 1) ⊎ IsAt box t (pos 0)
  other_way t (inl at) = inr at
  other_way t (inr at) = inl at

  clause_shown : (c : Clause) → IsOver box (base.Clause c) → All (IsFixed box) (c.pos ++ c.neg) → (AllFalse box c → ⊥) → HasTrue box c
  unfolding HasTrue AllFalse
  clause_shown c over all not_refuted =
      elim (some_or_all c.pos (pos 0) (pos 1) (λ k d h. fixed_bit (get_or c.pos k d) over.well_formed (over.kept.pos.terms k d h) (over.booleans.0 k d h) (front c.pos c.neg all k d h))) [
        | inl some ↦ inl some
        | inr low ↦ elim (some_or_all c.neg (pos 1) (pos 0) (λ k d h. other_way (get_or c.neg k d) (fixed_bit (get_or c.neg k d) over.well_formed (over.kept.neg.terms k d h) (over.booleans.1 k d h) (back c.pos c.neg all k d h)))) [
          | inl some ↦ inr some
          | inr high ↦ absurd (not_refuted (low, high))
        ]
      ]

  -- a fixed value that is in no gap is in the set
  member_shown : (x : Term) (set : List (ℤ × ℤ)) → IsBox box → TermIn (length box) x → AreRuns set → IsFixed box x → (((v : ℤ) → TermHas box x v → IsIn set v → ⊥) → ⊥) → (v : ℤ) → TermHas box x v → IsIn set v
  unfolding HasInGap AllInside
  member_shown x set well_formed inside runs fixed not_refuted v has =
      let inside_all : (w : ℤ) → IsIn set w → TermHas box x w → AllInside box x set = λ w there has_w u has_u. subst (IsIn set) (same_value x u w well_formed inside fixed has_u has_w) there in
      elim (located set v (length set) (omega arith)) [
        | inl (k, less, past, before) ↦ absurd (not_refuted (λ w has_w there. gap_outside box x set k runs (omega (arith, less)) (v, has, past, before) (inside_all w there has_w)))
        | inr (inl there) ↦ there
        | inr (inr past) ↦ absurd (not_refuted (λ w has_w there. gap_outside box x set (length set) runs (omega arith) (v, has, past, λ h. absurd (omega (arith, h))) (inside_all w there has_w)))
      ]

-- ---- a test of a base that has to hold
pub linear_can : (box : List (List ℤ)) (rl : Rel) (ps : List (ℤ × Term)) (r : ℤ) → (LinIsRefuted box rl ps r → ⊥) → CanHold (relation rl ps r) box
linear_can box rl ps r not_refuted = record { possible = not_refuted; fixed = λ all. relation_shown box rl ps r (parts_fixed box ps all) not_refuted }

pub clause_can : (box : List (List ℤ)) (c : Clause) → IsOver box (base.Clause c) → (AllFalse box c → ⊥) → CanHold (base.Clause c) box
clause_can box c over not_refuted = record { possible = not_refuted; fixed = λ all. clause_shown box c over all not_refuted }

pub member_can : (box : List (List ℤ)) (x : Term) (set : List (ℤ × ℤ)) → IsBox box → TermIn (length box) x → AreRuns set → (AllOutside box x set → ⊥) → CanHold (base.Member (member_of x set)) box
unfolding AllOutside
member_can box x set well_formed inside runs not_refuted = record { possible = not_refuted; fixed = λ all. member_shown box x set well_formed inside runs (all zero x (omega arith)) not_refuted }

-- ---- a base that has to fail
pub linear_failed : (box : List (List ℤ)) (rl : Rel) (ps : List (ℤ × Term)) (r : ℤ) → IsOver box (relation rl ps r) → (LinIsShown box rl ps r → ⊥) → HasFailed (relation rl ps r) box
linear_failed box rl ps r over not_shown = record { owed = tt; possible = not_shown; fixed = λ all. fixed_refuted box (relation rl ps r) over all not_shown }

pub clause_failed : (box : List (List ℤ)) (c : Clause) → IsOver box (base.Clause c) → AllFalse box c → HasFailed (base.Clause c) box
clause_failed box c over all_false = record { owed = all_false; possible = λ shown. clash box (base.Clause c) over shown all_false; fixed = λ all. all_false }

low_looked : (box : List (List ℤ)) (x : Term) → IsBox box → TermIn (length box) x → IsLookedAt box x (term_low box x)
low_looked box x well_formed inside = record { has = has_low box x well_formed inside; bound = λ wide. inl refl }

fixed_looked : (box : List (List ℤ)) (x : Term) (v : ℤ) → IsBox box → TermIn (length box) x → IsFixed box x → TermHas box x v → IsLookedAt box x v
fixed_looked box x v well_formed inside fixed has = record { has = has; bound = λ wide. inl (same_value box x (term_low box x) v well_formed inside fixed (has_low box x well_formed inside) has) }

pub member_failed : (box : List (List ℤ)) (m : Member) → IsOver box (base.Member m) → MemberIsOut box m → HasFailed (base.Member m) box
unfolding MemberIsOut
member_failed box m over out = record {
  owed = out;
  possible = λ shown. out (term_low box m.x) (low_looked box m.x over.well_formed over.kept.x) (shown (term_low box m.x) (has_low box m.x over.well_formed over.kept.x));
  fixed = λ all v has. out v (fixed_looked box m.x v over.well_formed over.kept.x (all zero m.x (omega arith)) has);
}
