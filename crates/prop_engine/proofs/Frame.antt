-- The strength of a constraint depends only on the domains of the variables that it names.
use Rattle.std.specs.Prelude.{◌≡◌, ℕ, ◌+◌, ◌≤◌, ◌⊎◌, Bool, true, ◌&&◌, cond, List, [], ◌∷◌, ◌++◌, map, filter, take, drop, length, slice_index_or, ℤ, pos, ◌+ℤ◌, ◌-ℤ◌, ◌*ℤ◌, ◌≤ℤ◌, ◌<ℤ◌, int_le, int_lt, Contains, Any, All}
use Rattle.std.specs.Int.{int_min, int_max}
use Rattle.std.specs.List.{AllByRecursion}
use Rattle.std.proofs.Common.{refl, sym, subst, ap, ◌∙◌, arith, inl, inr}
use Rattle.std.proofs.lemmas.Int.{ints}
use Rattle.std.proofs.lemmas.List.Elements.{recursion_from_All, All-from_recursion, All-head, All-tail, All-append, All-take, All-drop, All-contains}
use Rattle.fzn_model.specs.declared.term.Term.{Term}
use Rattle.fzn_model.specs.declared.term.Term.TheVariants as term
use Rattle.fzn_model.specs.declared.lin.Rel.{Rel}
use Rattle.fzn_model.specs.declared.lin.Rel.TheVariants as rel
use Rattle.fzn_model.specs.declared.clause.Clause.{Clause}
use Rattle.fzn_model.specs.declared.base.Base.{Base}
use Rattle.fzn_model.specs.declared.base.Base.TheVariants as base
use Rattle.fzn_model.specs.declared.cumulative.CumTask.{CumTask}
use Rattle.fzn_model.specs.declared.cumulative.Used.{Used}
use Rattle.fzn_model.specs.declared.con.Con.{Con}
use Rattle.fzn_model.specs.declared.con.Con.TheVariants as con
use Rattle.fzn_model.specs.Named.{base_terms, con_terms}
use Rattle.fzn_model.specs.Meaning.{amount_at}
use Rattle.fzn_model.specs.Boxes.{domain_at, low_value, high_value, InBox}
use Rattle.fzn_model.specs.Bounds.{term_low, term_high, TermHas, IsFixed, IsAt, is_open, open_count, IsWide, IsLookedAt, scaled_low, scaled_high, sum_of, sum_low, sum_high, others_low, others_high}
use Rattle.dom_store.specs.Strength.{IsCapped, IsRaised, OthersFixed, IsAvoided, LinIsStrong, OppositeIsStrong, HasTrue, AllFalse, ClauseIsStrong, MemberIsStrong, MemberIsOut, BaseIsStrong, DeniedIsStrong, SumIsFixed, LinIsShown, BaseIsShown, LinIsRefuted, BaseIsRefuted, ReifIsStrong, products_low, products_high, TimesIsStrong, sizes_low, sizes_high, AbsIsStrong, ResultIsFixed, GreatestIsStrong, LeastIsStrong, IsPlace, ElementIsStrong, is_inside, inside_count, free_count, IsOutside, IsHallInterval, AllDiffIsStrong, part_of, IsMoment, use_at, without, FitsAt, CumulIsStrong, TableIsStrong, KindIsStrong, IsChecked, IsStrong}

abbrev pub Box : Type 0
Box = List (List ℤ)

-- a term has the same bounds and values in both boxes
pub record Alike (old new : Box) (t : Term) : Type 0 where
  pub low : term_low new t ≡ term_low old t
  pub high : term_high new t ≡ term_high old t
  pub has : (v : ℤ) → TermHas new t v → TermHas old t v
  pub had : (v : ℤ) → TermHas old t v → TermHas new t v
  pub wide : IsWide old t → IsWide new t
  pub widened : IsWide new t → IsWide old t

pub alike_const : (old new : Box) (z : ℤ) → Alike old new (term.Const z)
alike_const old new z = record { low = refl; high = refl; has = λ v h. h; had = λ v h. h; wide = λ h. h; widened = λ h. h }

pub alike_var : (old new : Box) (k : ℕ) → domain_at new k ≡ domain_at old k → Alike old new (term.Var k)
alike_var old new k e = record {
  low = ap low_value e;
  high = ap high_value e;
  has = λ v h. subst (λ d. Contains d v) e h;
  had = λ v h. subst (λ d. Contains d v) (sym e) h;
  wide = λ h. subst (λ d. pos 1024 ≤ℤ (high_value d -ℤ low_value d)) (sym e) h;
  widened = λ h. subst (λ d. pos 1024 ≤ℤ (high_value d -ℤ low_value d)) e h;
}

pub alike_sym : (old new : Box) (t : Term) → Alike old new t → Alike new old t
alike_sym old new t a = record { low = sym a.low; high = sym a.high; has = a.had; had = a.has; wide = a.widened; widened = a.wide }

all_sym : (old new : Box) (ts : List Term) → All (Alike old new) ts → All (Alike new old) ts
all_sym old new ts all k d h = alike_sym old new _ (all k d h)

-- ---- lists
ap2 : {A B C : Type 0} (f : A → B → C) (a c : A) (b d : B) → a ≡ c → b ≡ d → f a b ≡ f c d
ap2 f a c b d p q = ap (λ x. f x b) p ∙ ap (λ y. f c y) q

left_of : {X : Type 0} (P : X → Type 0) (xs ys : List X) → AllByRecursion P (xs ++ ys) → AllByRecursion P xs
left_of P [] ys all = tt
left_of P (x ∷ xs) ys all = (all.0, left_of P xs ys all.1)

right_of : {X : Type 0} (P : X → Type 0) (xs ys : List X) → AllByRecursion P (xs ++ ys) → AllByRecursion P ys
right_of P [] ys all = all
right_of P (x ∷ xs) ys all = right_of P xs ys all.1

unmapped : {X Y : Type 0} (P : X → Type 0) (f : Y → X) (ys : List Y) → AllByRecursion P (map f ys) → AllByRecursion (λ y. P (f y)) ys
unmapped P f [] all = tt
unmapped P f (y ∷ ys) all = (all.0, unmapped P f ys all.1)

all_left : {X : Type 0} (P : X → Type 0) (xs ys : List X) → All P (xs ++ ys) → All P xs
all_left P xs ys all = All-from_recursion P xs (left_of P xs ys (recursion_from_All P (xs ++ ys) all))

all_right : {X : Type 0} (P : X → Type 0) (xs ys : List X) → All P (xs ++ ys) → All P ys
all_right P xs ys all = All-from_recursion P ys (right_of P xs ys (recursion_from_All P (xs ++ ys) all))

pub all_unmapped : {X Y : Type 0} (P : X → Type 0) (f : Y → X) (ys : List Y) → All P (map f ys) → All (λ y. P (f y)) ys
all_unmapped P f ys all = All-from_recursion (λ y. P (f y)) ys (unmapped P f ys (recursion_from_All P (map f ys) all))

any_as : {X : Type 0} (P Q : X → Type 0) (xs : List X) → All (λ x. P x → Q x) xs → Any P xs → Any Q xs
any_as P Q xs all any = (any.0, any.1, any.2, any.3, All-contains (λ x. P x → Q x) xs any.1 all (any.0, any.2, any.3) any.4)

same_filters : {X : Type 0} (f g : X → Bool) (xs : List X) → AllByRecursion (λ x. f x ≡ g x) xs → filter f xs ≡ filter g xs
same_filters f g [] all = refl
same_filters f g (x ∷ xs) all = ap2 (λ b r. cond b (x ∷ r) r) _ _ _ _ all.0 (same_filters f g xs all.1)

same_maps : {X Y : Type 0} (f g : X → Y) (xs : List X) → AllByRecursion (λ x. f x ≡ g x) xs → map f xs ≡ map g xs
same_maps f g [] all = refl
same_maps f g (x ∷ xs) all = ap2 (λ y ys. y ∷ ys) _ _ _ _ all.0 (same_maps f g xs all.1)

pub same_sums : (f g : ℤ × Term → ℤ) (ps : List (ℤ × Term)) → AllByRecursion (λ p. f p ≡ g p) ps → sum_of f ps ≡ sum_of g ps
same_sums f g [] all = refl
same_sums f g (p ∷ ps) all = ap2 (λ y z. y +ℤ z) _ _ _ _ all.0 (same_sums f g ps all.1)

moved : (a b c d : ℤ) → a ≡ c → b ≡ d → c ≤ℤ d → a ≤ℤ b
moved a b c d p q h = omega (arith, ints, p, q, h)

-- ---- one way: what the old box has, the new one has
module _ (old new : Box) where
  pub fixed : (t : Term) → Alike old new t → IsFixed old t → IsFixed new t
  fixed t a is = a.low ∙ is ∙ sym a.high

  at : (t : Term) (v : ℤ) → Alike old new t → IsAt old t v → IsAt new t v
  at t v a is = record { low = a.low ∙ is.low; high = a.high ∙ is.high }

  looked : (t : Term) (v : ℤ) → Alike old new t → IsLookedAt new t v → IsLookedAt old t v
  looked t v a is = record { has = a.has v is.has; bound = λ w. elim (is.bound (a.wide w)) [ inl e ↦ inl (e ∙ a.low) | inr e ↦ inr (e ∙ a.high) ] }

  -- linear relations
  pub same_scaled_low : (p : ℤ × Term) → Alike old new p.1 → scaled_low new p ≡ scaled_low old p
  same_scaled_low p a = ap2 (λ l h. int_min (p.0 *ℤ l) (p.0 *ℤ h)) _ _ _ _ a.low a.high

  same_scaled_high : (p : ℤ × Term) → Alike old new p.1 → scaled_high new p ≡ scaled_high old p
  same_scaled_high p a = ap2 (λ l h. int_max (p.0 *ℤ l) (p.0 *ℤ h)) _ _ _ _ a.low a.high

  module _ (ps : List (ℤ × Term)) (alike : All (λ p. Alike old new p.1) ps) where
    same_low : sum_low new ps ≡ sum_low old ps
    same_low = same_sums (scaled_low new) (scaled_low old) ps (recursion_from_All (λ p. scaled_low new p ≡ scaled_low old p) ps (λ k d h. same_scaled_low _ (alike k d h)))

    same_high : sum_high new ps ≡ sum_high old ps
    same_high = same_sums (scaled_high new) (scaled_high old) ps (recursion_from_All (λ p. scaled_high new p ≡ scaled_high old p) ps (λ k d h. same_scaled_high _ (alike k d h)))

    same_others_low : (p : ℤ × Term) → Alike old new p.1 → others_low new ps p ≡ others_low old ps p
    same_others_low p a = ap2 (λ x y. x -ℤ y) _ _ _ _ same_low (same_scaled_low p a)

    same_others_high : (p : ℤ × Term) → Alike old new p.1 → others_high new ps p ≡ others_high old ps p
    same_others_high p a = ap2 (λ x y. x -ℤ y) _ _ _ _ same_high (same_scaled_high p a)

    capped : (most : ℤ) → IsCapped old ps most → IsCapped new ps most
    unfolding IsCapped
    capped most is k d h =
        let a = alike k d h in
        let same = ap2 (λ x y. x +ℤ y) _ _ _ _ (same_scaled_high _ a) (same_others_low _ a) in
        subst (λ z. z ≤ℤ most) (sym same) (is k d h)

    raised : (least : ℤ) → IsRaised old ps least → IsRaised new ps least
    unfolding IsRaised
    raised least is k d h =
        let a = alike k d h in
        let same = ap2 (λ x y. x +ℤ y) _ _ _ _ (same_scaled_low _ a) (same_others_high _ a) in
        subst (λ z. least ≤ℤ z) (sym same) (is k d h)

    all_fixed : SumIsFixed old ps → SumIsFixed new ps
    unfolding SumIsFixed
    all_fixed is k d h = fixed _ (alike k d h) (is k d h)

  -- literals
  has_true : (c : Clause) → All (Alike old new) (c.pos ++ c.neg) → HasTrue old c → HasTrue new c
  unfolding HasTrue
  has_true c alike (inl any) = inl (any_as (λ t. IsAt old t (pos 1)) (λ t. IsAt new t (pos 1)) c.pos (λ k d h. at _ (pos 1) (all_left (Alike old new) c.pos c.neg alike k d h)) any)
  has_true c alike (inr any) = inr (any_as (λ t. IsAt old t (pos 0)) (λ t. IsAt new t (pos 0)) c.neg (λ k d h. at _ (pos 0) (all_right (Alike old new) c.pos c.neg alike k d h)) any)

  all_false : (c : Clause) → All (Alike old new) (c.pos ++ c.neg) → AllFalse old c → AllFalse new c
  unfolding AllFalse
  all_false c alike all = (
    (λ k d h. at _ (pos 0) (all_left (Alike old new) c.pos c.neg alike k d h) (all.0 k d h)),
    (λ k d h. at _ (pos 1) (all_right (Alike old new) c.pos c.neg alike k d h) (all.1 k d h)),
  )

  same_open : (ts : List Term) → All (Alike old new) ts → open_count new ts ≡ open_count old ts
  same_open ts alike = ap length (same_filters (is_open new) (is_open old) ts (recursion_from_All (λ t. is_open new t ≡ is_open old t) ts (λ k d h. ap2 int_lt _ _ _ _ (alike k d h).low (alike k d h).high)))

  clause_frame : (c : Clause) → All (Alike old new) (c.pos ++ c.neg) → ClauseIsStrong old c → ClauseIsStrong new c
  unfolding ClauseIsStrong
  clause_frame c alike (inl true_one) = inl (has_true c alike true_one)
  clause_frame c alike (inr two) = inr (subst (λ n. 2 ≤ n) (sym (same_open (c.pos ++ c.neg) alike)) two)

-- where it is fixed in the new box, it was
unfixed : (old new : Box) (ps : List (ℤ × Term)) (i : ℕ) → All (λ p. Alike old new p.1) ps → OthersFixed new ps i → OthersFixed old ps i
unfolding OthersFixed
unfixed old new ps i alike others j d h apart = fixed new old _ (alike_sym old new _ (alike j d h)) (others j d h apart)

avoided : (old new : Box) (ps : List (ℤ × Term)) (r : ℤ) → All (λ p. Alike old new p.1) ps → IsAvoided old ps r → IsAvoided new ps r
unfolding IsAvoided
avoided old new ps r alike is i d h some others v seen e =
    let a = alike i d h in
    is i d h some (unfixed old new ps i alike others) v (looked old new _ v a seen) (ap (λ z. (slice_index_or ps i d).0 *ℤ v +ℤ z) (sym (same_others_low old new ps alike _ a)) ∙ e)

pub lin_frame : (old new : Box) (which : Rel) (ps : List (ℤ × Term)) (r : ℤ) → All (λ p. Alike old new p.1) ps → LinIsStrong old which ps r → LinIsStrong new which ps r
lin_frame old new rel.Le ps r alike is = capped old new ps alike r is
lin_frame old new rel.Eq ps r alike is = (capped old new ps alike r is.0, raised old new ps alike r is.1)
lin_frame old new rel.Ne ps r alike is = avoided old new ps r alike is

opposite_frame : (old new : Box) (which : Rel) (ps : List (ℤ × Term)) (r : ℤ) → All (λ p. Alike old new p.1) ps → OppositeIsStrong old which ps r → OppositeIsStrong new which ps r
opposite_frame old new rel.Le ps r alike is = raised old new ps alike (r +ℤ pos 1) is
opposite_frame old new rel.Eq ps r alike is = avoided old new ps r alike is
opposite_frame old new rel.Ne ps r alike is = (capped old new ps alike r is.0, raised old new ps alike r is.1)

lin_shown : (old new : Box) (which : Rel) (ps : List (ℤ × Term)) (r : ℤ) → All (λ p. Alike old new p.1) ps → LinIsShown old which ps r → LinIsShown new which ps r
lin_shown old new rel.Le ps r alike is = subst (λ z. z ≤ℤ r) (sym (same_high old new ps alike)) is
lin_shown old new rel.Eq ps r alike is = (all_fixed old new ps alike is.0, same_low old new ps alike ∙ is.1)
lin_shown old new rel.Ne ps r alike (inl is) = inl (subst (λ z. r <ℤ z) (sym (same_low old new ps alike)) is)
lin_shown old new rel.Ne ps r alike (inr is) = inr (subst (λ z. z <ℤ r) (sym (same_high old new ps alike)) is)

lin_refuted : (old new : Box) (which : Rel) (ps : List (ℤ × Term)) (r : ℤ) → All (λ p. Alike old new p.1) ps → LinIsRefuted old which ps r → LinIsRefuted new which ps r
lin_refuted old new rel.Le ps r alike is = subst (λ z. r <ℤ z) (sym (same_low old new ps alike)) is
lin_refuted old new rel.Eq ps r alike (inl is) = inl (subst (λ z. r <ℤ z) (sym (same_low old new ps alike)) is)
lin_refuted old new rel.Eq ps r alike (inr is) = inr (subst (λ z. z <ℤ r) (sym (same_high old new ps alike)) is)
lin_refuted old new rel.Ne ps r alike is = (all_fixed old new ps alike is.0, same_low old new ps alike ∙ is.1)

-- ---- bases
module _ (old new : Box) where
  parts_of : (ps : List (ℤ × Term)) → All (Alike old new) (map (λ p. p.1) ps) → All (λ p. Alike old new p.1) ps
  parts_of ps alike = all_unmapped (Alike old new) (λ (p : ℤ × Term). p.1) ps alike

  only : (t : Term) (ts : List Term) → All (Alike old new) (t ∷ ts) → Alike old new t
  only t ts alike = All-head (Alike old new) t ts alike

  rest : (t : Term) (ts : List Term) → All (Alike old new) (t ∷ ts) → All (Alike old new) ts
  rest t ts alike = All-tail (Alike old new) t ts alike

  pub base_frame : (b : Base) → All (Alike old new) (base_terms b) → BaseIsStrong old b → BaseIsStrong new b
  unfolding MemberIsStrong
  base_frame (base.Lin l) alike is = lin_frame old new l.rel l.terms l.r (parts_of l.terms alike) is
  base_frame (base.Clause c) alike is = clause_frame old new c alike is
  base_frame (base.Member m) alike is = λ v seen. is v (looked old new m.x v (only m.x [] alike) seen)

  denied_frame : (b : Base) → All (Alike old new) (base_terms b) → DeniedIsStrong old b → DeniedIsStrong new b
  unfolding MemberIsOut
  denied_frame (base.Lin l) alike is = opposite_frame old new l.rel l.terms l.r (parts_of l.terms alike) is
  denied_frame (base.Clause c) alike is = all_false old new c alike is
  denied_frame (base.Member m) alike is = λ v seen. is v (looked old new m.x v (only m.x [] alike) seen)

  shown_frame : (b : Base) → All (Alike old new) (base_terms b) → BaseIsShown old b → BaseIsShown new b
  shown_frame (base.Lin l) alike is = lin_shown old new l.rel l.terms l.r (parts_of l.terms alike) is
  shown_frame (base.Clause c) alike is = has_true old new c alike is
  shown_frame (base.Member m) alike is = λ v has. is v ((only m.x [] alike).has v has)

  refuted_frame : (b : Base) → All (Alike old new) (base_terms b) → BaseIsRefuted old b → BaseIsRefuted new b
  refuted_frame (base.Lin l) alike is = lin_refuted old new l.rel l.terms l.r (parts_of l.terms alike) is
  refuted_frame (base.Clause c) alike is = all_false old new c alike is
  refuted_frame (base.Member m) alike is = λ v has. is v ((only m.x [] alike).has v has)

reif_frame : (old new : Box) (b : Base) (r : Term) (f : Bool) → All (Alike old new) (r ∷ base_terms b) → ReifIsStrong old b r f → ReifIsStrong new b r f
reif_frame old new b r f alike is =
    let here = only old new r (base_terms b) alike in
    let back = alike_sym old new r here in
    let others = rest old new r (base_terms b) alike in
    let others_back = all_sym old new (base_terms b) others in
    record {
      shown = λ h. at old new r _ here (is.shown (shown_frame new old b others_back h));
      refuted = λ h. at old new r _ here (is.refuted (refuted_frame new old b others_back h));
      must = λ h. base_frame old new b others (is.must (at new old r _ back h));
      denied = λ h. denied_frame old new b others (is.denied (at new old r _ back h));
    }

-- ---- arithmetic
same4 : (f : ℤ → ℤ → ℤ → ℤ → ℤ) (a b c d e g h i : ℤ) → a ≡ e → b ≡ g → c ≡ h → d ≡ i → f a b c d ≡ f e g h i
same4 f a b c d e g h i p q r s = ap2 (λ x y. f x y c d) a e b g p q ∙ ap2 (λ x y. f e g x y) c h d i r s

module _ (old new : Box) where
  times_frame : (a b c : Term) → All (Alike old new) (a ∷ b ∷ c ∷ []) → TimesIsStrong old a b c → TimesIsStrong new a b c
  unfolding TimesIsStrong
  times_frame a b c alike is =
      let all = recursion_from_All (Alike old new) (a ∷ b ∷ c ∷ []) alike in
      let low : products_low new a b ≡ products_low old a b = same4 (λ w x y z. int_min (int_min (w *ℤ y) (w *ℤ z)) (int_min (x *ℤ y) (x *ℤ z))) _ _ _ _ _ _ _ _ all.0.low all.0.high all.1.0.low all.1.0.high in
      let high : products_high new a b ≡ products_high old a b = same4 (λ w x y z. int_max (int_max (w *ℤ y) (w *ℤ z)) (int_max (x *ℤ y) (x *ℤ z))) _ _ _ _ _ _ _ _ all.0.low all.0.high all.1.0.low all.1.0.high in
      (moved _ _ _ _ low all.1.1.0.low is.0, moved _ _ _ _ all.1.1.0.high high is.1)

  abs_frame : (a b : Term) → All (Alike old new) (a ∷ b ∷ []) → AbsIsStrong old a b → AbsIsStrong new a b
  unfolding AbsIsStrong
  abs_frame a b alike is =
      let all = recursion_from_All (Alike old new) (a ∷ b ∷ []) alike in
      (moved _ _ _ _ (ap2 sizes_low _ _ _ _ all.0.low all.0.high) all.1.0.low is.0, moved _ _ _ _ all.1.0.high (ap2 sizes_high _ _ _ _ all.0.low all.0.high) is.1)

  result_frame : (a b c : Term) → All (Alike old new) (a ∷ b ∷ c ∷ []) → ResultIsFixed old a b c → ResultIsFixed new a b c
  unfolding ResultIsFixed
  result_frame a b c alike is one other =
      let all = recursion_from_All (Alike old new) (a ∷ b ∷ c ∷ []) alike in
      fixed old new c all.1.1.0 (is (fixed new old a (alike_sym old new a all.0) one) (fixed new old b (alike_sym old new b all.1.0) other))

  greatest_frame : (m : Term) (xs : List Term) → All (Alike old new) (m ∷ xs) → GreatestIsStrong old m xs → GreatestIsStrong new m xs
  greatest_frame m xs alike is =
      let here = only old new m xs alike in
      let others = rest old new m xs alike in
      record {
        above = λ k d h. moved _ _ _ _ (others k d h).low here.low (is.above k d h);
        below = any_as (λ x. term_high old m ≤ℤ term_high old x) (λ x. term_high new m ≤ℤ term_high new x) xs (λ k d h. moved _ _ _ _ here.high (others k d h).high) is.below;
        capped = λ k d h. moved _ _ _ _ (others k d h).high here.high (is.capped k d h);
      }

  least_frame : (m : Term) (xs : List Term) → All (Alike old new) (m ∷ xs) → LeastIsStrong old m xs → LeastIsStrong new m xs
  least_frame m xs alike is =
      let here = only old new m xs alike in
      let others = rest old new m xs alike in
      record {
        below = λ k d h. moved _ _ _ _ here.high (others k d h).high (is.below k d h);
        above = any_as (λ x. term_low old x ≤ℤ term_low old m) (λ x. term_low new x ≤ℤ term_low new m) xs (λ k d h. moved _ _ _ _ (others k d h).low here.low) is.above;
        raised = λ k d h. moved _ _ _ _ here.low (others k d h).low (is.raised k d h);
      }

  -- ---- an element of a list
  place_frame : (i : Term) (xs : List Term) (k : ℕ) → Alike old new i → IsPlace old i xs k → IsPlace new i xs k
  place_frame i xs k a is = record { inside = is.inside; has = a.had _ is.has }

  element_frame : (i : Term) (xs : List Term) (c : Term) → All (Alike old new) (i ∷ c ∷ xs) → ElementIsStrong old i xs c → ElementIsStrong new i xs c
  element_frame i xs c alike is =
      let index = only old new i (c ∷ xs) alike in
      let tail = rest old new i (c ∷ xs) alike in
      let result = only old new c xs tail in
      let others = rest old new c xs tail in
      record {
        index = λ v seen.
            let one = is.index v (looked old new i v index seen) in
            let a = others one.0 c one.2 in
            (one.0, one.1, one.2, record { below = moved _ _ _ _ a.low result.high one.3.below; above = moved _ _ _ _ result.low a.high one.3.above });
        low = (is.low.0, place_frame i xs is.low.0 index is.low.1, moved _ _ _ _ (others is.low.0 c is.low.1.inside).low result.low is.low.2);
        high = (is.high.0, place_frame i xs is.high.0 index is.high.1, moved _ _ _ _ result.high (others is.high.0 c is.high.1.inside).high is.high.2);
      }

  -- ---- values that differ
  same_inside : (low high : ℤ) (x : Term) → Alike old new x → is_inside new low high x ≡ is_inside old low high x
  same_inside low high x a = ap2 (λ l h. int_le low l && int_le h high) _ _ _ _ a.low a.high

  same_count : (low high : ℤ) (xs : List Term) → All (Alike old new) xs → inside_count new low high xs ≡ inside_count old low high xs
  same_count low high xs alike = ap length (same_filters (is_inside new low high) (is_inside old low high) xs (recursion_from_All (λ x. is_inside new low high x ≡ is_inside old low high x) xs (λ k d h. same_inside low high _ (alike k d h))))

  outside_frame : (low high : ℤ) (x : Term) → Alike old new x → (is_inside old low high x ≡ true) ⊎ (IsOutside low high (term_low old x) × IsOutside low high (term_high old x)) → (is_inside new low high x ≡ true) ⊎ (IsOutside low high (term_low new x) × IsOutside low high (term_high new x))
  outside_frame low high x a (inl inside) = inl (same_inside low high x a ∙ inside)
  outside_frame low high x a (inr both) = inr (subst (IsOutside low high) (sym a.low) both.0, subst (IsOutside low high) (sym a.high) both.1)

  hall_frame : (xs : List Term) (taken : List ℤ) (low high : ℤ) → All (Alike old new) xs → IsHallInterval old xs taken low high → IsHallInterval new xs taken low high
  hall_frame xs taken low high alike is =
      let same = same_count low high xs alike in
      record {
        few = subst (λ n. n ≤ free_count taken low high) (sym same) is.few;
        full = λ e k d h. outside_frame low high _ (alike k d h) (is.full (sym same ∙ e) k d h);
      }

  hall_moved : (xs : List Term) (taken : List ℤ) (a b c d : ℤ) → a ≡ c → b ≡ d → IsHallInterval new xs taken a b → IsHallInterval new xs taken c d
  hall_moved xs taken a b c d p q is = subst (λ low. IsHallInterval new xs taken low d) p (subst (λ high. IsHallInterval new xs taken a high) q is)

  differ_frame : (xs : List Term) (taken : List ℤ) → All (Alike old new) xs → AllDiffIsStrong old xs taken → AllDiffIsStrong new xs taken
  differ_frame xs taken alike is = record {
    untaken = λ k d h. ((λ has. (is.untaken k d h).0 (subst (Contains taken) (alike k d h).low has)), (λ has. (is.untaken k d h).1 (subst (Contains taken) (alike k d h).high has)));
    intervals = λ i d h j e g order.
        let a = alike i d h in
        let b = alike j e g in
        let was = is.intervals i d h j e g (moved _ _ _ _ (sym a.low) (sym b.high) order) in
        hall_moved xs taken _ _ _ _ (sym a.low) (sym b.high) (hall_frame xs taken _ _ alike was);
  }

  -- ---- tables
  table_frame : (xs : List Term) (rows : List ℤ) → All (Alike old new) xs → TableIsStrong old xs rows → TableIsStrong new xs rows
  unfolding TableIsStrong
  table_frame xs rows alike is j d h v seen =
      let one = is j d h v (looked old new _ v (alike j d h) seen) in
      (one.0, one.1, one.2, λ i e g. (alike i e g).had _ (one.3 i e g))

-- ---- tasks
pub record TaskAlike (old new : Box) (k : CumTask) : Type 0 where
  pub s : Alike old new k.s
  pub d : Alike old new k.d
  pub r : Alike old new k.r

task_sym : (old new : Box) (k : CumTask) → TaskAlike old new k → TaskAlike new old k
task_sym old new k a = record { s = alike_sym old new k.s a.s; d = alike_sym old new k.d a.d; r = alike_sym old new k.r a.r }

module _ (old new : Box) where
  tasks_alike : (tasks : List CumTask) → All (Alike old new) (map (λ k. k.s) tasks ++ map (λ k. k.d) tasks ++ map (λ k. k.r) tasks) → All (TaskAlike old new) tasks
  tasks_alike tasks alike =
      let starts : List Term = map (λ k. k.s) tasks in
      let lengths : List Term = map (λ k. k.d) tasks in
      let uses : List Term = map (λ k. k.r) tasks in
      let front = all_left (Alike old new) (starts ++ lengths) uses alike in
      λ i d h. record {
        s = all_unmapped (Alike old new) (λ (k : CumTask). k.s) tasks (all_left (Alike old new) starts lengths front) i d h;
        d = all_unmapped (Alike old new) (λ (k : CumTask). k.d) tasks (all_right (Alike old new) starts lengths front) i d h;
        r = all_unmapped (Alike old new) (λ (k : CumTask). k.r) tasks (all_right (Alike old new) (starts ++ lengths) uses alike) i d h;
      }

  same_task : (k : CumTask) → TaskAlike old new k → part_of new k ≡ part_of old k
  same_task k a =
      ap (λ z. record { from = z; to = term_low new k.s +ℤ term_low new k.d; amount = int_max (pos 0) (term_low new k.r) }) a.s.high
      ∙ ap (λ z. record { from = term_high old k.s; to = z +ℤ term_low new k.d; amount = int_max (pos 0) (term_low new k.r) }) a.s.low
      ∙ ap (λ z. record { from = term_high old k.s; to = term_low old k.s +ℤ z; amount = int_max (pos 0) (term_low new k.r) }) a.d.low
      ∙ ap (λ z. record { from = term_high old k.s; to = term_low old k.s +ℤ term_low old k.d; amount = int_max (pos 0) z }) a.r.low

  same_use : (tasks : List CumTask) (used : List Used) (t : ℤ) → All (TaskAlike old new) tasks → use_at new tasks used t ≡ use_at old tasks used t
  same_use tasks used t alike = ap (λ us. amount_at (used ++ us) t) (same_maps (part_of new) (part_of old) tasks (recursion_from_All (λ k. part_of new k ≡ part_of old k) tasks (λ i d h. same_task _ (alike i d h))))

  moment_frame : (tasks : List CumTask) (used : List Used) (t : ℤ) → All (TaskAlike old new) tasks → IsMoment old tasks used t → IsMoment new tasks used t
  unfolding IsMoment
  moment_frame tasks used t alike (inl any) = inl any
  moment_frame tasks used t alike (inr any) = inr (any_as (λ k. (t ≡ (part_of old k).from) × ((part_of old k).from <ℤ (part_of old k).to)) (λ k. (t ≡ (part_of new k).from) × ((part_of new k).from <ℤ (part_of new k).to)) tasks
      (λ i d h is. subst (λ (u : Used). (t ≡ u.from) × (u.from <ℤ u.to)) (sym (same_task _ (alike i d h))) is) any)

module _ (old new : Box) (tasks : List CumTask) (used : List Used) (b : Term) (room : Alike old new b) (alike : All (TaskAlike old new) tasks) where
  others_alike : (j : ℕ) → All (TaskAlike old new) (without j tasks)
  others_alike j = All-append (TaskAlike old new) (take j tasks) (drop (j + 1) tasks) (All-take (TaskAlike old new) j tasks alike) (All-drop (TaskAlike old new) (j + 1) tasks alike)

  moment_back : (t : ℤ) → IsMoment new tasks used t → IsMoment old tasks used t
  moment_back t is = moment_frame new old tasks used t (λ i d h. task_sym old new _ (alike i d h)) is

  fits_frame : (j : ℕ) (k : CumTask) (start : ℤ) → TaskAlike old new k → FitsAt old tasks used b j k start → FitsAt new tasks used b j k start
  unfolding FitsAt
  fits_frame j k start a is t at_moment =
      let used_now = same_use old new (without j tasks) used t (others_alike j) in
      let was = is t (elim at_moment [ inl here ↦ inl here | inr later ↦ inr (moment_back t later.0, later.1, subst (λ z. t <ℤ (start +ℤ z)) a.d.low later.2) ]) in
      moved _ _ _ _ (ap2 (λ x y. x +ℤ y) _ _ _ _ a.r.low used_now) room.high was

  cumul_frame : CumulIsStrong old tasks used b → CumulIsStrong new tasks used b
  cumul_frame is = record {
    capacity = subst (λ z. pos 0 ≤ℤ z) (sym room.high) is.capacity;
    parts = λ t here. moved _ _ _ _ (same_use old new tasks used t alike) room.high (is.parts t (moment_back t here));
    starts = λ j k h e long some.
        let a : TaskAlike old new k = subst (TaskAlike old new) (sym e) (alike j k h) in
        let was = is.starts j k h e (subst (λ z. pos 0 <ℤ z) a.d.low long) (subst (λ z. pos 0 <ℤ z) a.r.low some) in
        (subst (FitsAt new tasks used b j k) (sym a.s.low) (fits_frame j k _ a was.0), subst (FitsAt new tasks used b j k) (sym a.s.high) (fits_frame j k _ a was.1));
  }

-- ---- each kind
pub kind_frame : (old new : Box) (c : Con) → All (Alike old new) (con_terms c) → KindIsStrong old c → KindIsStrong new c
kind_frame old new (con.Base b) alike is = base_frame old new b alike is
kind_frame old new (con.Reif b r f) alike is = reif_frame old new b r f alike is
kind_frame old new (con.Times a b c) alike is = times_frame old new a b c alike is
kind_frame old new (con.Abs a b) alike is = abs_frame old new a b alike is
kind_frame old new (con.Div a b c) alike is = result_frame old new a b c alike is
kind_frame old new (con.Mod a b c) alike is = result_frame old new a b c alike is
kind_frame old new (con.Greatest m xs) alike is = greatest_frame old new m xs alike is
kind_frame old new (con.Least m xs) alike is = least_frame old new m xs alike is
kind_frame old new (con.Element i xs c) alike is = element_frame old new i xs c alike is
kind_frame old new (con.AllDiffExcept xs taken) alike is = differ_frame old new xs taken alike is
kind_frame old new (con.CumulUsed tasks used b) alike is = cumul_frame old new tasks used b (only old new b _ alike) (tasks_alike old new tasks (rest old new b _ alike)) is
kind_frame old new (con.Table xs rows) alike is = table_frame old new xs rows alike is

pub checked_frame : (old new : Box) (c : Con) → ((θ : List ℤ) → InBox new θ → InBox old θ) → All (Alike old new) (con_terms c) → IsChecked old c → IsChecked new c
unfolding IsChecked
checked_frame old new c within alike is all θ lies = is (λ k d h. fixed new old _ (alike_sym old new _ (alike k d h)) (all k d h)) θ (within θ lies)

-- What a constraint has over a box it has over a smaller one in which its own variables have the same values.
pub frame : (old new : Box) (c : Con) → ((θ : List ℤ) → InBox new θ → InBox old θ) → All (Alike old new) (con_terms c) → IsStrong old c → IsStrong new c
frame old new c within alike is = record { kind = kind_frame old new c alike is.kind; checked = checked_frame old new c within alike is.checked }
