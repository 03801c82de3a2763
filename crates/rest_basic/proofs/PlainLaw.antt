-- On each assignment of a box, the form of a constraint holds exactly where the constraint does.
use Rattle.std.proofs.Common.{◌≡◌, List, [], ◌∷◌, length, refl, arith, ℤ, pos, ◌*ℤ◌, Bool, true, false, sym, subst, ◌∙◌, inl, inr}
use Rattle.std.specs.Prelude.{◌↔◌, not, ◌&&◌, if◌then◌else◌, int_div, int_rem, unsigned_abs, slice_index_or}
use Rattle.std.specs.Ordering.{int_eq}
use Rattle.std.proofs.lemmas.Int.{ints}
use Rattle.std.proofs.lemmas.Bool.{false≢true, or_parts}
use Rattle.std.proofs.lemmas.Bool.Decides.{Decides-int_eq}
use Rattle.fzn_model.specs.declared.term.Term.{Term}
use Rattle.fzn_model.specs.declared.term.Term.TheVariants as term
use Rattle.fzn_model.specs.declared.base.Base.{Base}
use Rattle.fzn_model.specs.declared.base.Base.TheVariants as base
use Rattle.fzn_model.specs.declared.con.Con.{Con}
use Rattle.fzn_model.specs.declared.con.Con.TheVariants as con
use Rattle.fzn_model.specs.Meaning.{val, bit, Holds, HoldsBase}
use Rattle.fzn_model.specs.Limits.{TermIn, BaseInLimits, IsBit, of_call}
use Rattle.fzn_model.specs.Boxes.{IsBox, InBox}
use Rattle.fzn_model.specs.Bounds.{term_low, is_open}
use Rattle.fzn_model.specs.Booleans.{FitsBox, IsBoolean}
use Rattle.fzn_model.proofs.Opposites.{opposite_stands}
use Rattle.fzn_model.specs.Opposites.{opposite}
use Rattle.rest_basic.specs.Forms.{any_open, substituted, form_of, of_form, negated_form, open_reif_form, truth_is, reif_form, of_truth, times_is, abs_is, div_is, mod_is, arith_form, plain_form}
use Rattle.rest_basic.specs.Equivalence.{IsPlain, FormHolds}
use Rattle.rest_basic.specs.declared.reduced.BaseForm.{BaseForm}
use Rattle.rest_basic.specs.declared.reduced.BaseForm.TheVariants as form
use Rattle.rest_basic.specs.declared.reduced.Reduced.TheVariants as reduced
use Rattle.rest_basic.proofs.TermsInBox.{shut_value, substituted_value}
use Rattle.rest_basic.proofs.LinLaw.{BaseFormHolds, lin_law}
use Rattle.rest_basic.proofs.ClauseLaw.{clause_law, has_none}
use Rattle.rest_basic.proofs.MemberLaw.{member_law}

base_law : (box : List (List ℤ)) (b : Base) (θ : List ℤ) → IsBox box → InBox box θ → BaseInLimits of_call (length box) b → BaseFormHolds (form_of box b) θ ↔ HoldsBase b θ
base_law box (base.Lin l) θ well_formed lies kept = lin_law box l.rel l.terms l.r θ well_formed lies kept.sum
base_law box (base.Clause c) θ well_formed lies kept = clause_law box c.pos c.neg θ well_formed lies kept.pos.terms kept.neg.terms
base_law box (base.Member m) θ well_formed lies kept = member_law box m.x m.set θ well_formed lies kept.x

-- ---- a base that has to hold, one that has to fail, and one whose truth is open
of_form_law : (f : BaseForm) (θ : List ℤ) → FormHolds (of_form f) θ ↔ BaseFormHolds f θ
of_form_law form.Holds θ = (λ h. h, λ h. h)
of_form_law form.Fails θ = (λ h. elim h [ inl p ↦ has_none (pos 1) θ p | inr p ↦ has_none (pos 0) θ p ], λ h. absurd h)
of_form_law (form.Is b) θ = (λ h. h, λ h. h)

negated_law : (f : BaseForm) (r : Term) (s : Bool) (θ : List ℤ) → (val r θ ≡ bit s → ⊥) → FormHolds (negated_form f r s) θ ↔ (BaseFormHolds f θ → ⊥)
unfolding opposite
negated_law form.Holds r s θ differs = (λ h. absurd ((of_form_law form.Fails θ).0 h), λ h. absurd (h tt))
negated_law form.Fails r s θ differs = (λ h x. x, λ h. tt)
negated_law (form.Is (base.Lin l)) r s θ differs = opposite_stands l.rel l.terms l.r θ
negated_law (form.Is (base.Clause c)) r s θ differs = (λ h x. differs (h.0 x), λ h. (λ x. absurd (h x), λ x. absurd (differs x)))
negated_law (form.Is (base.Member m)) r s θ differs = (λ h x. differs (h.0 x), λ h. (λ x. absurd (h x), λ x. absurd (differs x)))

truth_law : (r : Term) (s : Bool) (θ : List ℤ) → FormHolds (truth_is r s) θ ↔ (val r θ ≡ bit s)
truth_law r s θ = (λ h. omega (arith, ints, h), λ h. omega (arith, ints, h))

other_bit : (z : ℤ) (s : Bool) → IsBit z → (z ≡ bit (not s)) ↔ (z ≡ bit s → ⊥)
other_bit z true h = (λ e f. omega (arith, ints, e, f), λ f. omega (arith, ints, f, h.0, h.1))
other_bit z false h = (λ e f. omega (arith, ints, e, f), λ f. omega (arith, ints, f, h.0, h.1))

open_reif_law : (f : BaseForm) (r : Term) (s : Bool) (θ : List ℤ) → IsBit (val r θ) → FormHolds (open_reif_form f r s) θ ↔ (BaseFormHolds f θ ↔ (val r θ ≡ bit s))
open_reif_law form.Holds r s θ is_bit = (λ h. (λ _. (truth_law r s θ).0 h, λ _. tt), λ h. (truth_law r s θ).1 (h.0 tt))
open_reif_law form.Fails r s θ is_bit =
    let either = other_bit (val r θ) s is_bit in
    (λ h. (λ x. absurd x, λ x. either.0 ((truth_law r (not s) θ).0 h) x), λ h. (truth_law r (not s) θ).1 (either.1 h.1))
open_reif_law (form.Is b) r s θ is_bit = (λ h. h, λ h. h)

through : {P Q R : Type 0} → (P ↔ Q) → (Q ↔ R) → P ↔ R
through x y = (λ h. y.0 (x.0 h), λ h. x.1 (y.1 h))

reif_cases : (box : List (List ℤ)) (b : Base) (r : Term) (s : Bool) (θ : List ℤ) → (BaseFormHolds (form_of box b) θ ↔ HoldsBase b θ) → (is_open box r ≡ false → val r θ ≡ term_low box r) → IsBit (val r θ)
    → (o : Bool) → is_open box r ≡ o → (t : Bool) → int_eq (term_low box r) (bit s) ≡ t
    → FormHolds (if o then open_reif_form (form_of box b) r s else (if t then of_form (form_of box b) else negated_form (form_of box b) (term.Const (term_low box r)) s)) θ ↔ (HoldsBase b θ ↔ (val r θ ≡ bit s))
reif_cases box b r s θ same fixed is_bit true e t f =
    let law = open_reif_law (form_of box b) r s θ is_bit in
    (λ h. (λ x. (law.0 h).0 (same.1 x), λ x. same.0 ((law.0 h).1 x)), λ h. law.1 (λ x. h.0 (same.0 x), λ x. same.1 (h.1 x)))
reif_cases box b r s θ same fixed is_bit false e true f =
    let is : val r θ ≡ bit s = fixed e ∙ (Decides-int_eq (term_low box r) (bit s)).0 f in
    let law = of_form_law (form_of box b) θ in
    (λ h. (λ _. is, λ _. same.0 (law.0 h)), λ h. law.1 (same.1 (h.1 is)))
reif_cases box b r s θ same fixed is_bit false e false f =
    let differs : term_low box r ≡ bit s → ⊥ = λ is. false≢true (sym f ∙ (Decides-int_eq (term_low box r) (bit s)).1 is) in
    let law = negated_law (form_of box b) (term.Const (term_low box r)) s θ differs in
    (λ h. (λ x. absurd (law.0 h (same.1 x)), λ x. absurd (differs (sym (fixed e) ∙ x))), λ h. law.1 (λ x. differs (sym (fixed e) ∙ h.0 (same.0 x))))

bit_of : (box : List (List ℤ)) (r : Term) (θ : List ℤ) → InBox box θ → TermIn (length box) r → IsBoolean box r → IsBit (val r θ)
bit_of box (term.Const z) θ lies inside boolean = boolean
bit_of box (term.Var k) θ lies inside boolean = let (i, h, is) = lies.each k inside in subst IsBit is (boolean i (slice_index_or θ k (pos 0)) h)

reif_law : (box : List (List ℤ)) (b : Base) (r : Term) (s : Bool) (θ : List ℤ) → IsBox box → InBox box θ → BaseInLimits of_call (length box) b → TermIn (length box) r → IsBoolean box r → FormHolds (reif_form box b r s) θ ↔ (HoldsBase b θ ↔ (val r θ ≡ bit s))
unfolding reif_form
reif_law box b r s θ well_formed lies kept inside boolean =
    reif_cases box b r s θ (base_law box b θ well_formed lies kept) (shut_value box r θ well_formed lies inside) (bit_of box r θ lies inside boolean) (is_open box r) refl (int_eq (term_low box r) (bit s)) refl

-- ---- arithmetic
of_truth_law : (t : Bool) (P : Type 0) (θ : List ℤ) → ((t ≡ true) ↔ P) → FormHolds (of_truth t) θ ↔ P
of_truth_law true P θ decides = (λ _. decides.0 refl, λ _. tt)
of_truth_law false P θ decides = (λ h. absurd ((of_form_law form.Fails θ).0 h), λ h. absurd (false≢true (decides.1 h)))

quotient_decides : (b c d : ℤ) (t u : Bool) → int_eq b (pos 0) ≡ t → int_eq c d ≡ u → ((not t && u) ≡ true) ↔ ((b ≡ pos 0 → ⊥) × (c ≡ d))
quotient_decides b c d true u e f = (λ h. absurd (false≢true h), λ h. absurd (h.0 ((Decides-int_eq b (pos 0)).0 e)))
quotient_decides b c d false true e f = (λ _. (λ is. false≢true (sym e ∙ (Decides-int_eq b (pos 0)).1 is), (Decides-int_eq c d).0 f), λ _. refl)
quotient_decides b c d false false e f = (λ h. absurd (false≢true h), λ h. absurd (false≢true (sym f ∙ (Decides-int_eq c d).1 h.1)))

-- all terms of a list that has no open one are fixed
three_shut : (box : List (List ℤ)) (a b c : Term) → any_open box (a ∷ b ∷ c ∷ []) ≡ false → (is_open box a ≡ false) × (is_open box b ≡ false) × (is_open box c ≡ false)
unfolding any_open
three_shut box a b c e =
    let one = or_parts (is_open box a) _ e in
    let two = or_parts (is_open box b) _ one.1 in
    let three = or_parts (is_open box c) _ two.1 in
    (one.0, two.0, three.0)

two_shut : (box : List (List ℤ)) (a b : Term) → any_open box (a ∷ b ∷ []) ≡ false → (is_open box a ≡ false) × (is_open box b ≡ false)
unfolding any_open
two_shut box a b e =
    let one = or_parts (is_open box a) _ e in
    let two = or_parts (is_open box b) _ one.1 in
    (one.0, two.0)

-- a constraint on three terms, and the test of their values
three_law : (con3 : Term → Term → Term → Con) (test : ℤ → ℤ → ℤ → Bool) (P : ℤ → ℤ → ℤ → Type 0) (box : List (List ℤ)) (a b c : Term) (θ : List ℤ)
    → ((x y z : Term) → Holds (con3 x y z) θ ≡ P (val x θ) (val y θ) (val z θ)) → ((x y z : ℤ) → (test x y z ≡ true) ↔ P x y z)
    → IsBox box → InBox box θ → TermIn (length box) a → TermIn (length box) b → TermIn (length box) c → (o : Bool) → any_open box (a ∷ b ∷ c ∷ []) ≡ o
    → FormHolds (if o then reduced.Is (con3 (substituted box a) (substituted box b) (substituted box c)) else of_truth (test (term_low box a) (term_low box b) (term_low box c))) θ ↔ P (val a θ) (val b θ) (val c θ)
three_law con3 test P box a b c θ means decides well_formed lies ia ib ic true e =
    let ea = substituted_value box a θ well_formed lies ia in let eb = substituted_value box b θ well_formed lies ib in let ec = substituted_value box c θ well_formed lies ic in
    rw (means (substituted box a) (substituted box b) (substituted box c), ea, eb, ec) (λ h. h, λ h. h)
three_law con3 test P box a b c θ means decides well_formed lies ia ib ic false e =
    let shut = three_shut box a b c e in
    let ea = shut_value box a θ well_formed lies ia shut.0 in let eb = shut_value box b θ well_formed lies ib shut.1 in let ec = shut_value box c θ well_formed lies ic shut.2 in
    rw (ea, eb, ec) (of_truth_law _ _ θ (decides (term_low box a) (term_low box b) (term_low box c)))

abs_law : (box : List (List ℤ)) (a b : Term) (θ : List ℤ) → IsBox box → InBox box θ → TermIn (length box) a → TermIn (length box) b
    → (o : Bool) → any_open box (a ∷ b ∷ []) ≡ o
    → FormHolds (if o then reduced.Is (con.Abs (substituted box a) (substituted box b)) else of_truth (abs_is (term_low box a) (term_low box b))) θ ↔ (val b θ ≡ pos (unsigned_abs (val a θ)))
abs_law box a b θ well_formed lies ia ib true e =
    let ea = substituted_value box a θ well_formed lies ia in let eb = substituted_value box b θ well_formed lies ib in
    rw (ea, eb) (λ h. h, λ h. h)
abs_law box a b θ well_formed lies ia ib false e =
    let shut = two_shut box a b e in
    let ea = shut_value box a θ well_formed lies ia shut.0 in let eb = shut_value box b θ well_formed lies ib shut.1 in
    rw (ea, eb) (of_truth_law _ _ θ (Decides-int_eq (term_low box b) (pos (unsigned_abs (term_low box a)))))

quotient_law : (of_two : ℤ → ℤ → ℤ) (x y z : ℤ) → ((not (int_eq y (pos 0)) && int_eq z (of_two x y)) ≡ true) ↔ ((y ≡ pos 0 → ⊥) × (z ≡ of_two x y))
quotient_law of_two x y z = quotient_decides y z (of_two x y) _ _ refl refl

pub plain_law : (box : List (List ℤ)) (c : Con) (θ : List ℤ) → IsBox box → InBox box θ → FitsBox box c → IsPlain c → FormHolds (plain_form box c) θ ↔ Holds c θ
unfolding arith_form
plain_law box (con.Base b) θ well_formed lies fits_box plain = through (of_form_law (form_of box b) θ) (base_law box b θ well_formed lies fits_box.kept)
plain_law box (con.Reif b r s) θ well_formed lies fits_box plain = reif_law box b r s θ well_formed lies fits_box.kept.0 fits_box.kept.1 fits_box.booleans.1
plain_law box (con.Times a b c) θ well_formed lies fits_box plain =
    three_law con.Times times_is (λ x y z. (x *ℤ y) ≡ z) box a b c θ (λ x y z. refl) (λ x y z. Decides-int_eq (x *ℤ y) z) well_formed lies fits_box.kept.0 fits_box.kept.1 fits_box.kept.2 (any_open box (a ∷ b ∷ c ∷ [])) refl
plain_law box (con.Abs a b) θ well_formed lies fits_box plain = abs_law box a b θ well_formed lies fits_box.kept.0 fits_box.kept.1 (any_open box (a ∷ b ∷ [])) refl
plain_law box (con.Div a b c) θ well_formed lies fits_box plain =
    three_law con.Div div_is (λ x y z. (y ≡ pos 0 → ⊥) × (z ≡ int_div x y)) box a b c θ (λ x y z. refl) (quotient_law int_div) well_formed lies fits_box.kept.0 fits_box.kept.1 fits_box.kept.2 (any_open box (a ∷ b ∷ c ∷ [])) refl
plain_law box (con.Mod a b c) θ well_formed lies fits_box plain =
    three_law con.Mod mod_is (λ x y z. (y ≡ pos 0 → ⊥) × (z ≡ int_rem x y)) box a b c θ (λ x y z. refl) (quotient_law int_rem) well_formed lies fits_box.kept.0 fits_box.kept.1 fits_box.kept.2 (any_open box (a ∷ b ∷ c ∷ [])) refl
plain_law box c θ well_formed lies fits_box plain = absurd plain
