-- What is left of a constraint fits the box.
use Rattle.std.proofs.Common.{◌≡◌, ℕ, ◌*◌, ◌≤◌, List, [], ◌∷◌, length, refl, subst, arith, ℤ, pos, ◌*ℤ◌, ◌≤ℤ◌, Bool, true, false}
use Rattle.std.specs.Prelude.{All, filter, not, ◌||◌, if◌then◌else◌, int_lt, int_le, slice_index_or, unsigned_abs, ⊤}
use Rattle.std.specs.Ordering.{int_eq}
use Rattle.std.specs.Int.{int_min, int_max}
use Rattle.std.proofs.lemmas.Int.{ints, clamps, unsigned_abs-mul}
use Rattle.std.proofs.lemmas.List.Elements.{All-filter, All-head, All-tail, All-cons, All-nil}
use Rattle.std.proofs.Math.Nat.{mul-le-mul}
use Rattle.fzn_model.specs.declared.term.Term.{Term}
use Rattle.fzn_model.specs.declared.term.Term.TheVariants as term
use Rattle.fzn_model.specs.declared.lin.Rel.{Rel}
use Rattle.fzn_model.specs.declared.lin.Rel.TheVariants as rel
use Rattle.fzn_model.specs.declared.base.Base.{Base}
use Rattle.fzn_model.specs.declared.base.Base.TheVariants as base
use Rattle.fzn_model.specs.declared.con.Con.{Con}
use Rattle.fzn_model.specs.declared.con.Con.TheVariants as con
use Rattle.fzn_model.specs.Meaning.{bit}
use Rattle.fzn_model.specs.Values.{largest}
use Rattle.fzn_model.specs.Limits.{IsValue, TermIn, TermsIn, SumInLimits, BaseInLimits, of_call}
use Rattle.fzn_model.specs.Boxes.{IsBox, IsDomain}
use Rattle.fzn_model.specs.Bounds.{term_low, term_high, is_open, scaled_low, scaled_high, sum_of, sum_low, sum_high}
use Rattle.fzn_model.specs.Booleans.{FitsBox, IsBoolean, BaseBooleans}
use Rattle.fzn_model.proofs.Opposites.{opposite_in_limits, opposite_small}
use Rattle.fzn_model.specs.Opposites.{opposite}
use Rattle.fzn_model.proofs.Terms.{has_value, has_high}
use Rattle.rest_basic.specs.Forms.{fixed_product, fixed_sum, is_open_linear_term, open_linear_terms, some_open, left_of, form_of_le, form_of_eq, form_of_ne, form_of_lin, any_at, any_open, open_terms, form_of_clause, term_values, in_set, all_in, none_in, set_left, form_of_member, form_of, of_form, of_truth, negated_form, truth_is, open_reif_form, reif_form, substituted, times_is, abs_is, div_is, mod_is, arith_form, plain_form}
use Rattle.rest_basic.specs.Equivalence.{IsPlain}
use Rattle.rest_basic.specs.declared.reduced.Reduced.{Reduced}
use Rattle.rest_basic.specs.declared.reduced.Reduced.TheVariants as reduced
use Rattle.rest_basic.specs.declared.reduced.BaseForm.{BaseForm}
use Rattle.rest_basic.specs.declared.reduced.BaseForm.TheVariants as form
use Rattle.rest_basic.proofs.Substituting.{FormIsFit, one_fine, always_fine, never_fine, truth_fine, low_is, low_bit, substituted_in}
use Rattle.rest_basic.proofs.ListMembers.{filter_shorter}
use Rattle.rest_basic.proofs.Members.{ends_all}
use Rattle.rest_basic.proofs.Values.{domain_of}

-- ---- sums are small
product_small : (f z : ℤ) → IsValue f → IsValue z → unsigned_abs (f *ℤ z) ≤ largest * largest
product_small f z a b =
    let e = unsigned_abs-mul f z in
    let m : unsigned_abs f * unsigned_abs z ≤ largest * largest = mul-le-mul a b in
    omega (arith, e, m)

sum_small : (f : ℤ × Term → ℤ) (ps : List (ℤ × Term)) → All (λ (p : ℤ × Term). unsigned_abs (f p) ≤ largest * largest) ps → unsigned_abs (sum_of f ps) ≤ (largest * largest) * length ps
sum_small f [] small = omega (arith, ints)
sum_small f (p ∷ ps) small =
    let here = All-head (λ (q : ℤ × Term). unsigned_abs (f q) ≤ largest * largest) p ps small in
    let rest = sum_small f ps (All-tail (λ (q : ℤ × Term). unsigned_abs (f q) ≤ largest * largest) p ps small) in
    omega (arith, ints, here, rest)

high_is : (box : List (List ℤ)) (t : Term) → IsBox box → TermIn (length box) t → IsValue (term_high box t)
high_is box t well_formed inside = has_value box t (term_high box t) well_formed inside (has_high box t well_formed inside)

min_small : (x y : ℤ) (n : ℕ) → unsigned_abs x ≤ n → unsigned_abs y ≤ n → unsigned_abs (int_min x y) ≤ n
min_small x y n a b = omega (arith, ints, clamps, a, b)

max_small : (x y : ℤ) (n : ℕ) → unsigned_abs x ≤ n → unsigned_abs y ≤ n → unsigned_abs (int_max x y) ≤ n
max_small x y n a b = omega (arith, ints, clamps, a, b)

one_small : (o : Bool) (x : ℤ) (n : ℕ) → unsigned_abs x ≤ n → unsigned_abs (if o then pos 0 else x) ≤ n
one_small true x n a = omega (arith, ints)
one_small false x n a = a

part_low_small : (box : List (List ℤ)) (p : ℤ × Term) → IsBox box → IsValue p.0 → TermIn (length box) p.1 → unsigned_abs (scaled_low box p) ≤ largest * largest
part_low_small box p well_formed factor inside =
    min_small (p.0 *ℤ term_low box p.1) (p.0 *ℤ term_high box p.1) (largest * largest) (product_small p.0 (term_low box p.1) factor (low_is box p.1 well_formed inside)) (product_small p.0 (term_high box p.1) factor (high_is box p.1 well_formed inside))

part_high_small : (box : List (List ℤ)) (p : ℤ × Term) → IsBox box → IsValue p.0 → TermIn (length box) p.1 → unsigned_abs (scaled_high box p) ≤ largest * largest
part_high_small box p well_formed factor inside =
    max_small (p.0 *ℤ term_low box p.1) (p.0 *ℤ term_high box p.1) (largest * largest) (product_small p.0 (term_low box p.1) factor (low_is box p.1 well_formed inside)) (product_small p.0 (term_high box p.1) factor (high_is box p.1 well_formed inside))

fixed_product_small : (box : List (List ℤ)) (p : ℤ × Term) → IsBox box → IsValue p.0 → TermIn (length box) p.1 → unsigned_abs (fixed_product box p) ≤ largest * largest
fixed_product_small box p well_formed factor inside =
    one_small (is_open box p.1) (p.0 *ℤ term_low box p.1) (largest * largest) (product_small p.0 (term_low box p.1) factor (low_is box p.1 well_formed inside))

record Small (box : List (List ℤ)) (ps : List (ℤ × Term)) : Type 0 where
  low : unsigned_abs (sum_low box ps) ≤ 2000000 * (largest * largest)
  high : unsigned_abs (sum_high box ps) ≤ 2000000 * (largest * largest)
  fixed : unsigned_abs (fixed_sum box ps) ≤ 2000000 * (largest * largest)

sums_small : (box : List (List ℤ)) (ps : List (ℤ × Term)) → IsBox box → SumInLimits (length box) ps → Small box ps
unfolding fixed_sum
sums_small box ps well_formed kept =
    let low = sum_small (scaled_low box) ps (λ k d h. part_low_small box (slice_index_or ps k d) well_formed (kept.factors k d h) (kept.terms k d h)) in
    let high = sum_small (scaled_high box) ps (λ k d h. part_high_small box (slice_index_or ps k d) well_formed (kept.factors k d h) (kept.terms k d h)) in
    let fixed = sum_small (fixed_product box) ps (λ k d h. fixed_product_small box (slice_index_or ps k d) well_formed (kept.factors k d h) (kept.terms k d h)) in
    record { low = omega (arith, low, kept.count); high = omega (arith, high, kept.count); fixed = omega (arith, fixed, kept.count) }

-- ---- forms of bases
-- the number of a linear form is so small that its opposite is within the limits too
abbrev BaseFitsNegated : List (List ℤ) → Base → Type 0
BaseFitsNegated box (base.Lin l) = SumInLimits (length box) l.terms × (unsigned_abs l.r ≤ 6000000 * (largest * largest))
BaseFitsNegated box (base.Clause c) = BaseInLimits of_call (length box) (base.Clause c) × BaseBooleans box (base.Clause c)
BaseFitsNegated box (base.Member m) = BaseInLimits of_call (length box) (base.Member m)

abbrev FormFitsNegated : List (List ℤ) → BaseForm → Type 0
FormFitsNegated box form.Holds = ⊤
FormFitsNegated box form.Fails = ⊤
FormFitsNegated box (form.Is b) = BaseFitsNegated box b

record BaseFormIsFit (box : List (List ℤ)) (f : BaseForm) : Type 0 where
  fine : FormFitsNegated box f

left_fine : (box : List (List ℤ)) (k : Rel) (ps : List (ℤ × Term)) (r : ℤ) → IsBox box → SumInLimits (length box) ps → sum_low box ps ≤ℤ r → r ≤ℤ sum_high box ps → BaseFormIsFit box (left_of box k ps r)
unfolding left_of open_linear_terms
left_fine box k ps r well_formed kept from to =
    let small = sums_small box ps well_formed kept in
    record {
      fine = (
        record {
          count = omega (arith, filter_shorter (is_open_linear_term box) ps, kept.count);
          factors = All-filter (is_open_linear_term box) (λ (t : ℤ × Term). IsValue t.0) ps kept.factors;
          terms = All-filter (is_open_linear_term box) (λ (t : ℤ × Term). TermIn (length box) t.1) ps kept.terms;
        },
        omega (arith, ints, small.low, small.high, small.fixed, from, to),
      );
    }

holds_fine : (box : List (List ℤ)) → BaseFormIsFit box form.Holds
holds_fine box = record { fine = tt }

fails_fine : (box : List (List ℤ)) → BaseFormIsFit box form.Fails
fails_fine box = record { fine = tt }

le_fine : (box : List (List ℤ)) (ps : List (ℤ × Term)) (r : ℤ) → IsBox box → SumInLimits (length box) ps → (t u : Bool) → int_le (sum_high box ps) r ≡ t → int_lt r (sum_low box ps) ≡ u
    → BaseFormIsFit box (if t then form.Holds else (if u then form.Fails else left_of box rel.Le ps r))
le_fine box ps r well_formed kept true u e f = holds_fine box
le_fine box ps r well_formed kept false true e f = fails_fine box
le_fine box ps r well_formed kept false false e f = left_fine box rel.Le ps r well_formed kept (omega (arith, ints, f)) (omega (arith, ints, e))

eq_fine : (box : List (List ℤ)) (ps : List (ℤ × Term)) (r : ℤ) → IsBox box → SumInLimits (length box) ps → (t u o : Bool) → int_lt r (sum_low box ps) ≡ t → int_lt (sum_high box ps) r ≡ u
    → BaseFormIsFit box (if t || u then form.Fails else (if o then left_of box rel.Eq ps r else form.Holds))
eq_fine box ps r well_formed kept true u o e f = fails_fine box
eq_fine box ps r well_formed kept false true o e f = fails_fine box
eq_fine box ps r well_formed kept false false true e f = left_fine box rel.Eq ps r well_formed kept (omega (arith, ints, e)) (omega (arith, ints, f))
eq_fine box ps r well_formed kept false false false e f = holds_fine box

ne_fine : (box : List (List ℤ)) (ps : List (ℤ × Term)) (r : ℤ) → IsBox box → SumInLimits (length box) ps → (t u o : Bool) → int_lt r (sum_low box ps) ≡ t → int_lt (sum_high box ps) r ≡ u
    → BaseFormIsFit box (if t || u then form.Holds else (if o then left_of box rel.Ne ps r else form.Fails))
ne_fine box ps r well_formed kept true u o e f = holds_fine box
ne_fine box ps r well_formed kept false true o e f = holds_fine box
ne_fine box ps r well_formed kept false false true e f = left_fine box rel.Ne ps r well_formed kept (omega (arith, ints, e)) (omega (arith, ints, f))
ne_fine box ps r well_formed kept false false false e f = fails_fine box

lin_fine : (box : List (List ℤ)) (k : Rel) (ps : List (ℤ × Term)) (r : ℤ) → IsBox box → SumInLimits (length box) ps → BaseFormIsFit box (form_of_lin box k ps r)
unfolding form_of_le form_of_eq form_of_ne
lin_fine box rel.Le ps r well_formed kept = le_fine box ps r well_formed kept (int_le (sum_high box ps) r) (int_lt r (sum_low box ps)) refl refl
lin_fine box rel.Eq ps r well_formed kept = eq_fine box ps r well_formed kept (int_lt r (sum_low box ps)) (int_lt (sum_high box ps) r) (some_open box ps) refl refl
lin_fine box rel.Ne ps r well_formed kept = ne_fine box ps r well_formed kept (int_lt r (sum_low box ps)) (int_lt (sum_high box ps) r) (some_open box ps) refl refl

terms_kept : (box : List (List ℤ)) (ts : List Term) → TermsIn (length box) ts → TermsIn (length box) (open_terms box ts)
unfolding open_terms
terms_kept box ts kept = record { count = omega (arith, filter_shorter (is_open box) ts, kept.count); terms = All-filter (is_open box) (TermIn (length box)) ts kept.terms }

booleans_kept : (box : List (List ℤ)) (ts : List Term) → All (IsBoolean box) ts → All (IsBoolean box) (open_terms box ts)
unfolding open_terms
booleans_kept box ts kept = All-filter (is_open box) (IsBoolean box) ts kept

one_of : (box : List (List ℤ)) (t : Bool) {x y : BaseForm} → BaseFormIsFit box x → BaseFormIsFit box y → BaseFormIsFit box (if t then x else y)
one_of box true a b = a
one_of box false a b = b

clause_fine : (box : List (List ℤ)) (ps ns : List Term) → TermsIn (length box) ps → TermsIn (length box) ns → All (IsBoolean box) ps → All (IsBoolean box) ns → BaseFormIsFit box (form_of_clause box ps ns)
unfolding form_of_clause
clause_fine box ps ns kp kn bp bn =
    let left : BaseFormIsFit box (form.Is (base.Clause (record { pos = open_terms box ps; neg = open_terms box ns }))) =
    record { fine = (record { pos = terms_kept box ps kp; neg = terms_kept box ns kn }, (booleans_kept box ps bp, booleans_kept box ns bn)) } in
    one_of box (any_at box (pos 1) ps || any_at box (pos 0) ns) (holds_fine box) (one_of box (any_open box ps || any_open box ns) left (fails_fine box))

-- the ends of the runs that are left are values
left_values : (box : List (List ℤ)) (x : Term) (set : List (ℤ × ℤ)) → IsDomain (term_values box x) → All (λ (run : ℤ × ℤ). IsValue run.0 × IsValue run.1) (set_left box set x)
unfolding set_left
left_values box x set domain = ends_all IsValue (filter (in_set set) (term_values box x)) (All-filter (in_set set) IsValue (term_values box x) domain.within)

member_fine : (box : List (List ℤ)) (x : Term) (set : List (ℤ × ℤ)) → IsBox box → TermIn (length box) x → BaseFormIsFit box (form_of_member box x set)
unfolding form_of_member
member_fine box x set well_formed inside =
    let left : BaseFormIsFit box (form.Is (base.Member (record { x = x; set = set_left box set x }))) =
    record { fine = record { x = inside; set = left_values box x set (domain_of box x well_formed inside) } } in
    one_of box (all_in box set x) (holds_fine box) (one_of box (none_in box set x) (fails_fine box) left)

base_fine : (box : List (List ℤ)) (b : Base) → IsBox box → BaseInLimits of_call (length box) b → BaseBooleans box b → BaseFormIsFit box (form_of box b)
base_fine box (base.Lin l) well_formed kept booleans = lin_fine box l.rel l.terms l.r well_formed kept.sum
base_fine box (base.Clause c) well_formed kept booleans = clause_fine box c.pos c.neg kept.pos kept.neg booleans.0 booleans.1
base_fine box (base.Member m) well_formed kept booleans = member_fine box m.x m.set well_formed kept.x

-- ---- what is left
fits_kept : (box : List (List ℤ)) (b : Base) → BaseFitsNegated box b → BaseInLimits of_call (length box) b × BaseBooleans box b
fits_kept box (base.Lin l) fits = (record { sum = fits.0; constant = omega (arith, fits.1) }, tt)
fits_kept box (base.Clause c) fits = fits
fits_kept box (base.Member m) fits = (fits, tt)

of_form_fine : (box : List (List ℤ)) (f : BaseForm) → FormFitsNegated box f → FormIsFit box (of_form f)
of_form_fine box form.Holds fits = always_fine box
of_form_fine box form.Fails fits = never_fine box
of_form_fine box (form.Is b) fits = let both = fits_kept box b fits in record { fine = record { kept = both.0; booleans = both.1 } }

negated_fine : (box : List (List ℤ)) (f : BaseForm) (r : Term) (s : Bool) → FormFitsNegated box f → TermIn (length box) r → IsBoolean box r → FormIsFit box (negated_form f r s)
unfolding opposite
negated_fine box form.Holds r s fits inside boolean = never_fine box
negated_fine box form.Fails r s fits inside boolean = always_fine box
negated_fine box (form.Is (base.Lin l)) r s fits inside boolean =
    let small = opposite_small l.rel l.terms l.r (6000000 * (largest * largest)) fits.1 in
    record { fine = record { kept = record { sum = opposite_in_limits l.rel (length box) l.terms l.r fits.0; constant = omega (arith, small) }; booleans = tt } }
negated_fine box (form.Is (base.Clause c)) r s fits inside boolean = record { fine = record { kept = (fits.0, inside); booleans = (fits.1, boolean) } }
negated_fine box (form.Is (base.Member m)) r s fits inside boolean = record { fine = record { kept = (fits, inside); booleans = (tt, boolean) } }

bit_small : (s : Bool) → unsigned_abs (bit s) ≤ 1
bit_small true = omega arith
bit_small false = omega arith

truth_is_fine : (box : List (List ℤ)) (r : Term) (s : Bool) → TermIn (length box) r → FormIsFit box (truth_is r s)
truth_is_fine box r s inside = record {
  fine = record {
    kept = record {
      sum = record {
        count = omega arith;
        factors = All-cons (λ (t : ℤ × Term). IsValue t.0) (pos 1, r) [] (omega arith) (All-nil (λ (t : ℤ × Term). IsValue t.0));
        terms = All-cons (λ (t : ℤ × Term). TermIn (length box) t.1) (pos 1, r) [] inside (All-nil (λ (t : ℤ × Term). TermIn (length box) t.1));
      };
      constant = omega (arith, bit_small s);
    };
    booleans = tt;
  };
}

open_reif_fine : (box : List (List ℤ)) (f : BaseForm) (r : Term) (s : Bool) → FormFitsNegated box f → TermIn (length box) r → IsBoolean box r → FormIsFit box (open_reif_form f r s)
open_reif_fine box form.Holds r s fits inside boolean = truth_is_fine box r s inside
open_reif_fine box form.Fails r s fits inside boolean = truth_is_fine box r (not s) inside
open_reif_fine box (form.Is b) r s fits inside boolean = let both = fits_kept box b fits in record { fine = record { kept = (both.0, inside); booleans = (both.1, boolean) } }

reif_fine : (box : List (List ℤ)) (b : Base) (r : Term) (s : Bool) → IsBox box → BaseInLimits of_call (length box) b → BaseBooleans box b → TermIn (length box) r → IsBoolean box r → FormIsFit box (reif_form box b r s)
unfolding reif_form
reif_fine box b r s well_formed kept booleans inside boolean =
    let fits = (base_fine box b well_formed kept booleans).fine in
    one_fine box (is_open box r) (open_reif_fine box (form_of box b) r s fits inside boolean)
    (one_fine box (int_eq (term_low box r) (bit s)) (of_form_fine box (form_of box b) fits)
    (negated_fine box (form_of box b) (term.Const (term_low box r)) s fits (low_is box r well_formed inside) (low_bit box r well_formed inside boolean)))

-- ---- arithmetic
-- a constraint on three terms keeps the limits of its terms
three_fine : (con3 : Term → Term → Term → Con) (box : List (List ℤ)) (a b c : Term) (t : Bool) → ((x y z : Term) → TermIn (length box) x → TermIn (length box) y → TermIn (length box) z → FitsBox box (con3 x y z))
    → IsBox box → TermIn (length box) a → TermIn (length box) b → TermIn (length box) c
    → FormIsFit box (if any_open box (a ∷ b ∷ c ∷ []) then reduced.Is (con3 (substituted box a) (substituted box b) (substituted box c)) else of_truth t)
three_fine con3 box a b c t fits well_formed ia ib ic =
    one_fine box (any_open box (a ∷ b ∷ c ∷ []))
    (record { fine = fits (substituted box a) (substituted box b) (substituted box c) (substituted_in box a well_formed ia) (substituted_in box b well_formed ib) (substituted_in box c well_formed ic) })
    (truth_fine box t)

abs_fine : (box : List (List ℤ)) (a b : Term) → IsBox box → TermIn (length box) a → TermIn (length box) b → FormIsFit box (reduced.Is (con.Abs (substituted box a) (substituted box b)))
abs_fine box a b well_formed ia ib = record { fine = record { kept = (substituted_in box a well_formed ia, substituted_in box b well_formed ib); booleans = tt } }

left_suits : (box : List (List ℤ)) (c : Con) → IsBox box → FitsBox box c → IsPlain c → FormIsFit box (plain_form box c)
unfolding arith_form
left_suits box (con.Base b) well_formed fits_box plain = of_form_fine box (form_of box b) (base_fine box b well_formed fits_box.kept fits_box.booleans).fine
left_suits box (con.Reif b r s) well_formed fits_box plain = reif_fine box b r s well_formed fits_box.kept.0 fits_box.booleans.0 fits_box.kept.1 fits_box.booleans.1
left_suits box (con.Times a b c) well_formed fits_box plain =
    three_fine con.Times box a b c (times_is (term_low box a) (term_low box b) (term_low box c)) (λ x y z ix iy iz. record { kept = (ix, iy, iz); booleans = tt }) well_formed fits_box.kept.0 fits_box.kept.1 fits_box.kept.2
left_suits box (con.Abs a b) well_formed fits_box plain = one_fine box (any_open box (a ∷ b ∷ [])) (abs_fine box a b well_formed fits_box.kept.0 fits_box.kept.1) (truth_fine box (abs_is (term_low box a) (term_low box b)))
left_suits box (con.Div a b c) well_formed fits_box plain =
    three_fine con.Div box a b c (div_is (term_low box a) (term_low box b) (term_low box c)) (λ x y z ix iy iz. record { kept = (ix, iy, iz); booleans = tt }) well_formed fits_box.kept.0 fits_box.kept.1 fits_box.kept.2
left_suits box (con.Mod a b c) well_formed fits_box plain =
    three_fine con.Mod box a b c (mod_is (term_low box a) (term_low box b) (term_low box c)) (λ x y z ix iy iz. record { kept = (ix, iy, iz); booleans = tt }) well_formed fits_box.kept.0 fits_box.kept.1 fits_box.kept.2
left_suits box c well_formed fits_box plain = absurd plain

pub suit_law : (box : List (List ℤ)) (c d : Con) → IsBox box → FitsBox box c → IsPlain c → plain_form box c ≡ reduced.Is d → FitsBox box d
suit_law box c d well_formed fits_box plain is = (subst (λ (f : Reduced). FormIsFit box f) is (left_suits box c well_formed fits_box plain)).fine
