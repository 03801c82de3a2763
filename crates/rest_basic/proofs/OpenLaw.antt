-- What is left of a constraint names open variables and constants alone.
use Rattle.std.proofs.Common.{◌≡◌, List, [], ◌∷◌, length, map, refl, ap, sym, subst, arith, ℤ, pos, Bool, true, false}
use Rattle.std.specs.Prelude.{All, filter, not, ◌||◌, ◌&&◌, if◌then◌else◌, int_lt, int_le, ⊤}
use Rattle.std.specs.Ordering.{int_eq}
use Rattle.std.specs.List.{list_any, list_all}
use Rattle.std.proofs.lemmas.Int.{ints}
use Rattle.std.proofs.lemmas.Bool.{false≢true}
use Rattle.std.proofs.lemmas.List.Elements.{All-cons, All-nil, All-map, All-weaker, All-append, filter_passes}
use Rattle.fzn_model.specs.declared.term.Term.{Term}
use Rattle.fzn_model.specs.declared.term.Term.TheVariants as term
use Rattle.fzn_model.specs.declared.lin.Rel.{Rel}
use Rattle.fzn_model.specs.declared.lin.Rel.TheVariants as rel
use Rattle.fzn_model.specs.declared.base.Base.{Base}
use Rattle.fzn_model.specs.declared.base.Base.TheVariants as base
use Rattle.fzn_model.specs.declared.con.Con.{Con}
use Rattle.fzn_model.specs.declared.con.Con.TheVariants as con
use Rattle.fzn_model.specs.Meaning.{bit}
use Rattle.fzn_model.specs.Named.{base_terms, con_terms}
use Rattle.fzn_model.specs.Limits.{TermIn, BaseInLimits, of_call}
use Rattle.fzn_model.specs.Boxes.{IsBox, domain_at, low_value, high_value}
use Rattle.fzn_model.specs.Bounds.{term_low, is_open, sum_low, sum_high}
use Rattle.fzn_model.specs.Booleans.{FitsBox}
use Rattle.fzn_model.specs.Opposites.{negated_one, negated, opposite, opposite_of}
use Rattle.fzn_model.proofs.Terms.{low_to_high}
use Rattle.fzn_model.proofs.Domains.{one_value}
use Rattle.rest_basic.specs.Forms.{is_open_linear_term, open_linear_terms, some_open, is_outside, left_of, form_of_le, form_of_eq, form_of_ne, form_of_lin, any_at, any_open, open_terms, form_of_clause, term_values, in_set, all_in, none_in, set_left, form_of_member, form_of, of_form, of_truth, negated_form, truth_is, open_reif_form, reif_form, substituted, times_is, abs_is, div_is, mod_is, arith_form, plain_form}
use Rattle.rest_basic.specs.Equivalence.{IsPlain, IsLeft, NamesOpen}
use Rattle.rest_basic.specs.declared.reduced.Reduced.TheVariants as reduced
use Rattle.rest_basic.specs.declared.reduced.BaseForm.{BaseForm}
use Rattle.rest_basic.specs.declared.reduced.BaseForm.TheVariants as form
use Rattle.rest_basic.proofs.Substituting.{FormIsOpen, one_open, always_open, never_open, truth_open, is_left, substituted_left, terms_left}

-- ---- bases
abbrev BaseFormNamesOpen : List (List ℤ) → BaseForm → Type 0
BaseFormNamesOpen box form.Holds = ⊤
BaseFormNamesOpen box form.Fails = ⊤
BaseFormNamesOpen box (form.Is b) = All (IsLeft box) (base_terms b)

record BaseFormIsOpen (box : List (List ℤ)) (f : BaseForm) : Type 0 where
  over : BaseFormNamesOpen box f

one_of : (box : List (List ℤ)) (t : Bool) {x y : BaseForm} → BaseFormIsOpen box x → BaseFormIsOpen box y → BaseFormIsOpen box (if t then x else y)
one_of box true a b = a
one_of box false a b = b

holds_open : (box : List (List ℤ)) → BaseFormIsOpen box form.Holds
holds_open box = record { over = tt }

fails_open : (box : List (List ℤ)) → BaseFormIsOpen box form.Fails
fails_open box = record { over = tt }

parts_left : (box : List (List ℤ)) (ps : List (ℤ × Term)) → All (λ (p : ℤ × Term). IsLeft box p.1) (open_linear_terms box ps)
unfolding open_linear_terms
parts_left box ps = All-weaker (λ (p : ℤ × Term). is_open_linear_term box p ≡ true) (λ (p : ℤ × Term). IsLeft box p.1) (λ p e. is_left box p.1 e) (filter (is_open_linear_term box) ps) (filter_passes (is_open_linear_term box) ps)

left_open : (box : List (List ℤ)) (k : Rel) (ps : List (ℤ × Term)) (r : ℤ) → BaseFormIsOpen box (left_of box k ps r)
unfolding left_of
left_open box k ps r = record { over = All-map (IsLeft box) (λ (p : ℤ × Term). p.1) (open_linear_terms box ps) (parts_left box ps) }

lin_open : (box : List (List ℤ)) (k : Rel) (ps : List (ℤ × Term)) (r : ℤ) → BaseFormIsOpen box (form_of_lin box k ps r)
unfolding form_of_le form_of_eq form_of_ne
lin_open box rel.Le ps r = one_of box (int_le (sum_high box ps) r) (holds_open box) (one_of box (int_lt r (sum_low box ps)) (fails_open box) (left_open box rel.Le ps r))
lin_open box rel.Eq ps r = one_of box (is_outside box ps r) (fails_open box) (one_of box (some_open box ps) (left_open box rel.Eq ps r) (holds_open box))
lin_open box rel.Ne ps r = one_of box (is_outside box ps r) (holds_open box) (one_of box (some_open box ps) (left_open box rel.Ne ps r) (fails_open box))

clause_open : (box : List (List ℤ)) (ps ns : List Term) → BaseFormIsOpen box (form_of_clause box ps ns)
unfolding form_of_clause
clause_open box ps ns =
    let left : BaseFormIsOpen box (form.Is (base.Clause (record { pos = open_terms box ps; neg = open_terms box ns }))) =
    record { over = All-append (IsLeft box) (open_terms box ps) (open_terms box ns) (terms_left box ps) (terms_left box ns) } in
    one_of box (any_at box (pos 1) ps || any_at box (pos 0) ns) (holds_open box) (one_of box (any_open box ps || any_open box ns) left (fails_open box))

-- of one value, all are in a set where some are
one_tested : (p : ℤ → Bool) (xs : List ℤ) (v : ℤ) → xs ≡ v ∷ [] → list_all p xs ≡ false → list_any p xs ≡ true → ⊥
one_tested p xs v is none some = by_test (p v) (subst (λ (ys : List ℤ). list_all p ys ≡ false) is none) (subst (λ (ys : List ℤ). list_any p ys ≡ true) is some)
  where
    by_test : (t : Bool) → (t && true) ≡ false → (t || false) ≡ true → ⊥
    by_test true e f = false≢true (sym e)
    by_test false e f = false≢true f

member_left : (box : List (List ℤ)) (x : Term) (set : List (ℤ × ℤ)) → IsBox box → TermIn (length box) x → list_all (in_set set) (term_values box x) ≡ false → list_any (in_set set) (term_values box x) ≡ true → IsLeft box x
unfolding term_values
member_left box (term.Const z) set well_formed inside none some = tt
member_left box (term.Var k) set well_formed inside none some = by_test (is_open box (term.Var k)) refl
  where
    by_test : (o : Bool) → is_open box (term.Var k) ≡ o → is_open box (term.Var k) ≡ true
    by_test true e = e
    by_test false e =
        let order = low_to_high box (term.Var k) well_formed inside in
        let same : low_value (domain_at box k) ≡ high_value (domain_at box k) = omega (arith, ints, order, e) in
        absurd (one_tested (in_set set) (domain_at box k) (low_value (domain_at box k)) (one_value (domain_at box k) (low_value (domain_at box k)) (well_formed k [] inside) refl same) none some)

member_cases : (box : List (List ℤ)) (x : Term) (set : List (ℤ × ℤ)) → IsBox box → TermIn (length box) x → (a b : Bool) → list_all (in_set set) (term_values box x) ≡ a → list_any (in_set set) (term_values box x) ≡ b
    → BaseFormIsOpen box (if a then form.Holds else (if not b then form.Fails else form.Is (base.Member (record { x = x; set = set_left box set x }))))
member_cases box x set well_formed inside true b e f = holds_open box
member_cases box x set well_formed inside false false e f = fails_open box
member_cases box x set well_formed inside false true e f = record { over = All-cons (IsLeft box) x [] (member_left box x set well_formed inside e f) (All-nil (IsLeft box)) }

member_open : (box : List (List ℤ)) (x : Term) (set : List (ℤ × ℤ)) → IsBox box → TermIn (length box) x → BaseFormIsOpen box (form_of_member box x set)
unfolding form_of_member all_in none_in
member_open box x set well_formed inside = member_cases box x set well_formed inside (list_all (in_set set) (term_values box x)) (list_any (in_set set) (term_values box x)) refl refl

base_open : (box : List (List ℤ)) (b : Base) → IsBox box → BaseInLimits of_call (length box) b → BaseFormIsOpen box (form_of box b)
base_open box (base.Lin l) well_formed kept = lin_open box l.rel l.terms l.r
base_open box (base.Clause c) well_formed kept = clause_open box c.pos c.neg
base_open box (base.Member m) well_formed kept = member_open box m.x m.set well_formed kept.x

-- ---- what is left
of_form_open : (box : List (List ℤ)) (f : BaseForm) → BaseFormNamesOpen box f → FormIsOpen box (of_form f)
of_form_open box form.Holds over = always_open box
of_form_open box form.Fails over = never_open box
of_form_open box (form.Is b) over = record { over = over }

-- a sum and its negative name the same terms
negated_terms : (ps : List (ℤ × Term)) → map (λ (p : ℤ × Term). p.1) (negated ps) ≡ map (λ (p : ℤ × Term). p.1) ps
unfolding negated_one
negated_terms [] = refl
negated_terms (p ∷ ps) = ap (λ (ts : List Term). p.1 ∷ ts) (negated_terms ps)

opposite_open : (box : List (List ℤ)) (k : Rel) (ps : List (ℤ × Term)) (r : ℤ) → All (IsLeft box) (map (λ (p : ℤ × Term). p.1) ps) → All (IsLeft box) (map (λ (p : ℤ × Term). p.1) (opposite_of k ps r).terms)
opposite_open box rel.Le ps r over = subst (λ (ts : List Term). All (IsLeft box) ts) (sym (negated_terms ps)) over
opposite_open box rel.Eq ps r over = over
opposite_open box rel.Ne ps r over = over

negated_open : (box : List (List ℤ)) (f : BaseForm) (r : Term) (s : Bool) → BaseFormNamesOpen box f → IsLeft box r → FormIsOpen box (negated_form f r s)
unfolding opposite
negated_open box form.Holds r s over left = never_open box
negated_open box form.Fails r s over left = always_open box
negated_open box (form.Is (base.Lin l)) r s over left = record { over = opposite_open box l.rel l.terms l.r over }
negated_open box (form.Is (base.Clause c)) r s over left = record { over = All-cons (IsLeft box) r (base_terms (base.Clause c)) left over }
negated_open box (form.Is (base.Member m)) r s over left = record { over = All-cons (IsLeft box) r (base_terms (base.Member m)) left over }

truth_is_open : (box : List (List ℤ)) (r : Term) (s : Bool) → IsLeft box r → FormIsOpen box (truth_is r s)
truth_is_open box r s left = record { over = All-cons (IsLeft box) r [] left (All-nil (IsLeft box)) }

open_reif_names : (box : List (List ℤ)) (f : BaseForm) (r : Term) (s : Bool) → BaseFormNamesOpen box f → IsLeft box r → FormIsOpen box (open_reif_form f r s)
open_reif_names box form.Holds r s over left = truth_is_open box r s left
open_reif_names box form.Fails r s over left = truth_is_open box r (not s) left
open_reif_names box (form.Is b) r s over left = record { over = All-cons (IsLeft box) r (base_terms b) left over }

reif_cases : (box : List (List ℤ)) (f : BaseForm) (r : Term) (s : Bool) → BaseFormNamesOpen box f → (o : Bool) → is_open box r ≡ o → (t : Bool)
    → FormIsOpen box (if o then open_reif_form f r s else (if t then of_form f else negated_form f (term.Const (term_low box r)) s))
reif_cases box f r s over true e t = open_reif_names box f r s over (is_left box r e)
reif_cases box f r s over false e true = of_form_open box f over
reif_cases box f r s over false e false = negated_open box f (term.Const (term_low box r)) s over tt

reif_open : (box : List (List ℤ)) (b : Base) (r : Term) (s : Bool) → IsBox box → BaseInLimits of_call (length box) b → FormIsOpen box (reif_form box b r s)
unfolding reif_form
reif_open box b r s well_formed kept = reif_cases box (form_of box b) r s (base_open box b well_formed kept).over (is_open box r) refl (int_eq (term_low box r) (bit s))

-- ---- arithmetic
two_left : (box : List (List ℤ)) (a b : Term) → All (IsLeft box) (substituted box a ∷ substituted box b ∷ [])
two_left box a b = All-cons (IsLeft box) (substituted box a) (substituted box b ∷ []) (substituted_left box a) (All-cons (IsLeft box) (substituted box b) [] (substituted_left box b) (All-nil (IsLeft box)))

three_left : (box : List (List ℤ)) (a b c : Term) → All (IsLeft box) (substituted box a ∷ substituted box b ∷ substituted box c ∷ [])
three_left box a b c = All-cons (IsLeft box) (substituted box a) (substituted box b ∷ substituted box c ∷ []) (substituted_left box a) (two_left box b c)

-- a constraint on three terms names its terms
three_open : (con3 : Term → Term → Term → Con) (box : List (List ℤ)) (a b c : Term) (t : Bool) → ((x y z : Term) → con_terms (con3 x y z) ≡ x ∷ y ∷ z ∷ [])
    → FormIsOpen box (if any_open box (a ∷ b ∷ c ∷ []) then reduced.Is (con3 (substituted box a) (substituted box b) (substituted box c)) else of_truth t)
three_open con3 box a b c t names =
    one_open box (any_open box (a ∷ b ∷ c ∷ []))
    (record { over = rw (names (substituted box a) (substituted box b) (substituted box c)) (three_left box a b c) })
    (truth_open box t)

left_names : (box : List (List ℤ)) (c : Con) → IsBox box → FitsBox box c → IsPlain c → FormIsOpen box (plain_form box c)
unfolding arith_form
left_names box (con.Base b) well_formed fits_box plain = of_form_open box (form_of box b) (base_open box b well_formed fits_box.kept).over
left_names box (con.Reif b r s) well_formed fits_box plain = reif_open box b r s well_formed fits_box.kept.0
left_names box (con.Times a b c) well_formed fits_box plain = three_open con.Times box a b c (times_is (term_low box a) (term_low box b) (term_low box c)) (λ x y z. refl)
left_names box (con.Abs a b) well_formed fits_box plain = one_open box (any_open box (a ∷ b ∷ [])) (record { over = two_left box a b }) (truth_open box (abs_is (term_low box a) (term_low box b)))
left_names box (con.Div a b c) well_formed fits_box plain = three_open con.Div box a b c (div_is (term_low box a) (term_low box b) (term_low box c)) (λ x y z. refl)
left_names box (con.Mod a b c) well_formed fits_box plain = three_open con.Mod box a b c (mod_is (term_low box a) (term_low box b) (term_low box c)) (λ x y z. refl)
left_names box c well_formed fits_box plain = absurd plain

pub open_law : (box : List (List ℤ)) (c : Con) → IsBox box → FitsBox box c → IsPlain c → NamesOpen box (plain_form box c)
open_law box c well_formed fits_box plain = (left_names box c well_formed fits_box plain).over
