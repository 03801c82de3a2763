-- The form that a constraint has in a box: fixed variables are their values, and what the bounds decide is left out. It is
-- this project's own.
use Rattle.std.specs.Prelude.{Bool, true, false, not, ◌&&◌, ◌||◌, if◌then◌else◌, List, [], ◌∷◌, filter, ℤ, pos, ◌-ℤ◌, ◌*ℤ◌, int_lt, int_le, int_div, int_rem, unsigned_abs}
use Rattle.std.specs.Ordering.{int_eq}
use Rattle.std.specs.List.{list_any, list_all}
use Rattle.fzn_model.specs.declared.term.Term.{Term}
use Rattle.fzn_model.specs.declared.term.Term.TheVariants as term
use Rattle.fzn_model.specs.declared.lin.Rel.{Rel}
use Rattle.fzn_model.specs.declared.lin.Rel.TheVariants as rel
use Rattle.fzn_model.specs.declared.base.Base.{Base}
use Rattle.fzn_model.specs.declared.base.Base.TheVariants as base
use Rattle.fzn_model.specs.declared.con.Con.{Con}
use Rattle.fzn_model.specs.declared.con.Con.TheVariants as con
use Rattle.fzn_model.specs.Meaning.{bit}
use Rattle.fzn_model.specs.Boxes.{domain_at}
use Rattle.fzn_model.specs.Bounds.{term_low, term_high, is_open, sum_of, sum_low, sum_high}
use Rattle.fzn_model.specs.Grouping.{runs_of}
use Rattle.fzn_model.specs.Opposites.{opposite}
use Rattle.rest_basic.specs.declared.reduced.Reduced.{Reduced}
use Rattle.rest_basic.specs.declared.reduced.Reduced.TheVariants as reduced
use Rattle.rest_basic.specs.declared.reduced.BaseForm.{BaseForm}
use Rattle.rest_basic.specs.declared.reduced.BaseForm.TheVariants as form

-- ---- terms
-- the term, or its value where it has one alone
unfoldable pub substituted : List (List ℤ) → Term → Term
substituted box t = if is_open box t then t else term.Const (term_low box t)

unfoldable pub open_terms : List (List ℤ) → List Term → List Term
open_terms box ts = filter (is_open box) ts

unfoldable pub any_open : List (List ℤ) → List Term → Bool
any_open box ts = list_any (is_open box) ts

-- the term has this one value
unfoldable pub is_at : List (List ℤ) → ℤ → Term → Bool
is_at box z t = int_eq (term_low box t) z && int_eq (term_high box t) z

unfoldable pub any_at : List (List ℤ) → ℤ → List Term → Bool
any_at box z ts = list_any (is_at box z) ts

-- the values of a term, rising
unfoldable pub term_values : List (List ℤ) → Term → List ℤ
term_values box (term.Const z) = z ∷ []
term_values box (term.Var k) = domain_at box k

-- the constraint that never holds
abbrev pub empty_clause : Con
empty_clause = con.Base (base.Clause (record { pos = []; neg = [] }))

-- ---- linear relations
-- the terms of a sum, each a coefficient beside its term, that are open
abbrev pub is_open_linear_term : List (List ℤ) → ℤ × Term → Bool
is_open_linear_term box p = is_open box p.1

unfoldable pub open_linear_terms : List (List ℤ) → List (ℤ × Term) → List (ℤ × Term)
open_linear_terms box ps = filter (is_open_linear_term box) ps

unfoldable pub some_open : List (List ℤ) → List (ℤ × Term) → Bool
some_open box ps = list_any (is_open_linear_term box) ps

-- coefficient times value of a term that is fixed; 0 of an open one
abbrev pub fixed_product : List (List ℤ) → ℤ × Term → ℤ
fixed_product box p = if is_open box p.1 then pos 0 else (p.0 *ℤ term_low box p.1)

-- the sum of the fixed terms
unfoldable pub fixed_sum : List (List ℤ) → List (ℤ × Term) → ℤ
fixed_sum box ps = sum_of (fixed_product box) ps

-- the open terms, against the number less the sum of the fixed ones
unfoldable pub left_of : List (List ℤ) → Rel → List (ℤ × Term) → ℤ → BaseForm
left_of box rel ps r = form.Is (base.Lin (record { rel = rel; terms = open_linear_terms box ps; r = r -ℤ fixed_sum box ps }))

-- the number lies outside the least and the greatest of the sum
abbrev pub is_outside : List (List ℤ) → List (ℤ × Term) → ℤ → Bool
is_outside box ps r = int_lt r (sum_low box ps) || int_lt (sum_high box ps) r

unfoldable pub form_of_le : List (List ℤ) → List (ℤ × Term) → ℤ → BaseForm
form_of_le box ps r =
    if int_le (sum_high box ps) r then form.Holds else
    if int_lt r (sum_low box ps) then form.Fails else left_of box rel.Le ps r

unfoldable pub form_of_eq : List (List ℤ) → List (ℤ × Term) → ℤ → BaseForm
form_of_eq box ps r =
    if is_outside box ps r then form.Fails else
    if some_open box ps then left_of box rel.Eq ps r else form.Holds

unfoldable pub form_of_ne : List (List ℤ) → List (ℤ × Term) → ℤ → BaseForm
form_of_ne box ps r =
    if is_outside box ps r then form.Holds else
    if some_open box ps then left_of box rel.Ne ps r else form.Fails

abbrev pub form_of_lin : List (List ℤ) → Rel → List (ℤ × Term) → ℤ → BaseForm
form_of_lin box rel.Le ps r = form_of_le box ps r
form_of_lin box rel.Eq ps r = form_of_eq box ps r
form_of_lin box rel.Ne ps r = form_of_ne box ps r

-- ---- clauses
-- a true literal makes it hold; false ones are left out
unfoldable pub form_of_clause : List (List ℤ) → List Term → List Term → BaseForm
form_of_clause box pos_literals neg_literals =
    if any_at box (pos 1) pos_literals || any_at box (pos 0) neg_literals then form.Holds else
    if any_open box pos_literals || any_open box neg_literals then form.Is (base.Clause (record { pos = open_terms box pos_literals; neg = open_terms box neg_literals })) else
    form.Fails

-- ---- members of a set
unfoldable pub in_set : List (ℤ × ℤ) → ℤ → Bool
in_set set z = list_any (λ run. int_le run.0 z && int_le z run.1) set

unfoldable pub all_in : List (List ℤ) → List (ℤ × ℤ) → Term → Bool
all_in box set x = list_all (in_set set) (term_values box x)

unfoldable pub none_in : List (List ℤ) → List (ℤ × ℤ) → Term → Bool
none_in box set x = not (list_any (in_set set) (term_values box x))

-- the set without what lies outside the domain of the term
unfoldable pub set_left : List (List ℤ) → List (ℤ × ℤ) → Term → List (ℤ × ℤ)
set_left box set x = runs_of (filter (in_set set) (term_values box x))

unfoldable pub form_of_member : List (List ℤ) → Term → List (ℤ × ℤ) → BaseForm
form_of_member box x set =
    if all_in box set x then form.Holds else
    if none_in box set x then form.Fails else
    form.Is (base.Member (record { x = x; set = set_left box set x }))

abbrev pub form_of : List (List ℤ) → Base → BaseForm
form_of box (base.Lin l) = form_of_lin box l.rel l.terms l.r
form_of box (base.Clause c) = form_of_clause box c.pos c.neg
form_of box (base.Member m) = form_of_member box m.x m.set

-- ---- a base, and a reified base
-- a base that has to hold
abbrev pub of_form : BaseForm → Reduced
of_form form.Holds = reduced.Holds
of_form form.Fails = reduced.Is empty_clause
of_form (form.Is b) = reduced.Is (con.Base b)

-- the negation of a base: the opposite relation, or the base reified by a constant r that is not the value of the flag
abbrev pub negated_base : Base → Term → Bool → Con
negated_base (base.Lin l) r f = con.Base (base.Lin (opposite l))
negated_base (base.Clause c) r f = con.Reif (base.Clause c) r f
negated_base (base.Member m) r f = con.Reif (base.Member m) r f

-- what is left of a base that has to fail
abbrev pub negated_form : BaseForm → Term → Bool → Reduced
negated_form form.Holds r f = reduced.Is empty_clause
negated_form form.Fails r f = reduced.Holds
negated_form (form.Is b) r f = reduced.Is (negated_base b r f)

-- the term has the value of the flag
abbrev pub truth_is : Term → Bool → Reduced
truth_is r f = reduced.Is (con.Base (base.Lin (record { rel = rel.Eq; terms = (pos 1, r) ∷ []; r = bit f })))

-- what is left of a reified base whose truth term r is open
abbrev pub open_reif_form : BaseForm → Term → Bool → Reduced
open_reif_form form.Holds r f = truth_is r f
open_reif_form form.Fails r f = truth_is r (not f)
open_reif_form (form.Is b) r f = reduced.Is (con.Reif b r f)

unfoldable pub reif_form : List (List ℤ) → Base → Term → Bool → Reduced
reif_form box b r f =
    if is_open box r then open_reif_form (form_of box b) r f else
    if int_eq (term_low box r) (bit f) then of_form (form_of box b) else
    negated_form (form_of box b) (term.Const (term_low box r)) f

-- ---- arithmetic
abbrev pub of_truth : Bool → Reduced
of_truth true = reduced.Holds
of_truth false = reduced.Is empty_clause

abbrev pub times_is : ℤ → ℤ → ℤ → Bool
times_is a b c = int_eq (a *ℤ b) c

abbrev pub abs_is : ℤ → ℤ → Bool
abs_is a b = int_eq b (pos (unsigned_abs a))

abbrev pub div_is : ℤ → ℤ → ℤ → Bool
div_is a b c = not (int_eq b (pos 0)) && int_eq c (int_div a b)

abbrev pub mod_is : ℤ → ℤ → ℤ → Bool
mod_is a b c = not (int_eq b (pos 0)) && int_eq c (int_rem a b)

unfoldable pub arith_form : List (List ℤ) → Con → Reduced
arith_form box (con.Times a b c) =
    if any_open box (a ∷ b ∷ c ∷ []) then reduced.Is (con.Times (substituted box a) (substituted box b) (substituted box c)) else
    of_truth (times_is (term_low box a) (term_low box b) (term_low box c))
arith_form box (con.Abs a b) =
    if any_open box (a ∷ b ∷ []) then reduced.Is (con.Abs (substituted box a) (substituted box b)) else
    of_truth (abs_is (term_low box a) (term_low box b))
arith_form box (con.Div a b c) =
    if any_open box (a ∷ b ∷ c ∷ []) then reduced.Is (con.Div (substituted box a) (substituted box b) (substituted box c)) else
    of_truth (div_is (term_low box a) (term_low box b) (term_low box c))
arith_form box (con.Mod a b c) =
    if any_open box (a ∷ b ∷ c ∷ []) then reduced.Is (con.Mod (substituted box a) (substituted box b) (substituted box c)) else
    of_truth (mod_is (term_low box a) (term_low box b) (term_low box c))
arith_form box c = reduced.Is c

-- ---- the kinds of this crate
abbrev pub plain_form : List (List ℤ) → Con → Reduced
plain_form box (con.Base b) = of_form (form_of box b)
plain_form box (con.Reif b r f) = reif_form box b r f
plain_form box c = arith_form box c
