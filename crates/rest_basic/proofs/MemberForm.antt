-- The form of a member of a set, by what is left of the set.
use Rattle.std.proofs.Common.{◌≡◌, ℕ, ◌<◌, length, ◌≤ℤ◌, zero, suc, List, [], ◌∷◌, refl, ap, sym, subst, ◌∙◌, arith, ℤ, Bool, true, false}
use Rattle.std.specs.Prelude.{Contains, slice_index_or, filter, not, if◌then◌else◌}
use Rattle.std.specs.List.{list_any, list_all}
use Rattle.std.proofs.lemmas.Bool.{false≢true, or_parts}
use Rattle.fzn_model.specs.declared.term.Term.{Term}
use Rattle.fzn_model.specs.declared.base.Base.TheVariants as base
use Rattle.fzn_model.specs.Sets.{IsIn}
use Rattle.fzn_model.specs.Boxes.{IsDomain}
use Rattle.fzn_model.proofs.Grouping.{runs_have}
use Rattle.fzn_model.specs.Grouping.{runs_of}
use Rattle.rest_basic.specs.Forms.{term_values, in_set, all_in, none_in, set_left, form_of_member}
use Rattle.rest_basic.specs.declared.reduced.BaseForm.{BaseForm}
use Rattle.rest_basic.specs.declared.reduced.BaseForm.TheVariants as form
use Rattle.rest_basic.proofs.ListMembers.{filter_none}
use Rattle.rest_basic.proofs.Members.{in_none, in_test, test_in, all_pass, left_has}
use Rattle.rest_basic.proofs.GatheredRuns.{all_left}
use Rattle.rest_basic.proofs.Values.{low_is_first, high_is_last}
use Rattle.rest_basic.specs.Gathered.{HasRunOver}
use Rattle.fzn_model.proofs.Domains.{between}
use Rattle.fzn_model.specs.Sets.{IsWithin}
use Rattle.fzn_model.specs.Bounds.{term_low, term_high}
use Rattle.std.proofs.lemmas.Int.{ints}
use Rattle.std.proofs.lemmas.List.{get_or_default}

-- ---- tests of all values, and of some
all_from : (p : ℤ → Bool) (xs : List ℤ) → ((z : ℤ) → Contains xs z → p z ≡ true) → list_all p xs ≡ true
all_from p [] all = refl
all_from p (x ∷ xs) all =
    let first : p x ≡ true = all x (zero, omega arith, refl) in
    let rest = all_from p xs (λ z has. let (k, h, is) = has in all z (suc k, omega (arith, h), is)) in
    rw first rest

some_from : (p : ℤ → Bool) (xs : List ℤ) → list_any p xs ≡ true → (z : ℤ) × Contains xs z × (p z ≡ true)
some_from p [] e = absurd (false≢true e)
some_from p (x ∷ xs) e = by_test (p x) refl (λ f. some_from p xs (rw f at e))
  where
    by_test : (o : Bool) → p x ≡ o → (p x ≡ false → (z : ℤ) × Contains xs z × (p z ≡ true)) → (z : ℤ) × Contains (x ∷ xs) z × (p z ≡ true)
    by_test true f rest = (x, (zero, omega arith, refl), f)
    by_test false f rest = let (z, (k, h, is), passes) = rest f in (z, (suc k, omega (arith, h), is), passes)

-- ---- what is left of a set
same_all : (box : List (List ℤ)) (x : Term) (set : List (ℤ × ℤ)) → IsDomain (term_values box x) → set_left box set x ≡ runs_of (term_values box x) → list_all (in_set set) (term_values box x) ≡ true
unfolding set_left
same_all box x set domain same = all_from (in_set set) (term_values box x) (λ z has.
    let values = runs_have (term_values box x) z domain.rising in
    let left = left_has (term_values box x) set z domain.rising in
    let inside : IsIn (runs_of (filter (in_set set) (term_values box x))) z = subst (λ (rs : List (ℤ × ℤ)). IsIn rs z) (sym same) (values.1 has) in
    in_test set z (left.0 inside).1)

all_same : (box : List (List ℤ)) (x : Term) (set : List (ℤ × ℤ)) → list_all (in_set set) (term_values box x) ≡ true → set_left box set x ≡ runs_of (term_values box x)
all_same box x set e = all_left box x set (λ z has. all_pass (in_set set) (term_values box x) z e has)

none_empty : (box : List (List ℤ)) (x : Term) (set : List (ℤ × ℤ)) → list_any (in_set set) (term_values box x) ≡ false → set_left box set x ≡ []
unfolding set_left runs_of
none_empty box x set e = ap runs_of (filter_none (in_set set) (term_values box x) e)

empty_none : (box : List (List ℤ)) (x : Term) (set : List (ℤ × ℤ)) → IsDomain (term_values box x) → set_left box set x ≡ [] → (t : Bool) → list_any (in_set set) (term_values box x) ≡ t → t ≡ false
unfolding set_left
empty_none box x set domain none true e =
    let (z, has, passes) = some_from (in_set set) (term_values box x) e in
    let left = left_has (term_values box x) set z domain.rising in
    absurd (in_none z (subst (λ (rs : List (ℤ × ℤ)). IsIn rs z) none (left.1 (has, test_in set z passes))))
empty_none box x set domain none false e = refl

-- ---- the form
abbrev form_at : List (List ℤ) → Term → List (ℤ × ℤ) → Bool → Bool → BaseForm
form_at box x set a b = if a then form.Holds else (if not b then form.Fails else form.Is (base.Member (record { x = x; set = set_left box set x })))

by_tests : (box : List (List ℤ)) (x : Term) (set : List (ℤ × ℤ)) (a b : Bool) → list_all (in_set set) (term_values box x) ≡ a → list_any (in_set set) (term_values box x) ≡ b → form_of_member box x set ≡ form_at box x set a b
unfolding form_of_member all_in none_in
by_tests box x set a b e f = rw (e, f) refl

pub form_holds : (box : List (List ℤ)) (x : Term) (set left values : List (ℤ × ℤ)) → left ≡ set_left box set x → values ≡ runs_of (term_values box x) → IsDomain (term_values box x) → left ≡ values → form.Holds ≡ form_of_member box x set
form_holds box x set left values is are domain same =
    sym (by_tests box x set true _ (same_all box x set domain (sym is ∙ same ∙ are)) refl)

pub form_fails : (box : List (List ℤ)) (x : Term) (set left values : List (ℤ × ℤ)) → left ≡ set_left box set x → values ≡ runs_of (term_values box x) → IsDomain (term_values box x) → (left ≡ values → ⊥) → left ≡ [] → form.Fails ≡ form_of_member box x set
form_fails box x set left values is are domain differs none =
    let some = empty_none box x set domain (sym is ∙ none) _ refl in
    by_all (list_all (in_set set) (term_values box x)) refl some
  where
    by_all : (t : Bool) → list_all (in_set set) (term_values box x) ≡ t → list_any (in_set set) (term_values box x) ≡ false → form.Fails ≡ form_of_member box x set
    by_all true e f = absurd (differs (is ∙ all_same box x set e ∙ sym are))
    by_all false e f = sym (by_tests box x set false false e f)

pub form_left : (box : List (List ℤ)) (x : Term) (set left values : List (ℤ × ℤ)) → left ≡ set_left box set x → values ≡ runs_of (term_values box x) → (left ≡ values → ⊥) → (left ≡ [] → ⊥) → form.Is (base.Member (record { x = x; set = left })) ≡ form_of_member box x set
form_left box x set left values is are differs some =
    rw is (by_both (list_all (in_set set) (term_values box x)) (list_any (in_set set) (term_values box x)) refl refl)
  where
    by_both : (t u : Bool) → list_all (in_set set) (term_values box x) ≡ t → list_any (in_set set) (term_values box x) ≡ u → form.Is (base.Member (record { x = x; set = set_left box set x })) ≡ form_of_member box x set
    by_both true u e f = absurd (differs (is ∙ all_same box x set e ∙ sym are))
    by_both false false e f = absurd (some (is ∙ none_empty box x set f))
    by_both false true e f = sym (by_tests box x set false true e f)

-- ---- one run over all values, and none of them
pub enclosed : (set : List (ℤ × ℤ)) (place : ℕ) (d : ℤ × ℤ) (low high : ℤ) → place < length set → (slice_index_or set place d).0 ≤ℤ low → high ≤ℤ (slice_index_or set place d).1 → HasRunOver set low high
unfolding IsIn IsWithin
enclosed set place d low high inside from to = record { has = λ z least most. (place, slice_index_or set place d, inside, get_or_default set place (slice_index_or set place d) d inside, (omega (arith, ints, from, least), omega (arith, ints, to, most))) }

pub enclosed_form : (box : List (List ℤ)) (x : Term) (set : List (ℤ × ℤ)) (low high : ℤ) → IsDomain (term_values box x) → low ≡ term_low box x → high ≡ term_high box x → HasRunOver set low high → form.Holds ≡ form_of_member box x set
enclosed_form box x set low high domain least greatest over =
    sym (by_tests box x set true _ (all_from (in_set set) (term_values box x) (λ z has.
    let ends = between (term_values box x) z domain has in
    let first = low_is_first box x in
    let last = high_is_last box x in
    in_test set z (over.has z (omega (arith, ints, ends.0, first, least)) (omega (arith, ints, ends.1, last, greatest))))) refl)

all_some : (p : ℤ → Bool) (xs : List ℤ) → (xs ≡ [] → ⊥) → list_any p xs ≡ false → list_all p xs ≡ false
all_some p [] some e = absurd (some refl)
all_some p (x ∷ xs) some e = let both = or_parts (p x) (list_any p xs) e in rw both.0 refl

pub empty_form : (box : List (List ℤ)) (x : Term) (set left : List (ℤ × ℤ)) → IsDomain (term_values box x) → left ≡ set_left box set x → left ≡ [] → form.Fails ≡ form_of_member box x set
empty_form box x set left domain is none =
    let some = empty_none box x set domain (sym is ∙ none) _ refl in
    sym (by_tests box x set false false (all_some (in_set set) (term_values box x) domain.some some) some)
