-- The form of a member of a set holds exactly where the member does.
use Rattle.std.proofs.Common.{◌≡◌, List, length, refl, sym, ◌∙◌, ℤ, ◌<ℤ◌, Bool, true, false}
use Rattle.std.specs.Prelude.{AllPairs, Contains, not, ◌↔◌, if◌then◌else◌}
use Rattle.std.specs.List.{list_any, list_all}
use Rattle.std.proofs.lemmas.Bool.{false≢true}
use Rattle.fzn_model.specs.declared.term.Term.{Term}
use Rattle.fzn_model.specs.declared.base.Base.TheVariants as base
use Rattle.fzn_model.specs.Sets.{IsIn}
use Rattle.fzn_model.specs.Meaning.{val}
use Rattle.fzn_model.specs.Limits.{TermIn}
use Rattle.fzn_model.specs.Boxes.{IsBox, InBox}
use Rattle.rest_basic.specs.Forms.{term_values, in_set, all_in, none_in, set_left, form_of_member}
use Rattle.rest_basic.specs.declared.reduced.BaseForm.TheVariants as form
use Rattle.rest_basic.proofs.TermsInBox.{value_among}
use Rattle.rest_basic.proofs.Values.{domain_of}
use Rattle.rest_basic.proofs.LinLaw.{BaseFormHolds}
use Rattle.rest_basic.proofs.Members.{test_in, in_test, all_pass, some_passes, left_has}

member_cases : (box : List (List ℤ)) (x : Term) (set : List (ℤ × ℤ)) (θ : List ℤ) → AllPairs (λ y z. y <ℤ z) (term_values box x) → Contains (term_values box x) (val x θ)
    → (a : Bool) → list_all (in_set set) (term_values box x) ≡ a → (b : Bool) → list_any (in_set set) (term_values box x) ≡ b
    → BaseFormHolds (if a then form.Holds else (if not b then form.Fails else form.Is (base.Member (record { x = x; set = set_left box set x })))) θ ↔ IsIn set (val x θ)
unfolding set_left
member_cases box x set θ rising among true e b f = (λ _. test_in set (val x θ) (all_pass (in_set set) (term_values box x) (val x θ) e among), λ _. tt)
member_cases box x set θ rising among false e false f =
    (λ h. absurd h, λ h. false≢true (sym f ∙ some_passes (in_set set) (term_values box x) (val x θ) among (in_test set (val x θ) h)))
member_cases box x set θ rising among false e true f =
    let both = left_has (term_values box x) set (val x θ) rising in
    (λ h. (both.0 h).1, λ h. both.1 (among, h))

pub member_law : (box : List (List ℤ)) (x : Term) (set : List (ℤ × ℤ)) (θ : List ℤ) → IsBox box → InBox box θ → TermIn (length box) x → BaseFormHolds (form_of_member box x set) θ ↔ IsIn set (val x θ)
unfolding form_of_member all_in none_in
member_law box x set θ well_formed lies inside =
    member_cases box x set θ (domain_of box x well_formed inside).rising (value_among box x θ lies inside) (list_all (in_set set) (term_values box x)) refl (list_any (in_set set) (term_values box x)) refl
