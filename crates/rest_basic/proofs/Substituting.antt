-- Substituted terms, and constraints that hold or fail by a test: where they hold, what they name and keep.
use Rattle.std.proofs.Common.{◌≡◌, List, [], length, refl, subst, arith, ℤ, Bool, true, false, inl, inr}
use Rattle.std.specs.Prelude.{All, ◌↔◌, if◌then◌else◌, ⊤}
use Rattle.std.proofs.lemmas.Bool.{false≢true}
use Rattle.std.proofs.lemmas.List.Elements.{All-nil, All-weaker, All-filter, filter_passes}
use Rattle.fzn_model.specs.declared.term.Term.{Term}
use Rattle.fzn_model.specs.declared.term.Term.TheVariants as term
use Rattle.fzn_model.specs.Limits.{IsValue, IsBit, TermIn, TermsIn}
use Rattle.fzn_model.specs.Boxes.{IsBox, domain_at, low_value}
use Rattle.fzn_model.specs.Bounds.{term_low, is_open}
use Rattle.fzn_model.specs.Booleans.{FitsBox, IsBoolean}
use Rattle.fzn_model.proofs.Domains.{low_in}
use Rattle.fzn_model.proofs.Terms.{has_value, has_low}
use Rattle.rest_basic.specs.Forms.{substituted, open_terms, empty_clause, of_truth}
use Rattle.rest_basic.specs.Equivalence.{FormHolds, IsLeft, NamesOpen}
use Rattle.rest_basic.specs.declared.reduced.Reduced.{Reduced}
use Rattle.rest_basic.specs.declared.reduced.Reduced.TheVariants as reduced
use Rattle.rest_basic.proofs.ClauseLaw.{has_none}

-- ---- where they hold
pub never_holds : (θ : List ℤ) → FormHolds (reduced.Is empty_clause) θ → ⊥
never_holds θ (inl h) = has_none _ θ h
never_holds θ (inr h) = has_none _ θ h

pub truth_holds : (t : Bool) (P : Type 0) (θ : List ℤ) → ((t ≡ true) ↔ P) → FormHolds (of_truth t) θ ↔ P
truth_holds true P θ decides = (λ _. decides.0 refl, λ _. tt)
truth_holds false P θ decides = (λ h. absurd (never_holds θ h), λ h. absurd (false≢true (decides.1 h)))

-- ---- what is named
pub record FormIsOpen (box : List (List ℤ)) (form : Reduced) : Type 0 where
  pub over : NamesOpen box form

pub one_open : (box : List (List ℤ)) (t : Bool) {x y : Reduced} → FormIsOpen box x → FormIsOpen box y → FormIsOpen box (if t then x else y)
one_open box true a b = a
one_open box false a b = b

pub always_open : (box : List (List ℤ)) → FormIsOpen box reduced.Holds
always_open box = record { over = tt }

pub never_open : (box : List (List ℤ)) → FormIsOpen box (reduced.Is empty_clause)
never_open box = record { over = All-nil (IsLeft box) }

pub truth_open : (box : List (List ℤ)) (t : Bool) → FormIsOpen box (of_truth t)
truth_open box true = always_open box
truth_open box false = never_open box

pub is_left : (box : List (List ℤ)) (t : Term) → is_open box t ≡ true → IsLeft box t
is_left box (term.Const z) e = tt
is_left box (term.Var k) e = e

substituted_by : (box : List (List ℤ)) (t : Term) (o : Bool) → is_open box t ≡ o → IsLeft box (substituted box t)
unfolding substituted
substituted_by box t true e = rw e (is_left box t e)
substituted_by box t false e = rw e tt

pub substituted_left : (box : List (List ℤ)) (t : Term) → IsLeft box (substituted box t)
substituted_left box t = substituted_by box t (is_open box t) refl

pub terms_left : (box : List (List ℤ)) (ts : List Term) → All (IsLeft box) (open_terms box ts)
unfolding open_terms
terms_left box ts = All-weaker (λ t. is_open box t ≡ true) (IsLeft box) (is_left box) (open_terms box ts) (filter_passes (is_open box) ts)

-- ---- what is kept
abbrev pub FormFitsBox : List (List ℤ) → Reduced → Type 0
FormFitsBox box reduced.Holds = ⊤
FormFitsBox box (reduced.Is c) = FitsBox box c

pub record FormIsFit (box : List (List ℤ)) (form : Reduced) : Type 0 where
  pub fine : FormFitsBox box form

pub one_fine : (box : List (List ℤ)) (t : Bool) {x y : Reduced} → FormIsFit box x → FormIsFit box y → FormIsFit box (if t then x else y)
one_fine box true a b = a
one_fine box false a b = b

pub always_fine : (box : List (List ℤ)) → FormIsFit box reduced.Holds
always_fine box = record { fine = tt }

no_terms : (box : List (List ℤ)) → TermsIn (length box) []
no_terms box = record { count = omega arith; terms = All-nil (TermIn (length box)) }

pub never_fine : (box : List (List ℤ)) → FormIsFit box (reduced.Is empty_clause)
never_fine box = record { fine = record { kept = record { pos = no_terms box; neg = no_terms box }; booleans = (All-nil (IsBoolean box), All-nil (IsBoolean box)) } }

pub truth_fine : (box : List (List ℤ)) (t : Bool) → FormIsFit box (of_truth t)
truth_fine box true = always_fine box
truth_fine box false = never_fine box

pub low_is : (box : List (List ℤ)) (t : Term) → IsBox box → TermIn (length box) t → IsValue (term_low box t)
low_is box t well_formed inside = has_value box t (term_low box t) well_formed inside (has_low box t well_formed inside)

pub low_bit : (box : List (List ℤ)) (r : Term) → IsBox box → TermIn (length box) r → IsBoolean box r → IsBit (term_low box r)
low_bit box (term.Const z) well_formed inside boolean = boolean
low_bit box (term.Var k) well_formed inside boolean = let (i, h, is) = low_in (domain_at box k) (well_formed k [] inside) in subst IsBit is (boolean i (low_value (domain_at box k)) h)

substituted_in_by : (box : List (List ℤ)) (t : Term) → IsBox box → TermIn (length box) t → (o : Bool) → is_open box t ≡ o → TermIn (length box) (substituted box t)
unfolding substituted
substituted_in_by box t well_formed inside true e = rw e inside
substituted_in_by box t well_formed inside false e = rw e (low_is box t well_formed inside)

pub substituted_in : (box : List (List ℤ)) (t : Term) → IsBox box → TermIn (length box) t → TermIn (length box) (substituted box t)
substituted_in box t well_formed inside = substituted_in_by box t well_formed inside (is_open box t) refl

pub open_in : (box : List (List ℤ)) (ts : List Term) → All (TermIn (length box)) ts → All (TermIn (length box)) (open_terms box ts)
unfolding open_terms
open_in box ts inside = All-filter (is_open box) (TermIn (length box)) ts inside
