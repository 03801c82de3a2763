-- Places and open variables belong to each other.
use Rattle.std.proofs.Common.{◌≡◌, ℕ, zero, suc, ◌+◌, ◌<◌, ◌≤◌, ◌⊎◌, Bool, true, false, List, [], ◌∷◌, ◌++◌, length, get_or, refl, ap, sym, ◌∙◌, arith, ℤ, inl, inr, below_more, add-one, length-append}
use Rattle.std.specs.Prelude.{if◌then◌else◌}
use Rattle.std.proofs.lemmas.List.{get_or_push, get_or_append_left}
use Rattle.std.proofs.lemmas.Bool.{false≢true}
use Rattle.fzn_model.specs.declared.term.Term.{Term}
use Rattle.fzn_model.specs.declared.term.Term.TheVariants as term
use Rattle.fzn_model.specs.Limits.{TermIn}
use Rattle.fzn_model.specs.Boxes.{IsBox}
use Rattle.fzn_model.specs.Bounds.{term_low, is_open}
use Rattle.rest_basic.specs.Forms.{substituted}
use Rattle.rest_global.specs.Projection.{opens, place, numbered, rest_term, rest_variables}
use Rattle.rest_global.specs.Making.{ArePlaces, AreNumbered}

-- ---- the table of places
pub opens_more : (box : List (List ℤ)) (n : ℕ) → opens box (n + 1) ≡ (if is_open box (term.Var n) then opens box n ++ n ∷ [] else opens box n)
opens_more box n = rw add-one refl

places_push : (box : List (List ℤ)) (ps : List ℕ) (n x : ℕ) → ArePlaces box n ps → x ≡ place box n → ArePlaces box (n + 1) (ps ++ x ∷ [])
places_push box ps n x so_far e = record {
  count = omega (arith, length-append ps (x ∷ []), so_far.count);
  each = below_more _ _
      (λ k below. get_or_append_left ps (x ∷ []) 0 k (omega (arith, so_far.count, below)) ∙ so_far.each k below)
      (get_or_push ps x 0 n so_far.count ∙ e);
}

few_more : (o : Bool) (vs ws : List ℕ) (n : ℕ) → length vs ≤ n → ws ≡ (if o then vs ++ n ∷ [] else vs) → length ws ≤ n + 1
few_more true vs ws n few is = omega (arith, ap length is, length-append vs (n ∷ []), few)
few_more false vs ws n few is = omega (arith, ap length is, few)

pub numbered_more : (box : List (List ℤ)) (n x : ℕ) (vs ps ws qs : List ℕ) → AreNumbered box n vs ps → x ≡ length vs → qs ≡ ps ++ x ∷ [] → ws ≡ (if is_open box (term.Var n) then vs ++ n ∷ [] else vs) → IsBox box → AreNumbered box (n + 1) ws qs
unfolding place
numbered_more box n x vs ps ws qs so_far at places variables well_formed = record {
  are = variables ∙ ap (λ (us : List ℕ). if is_open box (term.Var n) then us ++ n ∷ [] else us) so_far.are ∙ sym (opens_more box n);
  table = rw places (places_push box ps n x so_far.table (at ∙ ap length so_far.are));
  few = few_more (is_open box (term.Var n)) vs ws n so_far.few variables;
  well_formed = λ _. well_formed;
}

pub numbered_none : (box : List (List ℤ)) (vs ps : List ℕ) → vs ≡ [] → ps ≡ [] → AreNumbered box 0 vs ps
numbered_none box vs ps none empty = record {
  are = none;
  table = record { count = rw empty refl; each = λ k below. absurd (omega (arith, below)) };
  few = omega (arith, ap length none);
  well_formed = λ some. absurd (omega (arith, some));
}

-- of all variables
pub all_variables : (box : List (List ℤ)) (n : ℕ) (vs ps : List ℕ) → AreNumbered box n vs ps → n ≡ length box → vs ≡ rest_variables box
unfolding rest_variables
all_variables box n vs ps all is = all.are ∙ ap (opens box) is

pub all_places : (box : List (List ℤ)) (n : ℕ) (vs ps : List ℕ) → AreNumbered box n vs ps → n ≡ length box → ArePlaces box (length box) ps
all_places box n vs ps all is = rw (sym is) all.table

no_variable : (box : List (List ℤ)) → (0 < length box → IsBox box) → IsBox box
no_variable box well_formed k d inside = well_formed (omega (arith, inside)) k d inside

pub all_sound : (box : List (List ℤ)) (n : ℕ) (vs ps : List ℕ) → AreNumbered box n vs ps → n ≡ length box → IsBox box
all_sound box n vs ps all is = no_variable box (λ some. all.well_formed (omega (arith, is, some)))

-- ---- what stands at a place
split : (k n : ℕ) → k < suc n → (k < n) ⊎ (k ≡ n)
split k n below = grind arith

at_step : (box : List (List ℤ)) (n k d : ℕ) (o : Bool) → is_open box (term.Var n) ≡ o → is_open box (term.Var k) ≡ true → ((length (opens box k) < length (opens box n)) × (get_or (opens box n) (length (opens box k)) d ≡ k)) ⊎ (k ≡ n)
    → (length (opens box k) < length (if o then opens box n ++ n ∷ [] else opens box n)) × (get_or (if o then opens box n ++ n ∷ [] else opens box n) (length (opens box k)) d ≡ k)
at_step box n k d true e one (inl p) = (omega (arith, p.0, length-append (opens box n) (n ∷ [])), get_or_append_left (opens box n) (n ∷ []) d (length (opens box k)) p.0 ∙ p.1)
at_step box n k d false e one (inl p) = p
at_step box n k d true e one (inr same) = rw same (omega (arith, length-append (opens box n) (n ∷ [])), get_or_push (opens box n) n d (length (opens box n)) refl)
at_step box n k d false e one (inr same) = absurd (false≢true (sym e ∙ ap (λ (i : ℕ). is_open box (term.Var i)) (sym same) ∙ one))

-- what stands at the place of an open variable is that variable
pub opens_at : (box : List (List ℤ)) (n k d : ℕ) → k < n → is_open box (term.Var k) ≡ true → (place box k < length (opens box n)) × (get_or (opens box n) (place box k) d ≡ k)
unfolding place
opens_at box zero k d below one = absurd (omega arith)
opens_at box (suc n) k d below one = at_step box n k d (is_open box (term.Var n)) refl one (elim (split k n below) [ inl less ↦ inl (opens_at box n k d less one) | inr same ↦ inr same ])

-- the variable that stands at a place is open, and has that place
pub record StandsAt (box : List (List ℤ)) (n i k : ℕ) : Type 0 where
  pub below : k < n
  pub several : is_open box (term.Var k) ≡ true
  pub place : place box k ≡ i

widen : (box : List (List ℤ)) (n i k : ℕ) → StandsAt box n i k → StandsAt box (suc n) i k
widen box n i k s = record { below = omega (arith, s.below); several = s.several; place = s.place }

from_step : (box : List (List ℤ)) (n i d : ℕ) (o : Bool) → is_open box (term.Var n) ≡ o → (i < length (opens box n) → StandsAt box n i (get_or (opens box n) i d))
    → i < length (if o then opens box n ++ n ∷ [] else opens box n) → StandsAt box (suc n) i (get_or (if o then opens box n ++ n ∷ [] else opens box n) i d)
unfolding place
from_step box n i d false e rest inside = widen box n i _ (rest inside)
from_step box n i d true e rest inside =
    elim (split i (length (opens box n)) (omega (arith, inside, length-append (opens box n) (n ∷ [])))) [
      | inl less ↦ rw (get_or_append_left (opens box n) (n ∷ []) d i less) (widen box n i _ (rest less))
      | inr same ↦ rw (get_or_push (opens box n) n d i (sym same)) (record { below = omega arith; several = e; place = sym same })
    ]

pub opens_from : (box : List (List ℤ)) (n i d : ℕ) → i < length (opens box n) → StandsAt box n i (get_or (opens box n) i d)
opens_from box zero i d inside = absurd (omega arith)
opens_from box (suc n) i d inside = from_step box n i d (is_open box (term.Var n)) refl (opens_from box n i d) inside

pub opens_below : (box : List (List ℤ)) (n : ℕ) → length (opens box n) ≤ n
opens_below box zero = omega arith
opens_below box (suc n) = omega (arith, few_more (is_open box (term.Var n)) (opens box n) (opens box (suc n)) n (opens_below box n) refl)

-- ---- terms of the rest
substituted_by : (box : List (List ℤ)) (t : Term) (k n : ℕ) (o : Bool) → is_open box t ≡ o → TermIn n t → term.Var k ≡ (if o then t else term.Const (term_low box t)) → k < n
substituted_by box (term.Const z) k n true e inside is = (cc)
substituted_by box (term.Var j) k n true e inside is = let same : k ≡ j = (cc) in omega (arith, same, inside)
substituted_by box t k n false e inside is = (cc)

pub substituted_inside : (box : List (List ℤ)) (t : Term) (k n : ℕ) → term.Var k ≡ substituted box t → TermIn n t → k < n
unfolding substituted
substituted_inside box t k n is inside = substituted_by box t k n (is_open box t) refl inside is

pub numbered_constant : (box : List (List ℤ)) (t : Term) (z : ℤ) → term.Const z ≡ substituted box t → term.Const z ≡ rest_term box t
unfolding rest_term
numbered_constant box t z is = ap (numbered box) is

pub numbered_variable : (box : List (List ℤ)) (places : List ℕ) (n : ℕ) (t : Term) (k : ℕ) → ArePlaces box n places → term.Var k ≡ substituted box t → TermIn n t → term.Var (get_or places k 0) ≡ rest_term box t
unfolding rest_term
numbered_variable box places n t k table is inside = ap term.Var (table.each k (substituted_inside box t k n is inside)) ∙ ap (numbered box) is
