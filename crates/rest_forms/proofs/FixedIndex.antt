-- The members that an index can choose, and the one that a fixed index does.
use Rattle.std.proofs.Common.{◌≡◌, ℕ, zero, suc, ◌+◌, ◌<◌, ◌≤◌, List, [], ◌∷◌, ◌++◌, length, get_or, drop, refl, sym, ap, ◌∙◌, arith, ℤ, pos, negsuc, Bool, true, false, drop-cons}
use Rattle.std.specs.Prelude.{if◌then◌else◌, nat_lt, slice_index_or}
use Rattle.std.proofs.lemmas.Bool.Decides.{Decides-ltb}
use Rattle.std.proofs.lemmas.List.{append_assoc, append-nil, at_drop_all, get_or_default}
use Rattle.std.proofs.lemmas.List.Elements.{All-nil, All-cons}
use Rattle.fzn_model.specs.declared.term.Term.{Term}
use Rattle.fzn_model.specs.declared.term.Term.TheVariants as term
use Rattle.fzn_model.specs.declared.lin.Rel.TheVariants as rel
use Rattle.fzn_model.specs.Limits.{IsValue, TermIn, SumInLimits}
use Rattle.rest_basic.specs.Forms.{substituted, of_form, form_of_lin, empty_clause}
use Rattle.rest_basic.specs.declared.reduced.Reduced.TheVariants as reduced
use Rattle.rest_forms.specs.Forms.{term_has, members_from, member_form}

-- ---- one member more
pub members_more : (box : List (List ℤ)) (i : Term) (xs : List Term) (made more : List Term) (at next : ℕ) (x member : Term) → at < length xs → x ≡ get_or xs at x → next ≡ at + 1
    → made ++ members_from box i (suc at) (drop at xs) ≡ members_from box i 1 xs → member ≡ (if term_has box (pos next) i then substituted box x else term.Const (pos 0)) → more ≡ made ++ member ∷ []
    → more ++ members_from box i (suc next) (drop next xs) ≡ members_from box i 1 xs
members_more box i xs made more at next x member h is step told e pushed =
    let n : next ≡ suc at = omega (arith, step) in
    let front : drop at xs ≡ x ∷ drop (suc at) xs = drop-cons xs at x h ∙ ap (λ (y : Term). y ∷ drop (suc at) xs) (sym is) in
    let whole = rw front at told in
    rw (pushed, e, n) (append_assoc made ((if term_has box (pos (suc at)) i then substituted box x else term.Const (pos 0)) ∷ []) (members_from box i (suc (suc at)) (drop (suc at) xs)) ∙ whole)

pub members_end : (box : List (List ℤ)) (i : Term) (xs made : List Term) (at : ℕ) → length xs ≤ at → made ++ members_from box i (suc at) (drop at xs) ≡ members_from box i 1 xs → made ≡ members_from box i 1 xs
members_end box i xs made at h told =
    let none = at_drop_all (members_from box i (suc at)) xs at h in
    sym (append-nil made) ∙ rw none at told

-- ---- the member of a fixed index
pub equality_kept : (n : ℕ) (x c : Term) → TermIn n x → TermIn n c → SumInLimits n ((pos 1, x) ∷ (negsuc 0, c) ∷ [])
equality_kept n x c ix ic = record {
  count = omega arith;
  factors = All-cons (λ (t : ℤ × Term). IsValue t.0) (pos 1, x) ((negsuc 0, c) ∷ []) (omega arith) (All-cons (λ (t : ℤ × Term). IsValue t.0) (negsuc 0, c) [] (omega arith) (All-nil (λ (t : ℤ × Term). IsValue t.0)));
  terms = All-cons (λ (t : ℤ × Term). TermIn n t.1) (pos 1, x) ((negsuc 0, c) ∷ []) ix (All-cons (λ (t : ℤ × Term). TermIn n t.1) (negsuc 0, c) [] ic (All-nil (λ (t : ℤ × Term). TermIn n t.1)));
}

pub member_some : (box : List (List ℤ)) (z : ℤ) (xs : List Term) (c x : Term) (k : ℕ) → z ≡ pos (suc k) → k < length xs → x ≡ get_or xs k x
    → of_form (form_of_lin box rel.Eq ((pos 1, x) ∷ (negsuc 0, c) ∷ []) (pos 0)) ≡ member_form box z xs c
member_some box z xs c x k is h at =
    let same : x ≡ slice_index_or xs k c = at ∙ get_or_default xs k x c h in
    let less : nat_lt k (length xs) ≡ true = (Decides-ltb k (length xs)).1 h in
    rw (is, same, less) refl

none_by : (box : List (List ℤ)) (xs : List Term) (c : Term) (k : ℕ) (t : Bool) → nat_lt k (length xs) ≡ t → (k < length xs → ⊥) → member_form box (pos (suc k)) xs c ≡ reduced.Is empty_clause
none_by box xs c k true e h = absurd (h ((Decides-ltb k (length xs)).0 e))
none_by box xs c k false e h = rw e refl

pub member_none : (box : List (List ℤ)) (z : ℤ) (xs : List Term) (c : Term) → ((k : ℕ) → k < length xs → z ≡ pos (suc k) → ⊥) → reduced.Is empty_clause ≡ member_form box z xs c
member_none box (pos zero) xs c h = refl
member_none box (pos (suc k)) xs c h = sym (none_by box xs c k (nat_lt k (length xs)) refl (λ less. h k less refl))
member_none box (negsuc n) xs c h = refl
