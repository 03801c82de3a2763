-- A list with one element more.
use Rattle.std.proofs.Common.{◌≡◌, ℕ, ◌+◌, ◌<◌, List, [], ◌∷◌, ◌++◌, Bool, true, false, length, get_or, sym, ◌∙◌, arith, ℤ}
use Rattle.std.proofs.lemmas.List.Elements.{All-push}
use Rattle.std.proofs.lemmas.List.{length_push}
use Rattle.fzn_model.specs.declared.term.Term.{Term}
use Rattle.fzn_reader.specs.declared.scalar.Scalar.{Scalar}
use Rattle.fzn_reader.specs.declared.scalar.Scalar.TheVariants.{BoolConst, BoolTerm, IntTerm}
use Rattle.fzn_model.specs.Limits.{TermsIn, OutInLimits}
use Rattle.fzn_reader.specs.Items.{term_need, array_of, array_out}
use Rattle.fzn_reader.specs.Invariants.{TruthIn, TruthsIn, DeclKept, AreRanges, ScalarKept, ListInLimits}

pub list_push : (used : ℕ) (ds : List (List (ℤ × ℤ))) (s : Scalar) (terms : List Term) (t : Term) → used + length terms < 2000000 → ScalarKept ds s t → ListInLimits used ds s terms → ListInLimits used ds s (terms ++ t ∷ [])
list_push used ds s terms t room k p = record { count = omega (arith, length_push terms t); each = All-push (ScalarKept ds s) terms t p.each k }

pub list_terms : (used : ℕ) (ds : List (List (ℤ × ℤ))) (s : Scalar) (terms : List Term) → ListInLimits used ds s terms → TermsIn (length ds) terms
list_terms used ds s terms p = record { count = omega (arith, p.count); terms = λ k t h. (p.each k t h).within }

-- a bool constant
pub const_truth : (ds : List (List (ℤ × ℤ))) (t : Term) → ScalarKept ds BoolConst t → TruthIn ds t
const_truth ds t p = record { within = p.within; truth = p.fits.1 }

pub list_constants : (used : ℕ) (ds : List (List (ℤ × ℤ))) (terms : List Term) → ListInLimits used ds BoolConst terms → TruthsIn ds terms
list_constants used ds terms p = record { count = omega (arith, p.count); each = λ k t h. const_truth ds (get_or terms k t) (p.each k t h) }

list_truths : (used : ℕ) (ds : List (List (ℤ × ℤ))) (terms : List Term) → ListInLimits used ds BoolTerm terms → TruthsIn ds terms
list_truths used ds terms p = record { count = omega (arith, p.count); each = λ k t h. record { within = (p.each k t h).within; truth = (p.each k t h).fits } }

pub array_kept : (used : ℕ) (ds : List (List (ℤ × ℤ))) (truth : Bool) (terms : List Term) → ListInLimits used ds (term_need truth) terms → DeclKept ds (array_of truth terms)
array_kept used ds true terms p = list_truths used ds terms p
array_kept used ds false terms p = list_terms used ds IntTerm terms p

pub out_kept : (used : ℕ) (ds : List (List (ℤ × ℤ))) (name : List ℕ) (truth : Bool) (terms : List Term) (ranges : List (ℤ × ℤ)) (count : ℕ) → length terms ≡ count → AreRanges count ranges → ListInLimits used ds (term_need truth) terms → OutInLimits (length ds) (array_out name truth terms ranges)
out_kept used ds name truth terms ranges count e r p = record { terms = list_terms used ds (term_need truth) terms p; ranges = r.values; shape = (r.few, r.size ∙ sym e) }
