-- Numbers as coefficients of variables.
use Rattle.std.proofs.Common.{◌≡◌, ℕ, suc, ◌+◌, ◌≤◌, ◌<◌, List, [], ◌∷◌, ◌++◌, length, refl, arith, ap, ◌∙◌, take, get_or, ℤ, pos}
use Rattle.std.proofs.lemmas.List.{take_more, length-take}
use Rattle.std.specs.Prelude.{All}
use Rattle.std.proofs.lemmas.List.Elements.{All-nil, All-cons, All-head, All-tail}
use Rattle.fzn_model.specs.declared.term.Term.{Term}
use Rattle.fzn_model.specs.declared.term.Term.TheVariants as term
use Rattle.fzn_model.specs.Limits.{IsValue, TermIn}
use Rattle.model_gen.specs.Made.{terms_from}

pub terms_length : (k : ℕ) (numbers : List ℕ) → length (terms_from k numbers) ≡ length numbers
unfolding terms_from
terms_length k [] = refl
terms_length k (n ∷ ns) = ap suc (terms_length (k + 1) ns)

-- one number more at the end
pub terms_more : (k : ℕ) (numbers : List ℕ) (n : ℕ) → terms_from k (numbers ++ n ∷ []) ≡ terms_from k numbers ++ (pos n, term.Var (k + length numbers)) ∷ []
unfolding terms_from
terms_more k [] n =
    let e : k ≡ k + 0 = omega arith in
    ap (λ (v : ℕ). (pos n, term.Var v) ∷ []) e
terms_more k (m ∷ ms) n =
    let e : k + 1 + length ms ≡ k + suc (length ms) = omega arith in
    ap (λ (ts : List (ℤ × Term)). (pos m, term.Var k) ∷ ts) (terms_more (k + 1) ms n ∙ ap (λ (v : ℕ). terms_from (k + 1) ms ++ (pos n, term.Var v) ∷ []) e)

-- one turn of a loop over the numbers
pub terms_step : (numbers : List ℕ) (i var : ℕ) (terms terms_new : List (ℤ × Term)) → i < length numbers → var ≡ i → terms ≡ terms_from 0 (take i numbers) → terms_new ≡ terms ++ (pos (get_or numbers i 0), term.Var var) ∷ [] → terms_new ≡ terms_from 0 (take (i + 1) numbers)
terms_step numbers i var terms terms_new inside var_is terms_are new_are =
    let place : 0 + length (take i numbers) ≡ i = omega (arith, length-take i numbers) in
    rw (new_are, terms_are, var_is, take_more numbers i 0 inside, terms_more 0 (take i numbers) (get_or numbers i 0), place) refl

pub factors_in : (k : ℕ) (numbers : List ℕ) → All (λ n. n ≤ 24) numbers → All (λ (t : ℤ × Term). IsValue t.0) (terms_from k numbers)
unfolding terms_from
factors_in k [] small = All-nil (λ (t : ℤ × Term). IsValue t.0)
factors_in k (n ∷ ns) small =
    let here : n ≤ 24 = All-head (λ (m : ℕ). m ≤ 24) n ns small in
    All-cons (λ (t : ℤ × Term). IsValue t.0) _ _ (omega arith) (factors_in (k + 1) ns (All-tail (λ (m : ℕ). m ≤ 24) n ns small))

pub variables_in : (k : ℕ) (numbers : List ℕ) (count : ℕ) → k + length numbers ≤ count → All (λ (t : ℤ × Term). TermIn count t.1) (terms_from k numbers)
unfolding terms_from
variables_in k [] count within = All-nil (λ (t : ℤ × Term). TermIn count t.1)
variables_in k (n ∷ ns) count within = All-cons (λ (t : ℤ × Term). TermIn count t.1) _ _ (omega arith) (variables_in (k + 1) ns count (omega arith))
