-- The low bits of words, and labelled constraints from a place on.
use Rattle.std.proofs.Common.{◌≡◌, ◌≤◌, ◌<◌, ◌+◌, ◌%◌, ◌^◌, ℕ, List, [], ◌∷◌, ◌++◌, length, get_or, drop, drop-cons, refl, arith, add-one, ℤ, pos, negsuc}
use Rattle.std.specs.Int.{cast_unsigned, w64, w128}
use Rattle.std.specs.Int.RustNames.{FitsSigned}
use Rattle.std.proofs.lemmas.Int.{ints}
use Rattle.std.proofs.lemmas.List.{drop_all}
use Rattle.fzn_model.specs.declared.con.Con.{Con}
use Rattle.rest_key.specs.Words.{kind_number, labelled}
use Rattle.rest_key.specs.Digest.{low_bits}

pub of_short : (word : ℤ) → FitsSigned w64 word → cast_unsigned w64 word ≡ low_bits word
unfolding low_bits
of_short (pos n) fits = omega (arith, ints, fits)
of_short (negsuc n) fits = omega (arith, ints, fits)

pub of_long : (word : ℤ) → FitsSigned w128 word → cast_unsigned w128 word % 2 ^ 64 ≡ low_bits word
unfolding low_bits
of_long (pos n) fits = refl
of_long (negsuc n) fits = omega (arith, ints, fits)

pub of_number : (n : ℕ) → n < 2 ^ 64 → n ≡ low_bits (pos n)
unfolding low_bits
of_number n small = omega (arith, small)

pub labelled_from : (parts : Con → List ℤ) (cs : List Con) (labels : List ℕ) (i : ℕ) (c : Con) (label : ℕ) → i < length cs → length labels ≡ length cs → labelled parts (drop i cs) (drop i labels) ≡ pos (get_or labels i label) ∷ kind_number (get_or cs i c) ∷ parts (get_or cs i c) ++ labelled parts (drop (i + 1) cs) (drop (i + 1) labels)
labelled_from parts cs labels i c label inside same =
    let first = drop-cons cs i c inside in
    let second = drop-cons labels i label (omega (arith, inside, same)) in
    rw (add-one, first, second) refl

pub labelled_end : (parts : Con → List ℤ) (cs : List Con) (labels : List ℕ) (i : ℕ) → length cs ≤ i → labelled parts (drop i cs) (drop i labels) ≡ []
labelled_end parts cs labels i past = rw (drop_all i cs past) refl
