-- The longest text, word and mark.
use Rattle.std.proofs.Common.{◌≡◌, ◌≢◌, ℕ, suc, ◌<◌, ◌≤◌, List, [], ◌∷◌, ◌++◌, Bool, true, false, cond, ◌&&◌, ◌||◌, length, take, refl, arith, inl, inr, ◌⊎◌}
use Rattle.std.specs.Prelude.{◌==◌}
use Rattle.std.specs.List.{prefix_len}
use Rattle.std.proofs.lemmas.Bool.Decides.{nat_tests}
use Rattle.fzn_lexer.specs.Spelling.{IsWord, IsQuoted, IsText, IsMark}
use Rattle.fzn_lexer.specs.Spelling.IsQuoted.{closing, plain, escaped}
use Rattle.fzn_lexer.specs.Scan.{first_byte, behind, word_len, quoted_len, text_len, mark_len}
use Rattle.fzn_lexer.specs.Bytes.{is_start, is_part, is_quote, is_single, is_double}
use Rattle.fzn_lexer.proofs.Fronts.{Fronts, fronts_after, run_passes, run_within, behind_some, behind_one}

-- words
word_by : (c : ℕ) (cs : List ℕ) (b : Bool) → is_start c ≡ b → 0 < cond b (prefix_len is_part (c ∷ cs)) 0 → IsWord (take (cond b (prefix_len is_part (c ∷ cs)) 0) (c ∷ cs))
word_by c cs false e p = absurd (omega arith)
word_by c cs true e p = let s : prefix_len is_part (c ∷ cs) ≡ suc (prefix_len is_part cs) = rw e (omega arith) in rw s (e, run_passes is_part cs)

word_spelled : (bs : List ℕ) → 0 < word_len bs → IsWord (take (word_len bs) bs)
unfolding word_len
word_spelled [] h = absurd (omega arith)
word_spelled (c ∷ cs) h = word_by c cs (is_start c) refl h

word_within : (w rest : List ℕ) → IsWord w → length w ≤ word_len (w ++ rest)
unfolding word_len
word_within [] rest h = absurd h
word_within (c ∷ w) rest h =
    let k = run_within is_part w rest h.1 in
    rw (h.0) (omega (arith, k))

word_some : (w : List ℕ) → IsWord w → 0 < length w
word_some [] h = absurd h
word_some (c ∷ w) h = omega arith

pub fronts_word : Fronts IsWord word_len
fronts_word = record { spelled = word_spelled; within = word_within; some = word_some }

-- texts: behind a backslash the next byte is taken, whatever it is
abbrev Quoted : Bool → List ℕ → Type 0
Quoted false w = IsQuoted w
Quoted true w = IsQuoted (92 ∷ w)

quoted_by : (e a b d : Bool) (c : ℕ) (cs : List ℕ) → (c == 10) ≡ a → (c == 92) ≡ b → (c == 34) ≡ d →
    (0 < quoted_len false cs → Quoted false (take (quoted_len false cs) cs)) → (0 < quoted_len true cs → Quoted true (take (quoted_len true cs) cs)) →
    0 < cond a 0 (cond e (behind 1 (quoted_len false cs)) (cond b (behind 1 (quoted_len true cs)) (cond d 1 (behind 1 (quoted_len false cs))))) →
    Quoted e (take (cond a 0 (cond e (behind 1 (quoted_len false cs)) (cond b (behind 1 (quoted_len true cs)) (cond d 1 (behind 1 (quoted_len false cs)))))) (c ∷ cs))
quoted_by e true b d c cs is_end is_slash is_close plainly behind_slash h = absurd (omega arith)
quoted_by true false b d c cs is_end is_slash is_close plainly behind_slash h =
    let p = behind_some 1 (quoted_len false cs) h in
    let other : c ≢ 10 = grind (arith, nat_tests) in
    rw (behind_one (quoted_len false cs) p) (escaped other (plainly p))
quoted_by false false true d c cs is_end is_slash is_close plainly behind_slash h =
    let p = behind_some 1 (quoted_len true cs) h in
    let c_is : c ≡ 92 = grind (arith, nat_tests) in
    rw (behind_one (quoted_len true cs) p, c_is) (behind_slash p)
quoted_by false false false true c cs is_end is_slash is_close plainly behind_slash h =
    let c_is : c ≡ 34 = grind (arith, nat_tests) in
    rw c_is closing
quoted_by false false false false c cs is_end is_slash is_close plainly behind_slash h =
    let p = behind_some 1 (quoted_len false cs) h in
    let one : c ≢ 34 = grind (arith, nat_tests) in
    let two : c ≢ 92 = grind (arith, nat_tests) in
    let three : c ≢ 10 = grind (arith, nat_tests) in
    rw (behind_one (quoted_len false cs) p) (plain one two three (plainly p))

quoted_spelled : (e : Bool) (bs : List ℕ) → 0 < quoted_len e bs → Quoted e (take (quoted_len e bs) bs)
unfolding quoted_len
quoted_spelled e [] h = absurd (omega arith)
quoted_spelled e (c ∷ cs) h = quoted_by e (c == 10) (c == 92) (c == 34) c cs refl refl refl (quoted_spelled false cs) (quoted_spelled true cs) h

quoted_some : (w : List ℕ) → IsQuoted w → 0 < length w
quoted_some w closing = omega arith
quoted_some w (plain p q r h) = omega arith
quoted_some w (escaped p h) = omega arith

plain_len : (c : ℕ) (cs : List ℕ) → c ≢ 34 → c ≢ 92 → c ≢ 10 → quoted_len false (c ∷ cs) ≡ behind 1 (quoted_len false cs)
unfolding quoted_len
plain_len c cs p q r = grind (arith, nat_tests)

escaped_len : (c : ℕ) (cs : List ℕ) → c ≢ 10 → quoted_len false (92 ∷ c ∷ cs) ≡ behind 1 (behind 1 (quoted_len false cs))
unfolding quoted_len
escaped_len c cs p = let e : (c == 10) ≡ false = grind (arith, nat_tests) in rw e refl

quoted_within : (w rest : List ℕ) → IsQuoted w → length w ≤ quoted_len false (w ++ rest)
unfolding quoted_len
quoted_within w rest closing = omega arith
quoted_within w rest (plain {c = c} {w = v} p q r h) =
    let k = quoted_within v rest h in
    let n = quoted_len false (v ++ rest) in
    let s = behind_one n (omega (arith, k, quoted_some v h)) in
    rw (plain_len c (v ++ rest) p q r, s) (omega (arith, k))
quoted_within w rest (escaped {c = c} {w = v} p h) =
    let k = quoted_within v rest h in
    let n = quoted_len false (v ++ rest) in
    let s = behind_one n (omega (arith, k, quoted_some v h)) in
    let t = behind_one (suc n) (omega arith) in
    rw (escaped_len c (v ++ rest) p, s, t) (omega (arith, k))

fronts_quoted : Fronts IsQuoted (quoted_len false)
fronts_quoted = record { spelled = quoted_spelled false; within = quoted_within; some = quoted_some }

pub fronts_text : Fronts IsText text_len
unfolding text_len
fronts_text = fronts_after is_quote refl IsQuoted (quoted_len false) fronts_quoted

-- marks
double_is : (c d : ℕ) → is_double c d ≡ true → ((c ≡ 58) × (d ≡ 58)) ⊎ ((c ≡ 46) × (d ≡ 46))
double_is c d h = by (c == 58) (d == 58) (c == 46) (d == 46) refl refl refl refl h
  where
    by : (a b e f : Bool) → (c == 58) ≡ a → (d == 58) ≡ b → (c == 46) ≡ e → (d == 46) ≡ f → ((a && b) || (e && f)) ≡ true → ((c ≡ 58) × (d ≡ 58)) ⊎ ((c ≡ 46) × (d ≡ 46))
    by true true e f p q r s h = inl (grind (arith, nat_tests), grind (arith, nat_tests))
    by true false true true p q r s h = inr (grind (arith, nat_tests), grind (arith, nat_tests))
    by true false true false p q r s h = absurd (cc)
    by true false false f p q r s h = absurd (cc)
    by false b true true p q r s h = inr (grind (arith, nat_tests), grind (arith, nat_tests))
    by false b true false p q r s h = absurd (cc)
    by false b false f p q r s h = absurd (cc)

single_by : (b : Bool) (c : ℕ) (cs : List ℕ) → is_single c ≡ b → 0 < cond b 1 0 → IsMark (take (cond b 1 0) (c ∷ cs))
single_by true c cs e h = inl (c, e, refl)
single_by false c cs e h = absurd (omega arith)

mark_by : (b : Bool) (c : ℕ) (cs : List ℕ) → is_double c (first_byte cs) ≡ b → 0 < cond b 2 (cond (is_single c) 1 0) → IsMark (take (cond b 2 (cond (is_single c) 1 0)) (c ∷ cs))
mark_by false c cs e h = single_by (is_single c) c cs refl h
mark_by true c [] e h = absurd (no_second c 0 (omega arith) (double_is c 0 e))
  where
    no_second : (c d : ℕ) → d < 46 → ((c ≡ 58) × (d ≡ 58)) ⊎ ((c ≡ 46) × (d ≡ 46)) → ⊥
    no_second c d small (inl h) = omega (arith, h.1)
    no_second c d small (inr h) = omega (arith, h.1)
mark_by true c (d ∷ cs) e h = two c d cs (double_is c d e)
  where
    two : (c d : ℕ) (cs : List ℕ) → ((c ≡ 58) × (d ≡ 58)) ⊎ ((c ≡ 46) × (d ≡ 46)) → IsMark (take 2 (c ∷ d ∷ cs))
    two c d cs (inl h) = inr (inl (rw (h.0, h.1) refl))
    two c d cs (inr h) = inr (inr (rw (h.0, h.1) refl))

mark_spelled : (bs : List ℕ) → 0 < mark_len bs → IsMark (take (mark_len bs) bs)
unfolding mark_len is_single
mark_spelled [] h = absurd (omega arith)
mark_spelled (c ∷ cs) h = mark_by (is_double c (first_byte cs)) c cs refl h

at_least_one : (b : Bool) → 1 ≤ cond b 2 1
at_least_one true = omega arith
at_least_one false = omega arith

mark_within : (w rest : List ℕ) → IsMark w → length w ≤ mark_len (w ++ rest)
unfolding mark_len
mark_within w rest (inl (c, e, p)) = rw (p, e) (at_least_one (is_double c (first_byte rest)))
mark_within w rest (inr (inl p)) = rw p (omega arith)
mark_within w rest (inr (inr p)) = rw p (omega arith)

mark_some : (w : List ℕ) → IsMark w → 0 < length w
mark_some w (inl (c, e, p)) = rw p (omega arith)
mark_some w (inr (inl p)) = rw p (omega arith)
mark_some w (inr (inr p)) = rw p (omega arith)

pub fronts_mark : Fronts IsMark mark_len
fronts_mark = record { spelled = mark_spelled; within = mark_within; some = mark_some }
