-- The scan for the closing quote, one byte on.
use Rattle.std.proofs.Common.{◌≡◌, ◌≢◌, ℕ, zero, suc, ◌+◌, ◌<◌, ◌≤◌, List, ◌∷◌, Bool, true, false, length, drop, get_or, refl, sym, ap, ◌∙◌, arith}
use Rattle.std.proofs.lemmas.List.{at_drop_more, at_drop_all}
use Rattle.std.proofs.lemmas.Bool.Decides.{nat_tests}
use Rattle.fzn_lexer.specs.Scan.{behind, quoted_len}

moves : (i n : ℕ) → behind i (behind 1 n) ≡ behind (i + 1) n
moves i zero = refl
moves i (suc n) = omega arith

breaks : (c : ℕ) (e : Bool) (cs : List ℕ) → c ≡ 10 → quoted_len e (c ∷ cs) ≡ 0
unfolding quoted_len
breaks c e cs h = rw h refl

skips : (c : ℕ) (cs : List ℕ) → c ≢ 10 → quoted_len true (c ∷ cs) ≡ behind 1 (quoted_len false cs)
unfolding quoted_len
skips c cs h = grind (arith, nat_tests)

escapes : (c : ℕ) (cs : List ℕ) → c ≡ 92 → quoted_len false (c ∷ cs) ≡ behind 1 (quoted_len true cs)
unfolding quoted_len
escapes c cs h = rw h refl

closes : (c : ℕ) (cs : List ℕ) → c ≡ 34 → quoted_len false (c ∷ cs) ≡ 1
unfolding quoted_len
closes c cs h = rw h refl

goes : (c : ℕ) (cs : List ℕ) → c ≢ 10 → c ≢ 92 → c ≢ 34 → quoted_len false (c ∷ cs) ≡ behind 1 (quoted_len false cs)
unfolding quoted_len
goes c cs h k l = grind (arith, nat_tests)

module _ (bs : List ℕ) (i total : ℕ) where
  pub ended : (e : Bool) → length bs ≤ i → behind i (quoted_len e (drop i bs)) ≡ total → 0 ≡ total
  unfolding quoted_len
  ended e h so_far = sym (ap (behind i) (at_drop_all (quoted_len e) bs i h)) ∙ so_far

  pub broke : (e : Bool) → i < length bs → get_or bs i 0 ≡ 10 → behind i (quoted_len e (drop i bs)) ≡ total → 0 ≡ total
  broke e h c so_far = sym (ap (behind i) (at_drop_more (quoted_len e) bs i 0 h ∙ breaks _ e _ c)) ∙ so_far

  pub closed : (e : Bool) → i < length bs → e ≡ false → get_or bs i 0 ≡ 34 → behind i (quoted_len e (drop i bs)) ≡ total → i + 1 ≡ total
  closed e h p c so_far =
      let one = at_drop_more (quoted_len e) bs i 0 h ∙ ap (λ b. quoted_len b (get_or bs i 0 ∷ drop (i + 1) bs)) p ∙ closes _ _ c in
      omega (arith, ap (behind i) one, so_far)

  -- one byte on
  on : (e f : Bool) → i < length bs → quoted_len e (get_or bs i 0 ∷ drop (i + 1) bs) ≡ behind 1 (quoted_len f (drop (i + 1) bs)) → behind i (quoted_len e (drop i bs)) ≡ total → behind (i + 1) (quoted_len f (drop (i + 1) bs)) ≡ total
  on e f h step so_far = sym (moves i _) ∙ sym (ap (behind i) (at_drop_more (quoted_len e) bs i 0 h ∙ step)) ∙ so_far

  pub on_skip : (e f : Bool) → i < length bs → e ≡ true → f ≡ false → get_or bs i 0 ≢ 10 → behind i (quoted_len e (drop i bs)) ≡ total → behind (i + 1) (quoted_len f (drop (i + 1) bs)) ≡ total
  on_skip e f h p q c so_far = on e f h (rw (p, q) (skips _ _ c)) so_far

  pub on_escape : (e f : Bool) → i < length bs → e ≡ false → f ≡ true → get_or bs i 0 ≡ 92 → behind i (quoted_len e (drop i bs)) ≡ total → behind (i + 1) (quoted_len f (drop (i + 1) bs)) ≡ total
  on_escape e f h p q c so_far = on e f h (rw (p, q) (escapes _ _ c)) so_far

  pub on_plain : (e f : Bool) → i < length bs → e ≡ false → f ≡ false → get_or bs i 0 ≢ 10 → get_or bs i 0 ≢ 92 → get_or bs i 0 ≢ 34 → behind i (quoted_len e (drop i bs)) ≡ total → behind (i + 1) (quoted_len f (drop (i + 1) bs)) ≡ total
  on_plain e f h p q c d k so_far = on e f h (rw (p, q) (goes _ _ c d k)) so_far
