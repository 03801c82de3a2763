-- Lengths of longest fronts: one byte after another, and joined.
use Rattle.std.proofs.Common.{◌≡◌, ℕ, zero, suc, ◌+◌, ◌<◌, ◌≤◌, List, [], ◌∷◌, ◌++◌, Bool, true, false, cond, ◌&&◌, length, take, drop, refl, sym, ◌∙◌, arith, true≢false, inl, inr}
use Rattle.std.specs.List.{prefix_len, list_all}
use Rattle.std.proofs.lemmas.List.Folds.{length-prefix_len}
use Rattle.fzn_lexer.specs.Spelling.{IsRun, IsAfter, IsMaybeAfter}
use Rattle.fzn_lexer.specs.Scan.{first_byte, behind, after_len, maybe_after_len}

-- each front that spells it is at most as long as `len` says, and where `len` isn't 0 the front of that length spells it
pub record Fronts (Spelled : List ℕ → Type 0) (len : List ℕ → ℕ) : Type 0 where
  pub spelled : (bs : List ℕ) → 0 < len bs → Spelled (take (len bs) bs)
  pub within : (w rest : List ℕ) → Spelled w → length w ≤ len (w ++ rest)
  pub some : (w : List ℕ) → Spelled w → 0 < length w

pub and_both : (a b : Bool) → (a && b) ≡ true → (a ≡ true) × (b ≡ true)
and_both true b h = (refl, h)
and_both false b h = absurd (cc)

-- the bytes are none, or the first doesn't pass
abbrev pub StopsAt : (ℕ → Bool) → List ℕ → Type 0
StopsAt test [] = Unit {0}
StopsAt test (c ∷ cs) = test c ≡ false

-- a run that isn't followed by a byte that passes is the longest
pub run_is : (test : ℕ → Bool) (w rest : List ℕ) → list_all test w ≡ true → StopsAt test rest → prefix_len test (w ++ rest) ≡ length w
run_is test [] [] h s = refl
run_is test [] (c ∷ cs) h s = rw s refl
run_is test (c ∷ w) rest h s =
    let p = and_both (test c) (list_all test w) h in
    let k = run_is test w rest p.1 s in
    rw (p.0, k) (omega arith)

pub run_within : (test : ℕ → Bool) (w rest : List ℕ) → list_all test w ≡ true → length w ≤ prefix_len test (w ++ rest)
run_within test [] rest h = omega arith
run_within test (c ∷ w) rest h =
    let p = and_both (test c) (list_all test w) h in
    let k = run_within test w rest p.1 in
    rw (p.0) (omega arith)

passes_by : (test : ℕ → Bool) (c : ℕ) (cs : List ℕ) (b : Bool) → test c ≡ b → list_all test (take (prefix_len test cs) cs) ≡ true → list_all test (take (cond b (1 + prefix_len test cs) 0) (c ∷ cs)) ≡ true
passes_by test c cs true e h = let s : 1 + prefix_len test cs ≡ suc (prefix_len test cs) = omega arith in rw (s, e) h
passes_by test c cs false e h = refl

-- the longest run passes
pub run_passes : (test : ℕ → Bool) (bs : List ℕ) → list_all test (take (prefix_len test bs) bs) ≡ true
run_passes test [] = refl
run_passes test (c ∷ cs) = passes_by test c cs (test c) refl (run_passes test cs)

run_spelled : (test : ℕ → Bool) (bs : List ℕ) → 0 < prefix_len test bs → IsRun test (take (prefix_len test bs) bs)
run_spelled test bs h = nonempty test (take (prefix_len test bs) bs) (omega (arith, length-prefix_len test bs)) (run_passes test bs)
  where
    nonempty : (test : ℕ → Bool) (w : List ℕ) → 0 < length w → list_all test w ≡ true → IsRun test w
    nonempty test [] p q = absurd (omega arith)
    nonempty test (c ∷ w) p q = and_both (test c) (list_all test w) q

pub run_all : (test : ℕ → Bool) (w : List ℕ) → IsRun test w → (list_all test w ≡ true) × (0 < length w)
run_all test [] h = absurd h
run_all test (c ∷ w) h = (rw (h.0, h.1) refl, omega arith)

pub fronts_run : (test : ℕ → Bool) → Fronts (IsRun test) (prefix_len test)
fronts_run test = record {
  spelled = run_spelled test;
  within = λ w rest h. run_within test w rest (run_all test w h).0;
  some = λ w h. (run_all test w h).1;
}

pub behind_more : (n m : ℕ) → 0 < m → behind n m ≡ n + m
behind_more n zero h = absurd (omega arith)
behind_more n (suc m) h = omega arith

pub behind_some : (n m : ℕ) → 0 < behind n m → 0 < m
behind_some n zero h = h
behind_some n (suc m) h = omega arith

pub behind_one : (m : ℕ) → 0 < m → behind 1 m ≡ suc m
behind_one zero h = absurd (omega arith)
behind_one (suc m) h = omega arith

module _ (test : ℕ → Bool) (none : test 0 ≡ false) (Spelled : List ℕ → Type 0) (len : List ℕ → ℕ) (f : Fronts Spelled len) where
  after_by : (bs : List ℕ) (b : Bool) → test (first_byte bs) ≡ b → 0 < cond b (behind 1 (len (drop 1 bs))) 0 → IsAfter test Spelled (take (cond b (behind 1 (len (drop 1 bs))) 0) bs)
  after_by bs false e h = absurd (omega arith)
  after_by [] true e h = absurd (true≢false (sym e ∙ none))
  after_by (c ∷ cs) true e h =
      let p = behind_some 1 (len cs) h in
      rw (behind_one (len cs) p) (c, take (len cs) cs, e, f.spelled cs p, refl)

  after_spelled : (bs : List ℕ) → 0 < after_len test len bs → IsAfter test Spelled (take (after_len test len bs) bs)
  after_spelled bs h = after_by bs (test (first_byte bs)) refl h

  after_within : (w rest : List ℕ) → IsAfter test Spelled w → length w ≤ after_len test len (w ++ rest)
  after_within w rest h =
      let k = f.within h.1 rest h.3 in
      let p = f.some h.1 h.3 in
      let s = behind_one (len (h.1 ++ rest)) (omega (arith, k, p)) in
      rw (h.4, h.2, s) (omega (arith, k))

  after_some : (w : List ℕ) → IsAfter test Spelled w → 0 < length w
  after_some w h = rw (h.4) (omega arith)

  pub fronts_after : Fronts (IsAfter test Spelled) (after_len test len)
  fronts_after = record { spelled = after_spelled; within = after_within; some = after_some }

  maybe_by : (bs : List ℕ) (b : Bool) → test (first_byte bs) ≡ b → 0 < cond b (behind 1 (len (drop 1 bs))) (len bs) → IsMaybeAfter test Spelled (take (cond b (behind 1 (len (drop 1 bs))) (len bs)) bs)
  maybe_by bs false e h = inl (f.spelled bs h)
  maybe_by bs true e h = inr (after_by bs true e h)

  -- what is spelled never begins with the optional byte
  module _ (apart : (w : List ℕ) → Spelled w → test (first_byte w) ≡ false) where
    plain_within : (w rest : List ℕ) → Spelled w → test (first_byte w) ≡ false → 0 < length w → length w ≤ maybe_after_len test len (w ++ rest)
    plain_within [] rest h e p = absurd (omega arith)
    plain_within (c ∷ w) rest h e p = rw e (f.within (c ∷ w) rest h)

    maybe_within : (w rest : List ℕ) → IsMaybeAfter test Spelled w → length w ≤ maybe_after_len test len (w ++ rest)
    maybe_within w rest (inl h) = plain_within w rest h (apart w h) (f.some w h)
    maybe_within w rest (inr h) =
        let k = f.within h.1 rest h.3 in
        let p = f.some h.1 h.3 in
        let s = behind_one (len (h.1 ++ rest)) (omega (arith, k, p)) in
        rw (h.4, h.2, s) (omega (arith, k))

    maybe_some : (w : List ℕ) → IsMaybeAfter test Spelled w → 0 < length w
    maybe_some w (inl h) = f.some w h
    maybe_some w (inr h) = after_some w h

    pub fronts_maybe : Fronts (IsMaybeAfter test Spelled) (maybe_after_len test len)
    fronts_maybe = record { spelled = λ bs h. maybe_by bs (test (first_byte bs)) refl h; within = maybe_within; some = maybe_some }
