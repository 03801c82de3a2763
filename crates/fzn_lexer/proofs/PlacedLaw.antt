-- No token goes over a line, so each spot has the line, the text and the span of its place.
use Rattle.std.proofs.Common.{◌≡◌, ◌≢◌, ℕ, ◌+◌, ◌-◌, ◌≤◌, List, [], ◌∷◌, ◌++◌, Bool, true, false, cond, length, refl, sym, ap, ◌∙◌, subst, arith, inl, inr, append_assoc, true≢false}
use Rattle.std.specs.Prelude.{◌==◌}
use Rattle.std.specs.List.{list_all, count_by, slice_range}
use Rattle.std.proofs.lemmas.List.{length-append}
use Rattle.std.proofs.lemmas.List.Sums.{sum_by-append}
use Rattle.std.proofs.lemmas.Bool.Decides.{nat_tests}
use Rattle.std.proofs.Math.Seq.{take-append_seam, drop-append_seam}
use Rattle.fzn_lexer.specs.Bytes.{is_in_line, is_digit, is_octal, is_hex, is_start, is_part, is_minus, is_sign, is_point, is_e, is_zero, is_quote, is_single}
use Rattle.fzn_lexer.specs.Spelling.{IsRun, IsAfter, IsMaybeAfter, IsJoined, IsWord, IsUnsigned, IsFraction, IsExponent, IsTail, IsQuoted, IsMark, Spells}
use Rattle.fzn_lexer.specs.Spelling.IsQuoted.{closing, plain, escaped}
use Rattle.fzn_lexer.specs.Spots.{Spot}
use Rattle.fzn_lexer.specs.Tokens.{AreTokens}
use Rattle.fzn_lexer.specs.Tokens.AreTokens.{white, line_end, comment, token, end, bad}
use Rattle.fzn_lexer.specs.Placed.{ArePlaced, line_at}
use Rattle.fzn_lexer.specs.declared.kind.Kind.{Kind}
use Rattle.fzn_lexer.specs.declared.kind.Kind.TheVariants.{Word, Number, Real, Text, Mark}
use Rattle.fzn_lexer.proofs.Fronts.{and_both}
use Rattle.fzn_lexer.proofs.LongestToken.{token_some}

abbrev newlines : List ℕ → ℕ
newlines bs = count_by (λ c. c == 10) bs

-- none of the bytes is 10
abbrev InLine : List ℕ → Type 0
InLine w = newlines w ≡ 0

abbrev Apart : (ℕ → Bool) → Type 0
Apart test = (c : ℕ) → test c ≡ true → c ≢ 10

one_more : (c : ℕ) (w : List ℕ) → c ≢ 10 → newlines (c ∷ w) ≡ newlines w
one_more c w h = let e : (c == 10) ≡ false = grind (arith, nat_tests) in rw e (omega arith)

all_in_line : (test : ℕ → Bool) → Apart test → (w : List ℕ) → list_all test w ≡ true → InLine w
all_in_line test apart [] h = refl
all_in_line test apart (c ∷ w) h =
    let p = and_both (test c) (list_all test w) h in
    one_more c w (apart c p.0) ∙ all_in_line test apart w p.1

run_in_line : (test : ℕ → Bool) → Apart test → (w : List ℕ) → IsRun test w → InLine w
run_in_line test apart [] h = absurd h
run_in_line test apart (c ∷ w) h = one_more c w (apart c h.0) ∙ all_in_line test apart w h.1

module _ (test : ℕ → Bool) (apart : Apart test) (Spelled : List ℕ → Type 0) (in_line : (w : List ℕ) → Spelled w → InLine w) where
  after_in_line : (w : List ℕ) → IsAfter test Spelled w → InLine w
  after_in_line w (c, u, e, h, p) = ap newlines p ∙ one_more c u (apart c e) ∙ in_line u h

  maybe_in_line : (w : List ℕ) → IsMaybeAfter test Spelled w → InLine w
  maybe_in_line w (inl h) = in_line w h
  maybe_in_line w (inr h) = after_in_line w h

joined_in_line : (First Second : List ℕ → Type 0) → ((w : List ℕ) → First w → InLine w) → ((w : List ℕ) → Second w → InLine w) → (w : List ℕ) → IsJoined First Second w → InLine w
joined_in_line First Second one two w (u, v, h, k, p) = omega (arith, ap newlines p, sum_by-append (λ c. cond (c == 10) 1 0) u v, one u h, two v k)

digit_apart : Apart is_digit
digit_apart c h = grind (arith, nat_tests)

octal_apart : Apart is_octal
octal_apart c h = grind (arith, nat_tests)

hex_apart : Apart is_hex
hex_apart c h = grind (arith, nat_tests)

start_apart : Apart is_start
start_apart c h = grind (arith, nat_tests)

part_apart : Apart is_part
part_apart c h = grind (arith, nat_tests)

byte_apart : (b : ℕ) → b ≢ 10 → Apart (λ c. c == b)
byte_apart b ne c h = grind (arith, nat_tests)

sign_apart : Apart is_sign
sign_apart c h = grind (arith, nat_tests)

e_apart : Apart is_e
e_apart c h = grind (arith, nat_tests)

in_line_apart : Apart is_in_line
in_line_apart c h = grind (arith, nat_tests)

single_apart : Apart is_single
unfolding is_single
single_apart c h e = true≢false (sym h ∙ ap is_single e)

word_in_line : (w : List ℕ) → IsWord w → InLine w
word_in_line [] h = absurd h
word_in_line (c ∷ w) h = one_more c w (start_apart c h.0) ∙ all_in_line is_part part_apart w h.1

digits_in_line : (w : List ℕ) → IsRun is_digit w → InLine w
digits_in_line = run_in_line is_digit digit_apart

based_in_line : (b : ℕ) (test : ℕ → Bool) → b ≢ 10 → Apart test → (w : List ℕ) → IsAfter is_zero (IsAfter (λ c. c == b) (IsRun test)) w → InLine w
based_in_line b test ne apart =
    after_in_line is_zero (byte_apart 48 (λ e. omega (arith, e))) (IsAfter (λ c. c == b) (IsRun test))
    (after_in_line (λ c. c == b) (byte_apart b ne) (IsRun test) (run_in_line test apart))

unsigned_in_line : (w : List ℕ) → IsUnsigned w → InLine w
unsigned_in_line w (inl h) = digits_in_line w h
unsigned_in_line w (inr (inl h)) = based_in_line 120 is_hex (λ e. omega (arith, e)) hex_apart w h
unsigned_in_line w (inr (inr h)) = based_in_line 111 is_octal (λ e. omega (arith, e)) octal_apart w h

fraction_in_line : (w : List ℕ) → IsFraction w → InLine w
fraction_in_line = after_in_line is_point (byte_apart 46 (λ e. omega (arith, e))) (IsRun is_digit) digits_in_line

exponent_in_line : (w : List ℕ) → IsExponent w → InLine w
exponent_in_line = after_in_line is_e e_apart (IsMaybeAfter is_sign (IsRun is_digit)) (maybe_in_line is_sign sign_apart (IsRun is_digit) digits_in_line)

tail_in_line : (w : List ℕ) → IsTail w → InLine w
tail_in_line w (inl h) = fraction_in_line w h
tail_in_line w (inr (inl h)) = exponent_in_line w h
tail_in_line w (inr (inr h)) = joined_in_line IsFraction IsExponent fraction_in_line exponent_in_line w h

quoted_in_line : (w : List ℕ) → IsQuoted w → InLine w
quoted_in_line w closing = refl
quoted_in_line w (plain {c = c} {w = v} p q r h) = one_more c v r ∙ quoted_in_line v h
quoted_in_line w (escaped {c = c} {w = v} p h) = one_more 92 (c ∷ v) (λ e. omega (arith, e)) ∙ one_more c v p ∙ quoted_in_line v h

mark_in_line : (w : List ℕ) → IsMark w → InLine w
mark_in_line w (inl (c, e, p)) = rw p (one_more c [] (single_apart c e))
mark_in_line w (inr (inl p)) = rw p refl
mark_in_line w (inr (inr p)) = rw p refl

minus_apart : Apart is_minus
minus_apart = byte_apart 45 (λ e. omega (arith, e))

token_in_line : (k : Kind) (w : List ℕ) → Spells k w → InLine w
unfolding Spells
token_in_line Word = word_in_line
token_in_line Number = maybe_in_line is_minus minus_apart IsUnsigned unsigned_in_line
token_in_line Real = maybe_in_line is_minus minus_apart (IsJoined (IsRun is_digit) IsTail) (joined_in_line (IsRun is_digit) IsTail digits_in_line tail_in_line)
token_in_line Text = after_in_line is_quote (byte_apart 34 (λ e. omega (arith, e))) IsQuoted quoted_in_line
token_in_line Mark = mark_in_line

sooner : (input : List ℕ) (a b : ℕ) (ss : List Spot) → a ≤ b → ArePlaced input b ss → ArePlaced input a ss
sooner input a b [] h p = tt
sooner input a b (s ∷ ss) h p = (omega (arith, p.0), p.1, p.2, p.3, p.4)

-- a piece further on
step : (before piece bs : List ℕ) (line at line' at' : ℕ) (ss : List Spot) → at ≡ length before → line ≡ 1 + newlines before → at' ≡ at + length piece → line' ≡ line + newlines piece →
    ((b : List ℕ) → at' ≡ length b → line' ≡ 1 + newlines b → ArePlaced (b ++ bs) at' ss) → ArePlaced (before ++ (piece ++ bs)) at' ss
step before piece bs line at line' at' ss p q at_is line_is more =
    let there : at' ≡ length (before ++ piece) = omega (arith, p, at_is, length-append before piece) in
    let lines : line' ≡ 1 + newlines (before ++ piece) = omega (arith, q, line_is, sum_by-append (λ c. cond (c == 10) 1 0) before piece) in
    let joined : (before ++ piece) ++ bs ≡ before ++ (piece ++ bs) = append_assoc before piece bs in
    subst (λ (input : List ℕ). ArePlaced input at' ss) joined (more (before ++ piece) there lines)

here_line : (before bs : List ℕ) (line at : ℕ) → at ≡ length before → line ≡ 1 + newlines before → line ≡ line_at (before ++ bs) at
here_line before bs line at p q = rw (p, take-append_seam before bs) q

here_text : (before w bs : List ℕ) (at : ℕ) → at ≡ length before → w ≡ slice_range (before ++ (w ++ bs)) at (at + length w)
here_text before w bs at p =
    let size : length before + length w - length before ≡ length w = omega arith in
    rw (p, drop-append_seam before (w ++ bs), size) (sym (take-append_seam w bs))

placed_from : {line at : ℕ} {bs : List ℕ} {ss : List Spot} → AreTokens line at bs ss → (before : List ℕ) → at ≡ length before → line ≡ 1 + newlines before → ArePlaced (before ++ bs) at ss
placed_from {line} {at} (white {c = c} {bytes = bs} {ss = ss} e ne h) before p q =
    sooner _ at (at + 1) ss (omega arith)
    (step before (c ∷ []) bs line at line (at + 1) ss p q (omega arith) (omega (arith, one_more c [] ne)) (placed_from h))
placed_from {line} {at} (line_end {bytes = bs} {ss = ss} h) before p q =
    sooner _ at (at + 1) ss (omega arith)
    (step before (10 ∷ []) bs line at (line + 1) (at + 1) ss p q (omega arith) (omega arith) (placed_from h))
placed_from {line} {at} (comment text bs {ss = ss} all ends h) before p q =
    sooner _ at (at + 1 + length text) ss (omega arith)
    (step before (37 ∷ text) bs line at line (at + 1 + length text) ss p q (omega arith) (omega (arith, one_more 37 text (λ e. omega (arith, e)), all_in_line is_in_line in_line_apart text all)) (placed_from h))
placed_from {line} {at} (token {kind = k} w bs {ss = ss} longest h) before p q =
    let some = token_some k w longest.spelled in (
      omega arith,
      simp length-append (omega (arith, p)),
      here_line before (w ++ bs) line at p q,
      (omega (arith, some), here_text before w bs at p),
      step before w bs line at line (at + length w) ss p q refl (omega (arith, token_in_line k w longest.spelled)) (placed_from h),
    )
placed_from {line} {at} end before p q =
    (omega arith, simp length-append (omega (arith, p)), here_line before [] line at p q, (refl, simp length-append (omega (arith, p)), simp length-append (omega (arith, p))), tt)
placed_from {line} {at} (bad {c = c} {bytes = bs} w ne none) before p q =
    (omega arith, simp length-append (omega (arith, p)), here_line before (c ∷ bs) line at p q, (refl, refl), tt)

pub placed : (bs : List ℕ) (ss : List Spot) → AreTokens 1 0 bs ss → ArePlaced bs 0 ss
placed bs ss h = placed_from h [] refl refl
