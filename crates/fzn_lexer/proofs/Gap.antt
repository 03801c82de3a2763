-- The list of spots, one step on: white space, comments, a token, the end, a bad byte.
use Rattle.std.proofs.Common.{◌≡◌, ◌≢◌, ℕ, zero, suc, ◌+◌, ◌-◌, ◌<◌, ◌≤◌, List, [], ◌∷◌, true, false, length, take, drop, get_or, refl, sym, ap, ◌∙◌, arith, Some, None}
use Rattle.std.specs.Prelude.{◌==◌}
use Rattle.std.specs.List.{prefix_len}
use Rattle.std.proofs.lemmas.List.{at_drop_more, drop_more, drop_all, drop-drop, length-take, length-take-le}
use Rattle.std.proofs.lemmas.Bool.Decides.{nat_tests}
use Rattle.std.proofs.lemmas.List.Sums.{prefix_len-le-length}
use Rattle.fzn_lexer.specs.Bytes.{is_white, is_in_line}
use Rattle.fzn_lexer.specs.Scan.{longest_at}
use Rattle.fzn_lexer.specs.Spots.{Spot, token_at, end_at, bad_at, after_first}
use Rattle.fzn_lexer.specs.Passes.{spots_from, spots_by, IsPastGap}
use Rattle.fzn_lexer.specs.declared.kind.Kind.{Kind}
use Rattle.fzn_lexer.specs.declared.seen.Seen.TheVariants.{Known}

-- what is skipped is passed
pub skipped : (k line at : ℕ) (bs : List ℕ) → k ≤ length bs → spots_from k line at bs ≡ spots_from 0 line (at + k) (drop k bs)
unfolding spots_from
skipped zero line at bs h = let e : at ≡ at + 0 = omega arith in ap (λ j. spots_from 0 line j bs) e
skipped (suc k) line at [] h = absurd (omega arith)
skipped (suc k) line at (c ∷ cs) h = let e : at + 1 + k ≡ at + suc k = omega arith in skipped k line (at + 1) cs (omega arith) ∙ ap (λ j. spots_from 0 line j (drop k cs)) e

pub newline : (line at c : ℕ) (cs : List ℕ) → c ≡ 10 → spots_from 0 line at (c ∷ cs) ≡ spots_from 0 (line + 1) (at + 1) cs
unfolding spots_from
newline line at c cs h = rw h refl

pub white : (line at c : ℕ) (cs : List ℕ) → c ≢ 10 → is_white c ≡ true → spots_from 0 line at (c ∷ cs) ≡ spots_from 0 line (at + 1) cs
unfolding spots_from
white line at c cs h w = rw (w) (grind (arith, nat_tests))

pub comment : (line at c : ℕ) (cs : List ℕ) → c ≡ 37 → spots_from 0 line at (c ∷ cs) ≡ spots_from 0 line (at + 1 + prefix_len is_in_line cs) (drop (prefix_len is_in_line cs) cs)
unfolding spots_from
comment line at c cs h = rw h (skipped (prefix_len is_in_line cs) line (at + 1) cs (prefix_len-le-length is_in_line cs))

-- past a gap
here : (line at c : ℕ) (cs : List ℕ) → is_white c ≡ false → (c == 37) ≡ false → spots_from 0 line at (c ∷ cs) ≡ spots_by (longest_at (c ∷ cs)) (λ t. token_at line at t.0 (take t.1 (c ∷ cs)) ∷ spots_from (length (take t.1 (c ∷ cs)) - 1) line (at + 1) cs) (bad_at line at)
unfolding spots_from
here line at c cs w p = rw (w, p) (grind (arith, nat_tests))

pub at_end : (line at : ℕ) (bs : List ℕ) → length bs ≡ 0 → spots_from 0 line at bs ≡ end_at line at ∷ []
unfolding spots_from
at_end line at [] h = refl
at_end line at (c ∷ cs) h = absurd (omega arith)

pub at_bad : (line at : ℕ) (bs : List ℕ) → 0 < length bs → IsPastGap bs → longest_at bs ≡ None → spots_from 0 line at bs ≡ bad_at line at ∷ []
at_bad line at [] h g t = absurd (omega arith)
at_bad line at (c ∷ cs) h g t = here line at c cs g.0 g.1 ∙ rw t refl

pub at_token : (line at : ℕ) (bs : List ℕ) (k : Kind) (n : ℕ) → 0 < length (take n bs) → IsPastGap bs → longest_at bs ≡ Some (k, n) → spots_from 0 line at bs ≡ token_at line at k (take n bs) ∷ spots_from 0 line (at + length (take n bs)) (drop (length (take n bs)) bs)
at_token line at [] k zero h g t = absurd (omega arith)
at_token line at [] k (suc n) h g t = absurd (omega arith)
at_token line at (c ∷ cs) k zero h g t = absurd (omega arith)
at_token line at (c ∷ cs) k (suc n) h g t =
    let m = length (take n cs) in
    let e : suc m - 1 ≡ m = omega arith in
    let f : at + 1 + m ≡ at + suc m = omega arith in
    let fits : m ≤ length cs = simp length-take (omega arith) in
    let s = token_at line at k (c ∷ take n cs) in
    here line at c cs g.0 g.1 ∙ rw t (ap (λ j. s ∷ spots_from j line (at + 1) cs) e ∙ ap (λ (ss : List Spot). s ∷ ss) (skipped m line (at + 1) cs fits ∙ ap (λ j. spots_from 0 line j (drop m cs)) f))

-- the loop over a gap, one byte or one comment on
pub on_newline : (bs : List ℕ) (line at : ℕ) (total : List Spot) → at < length bs → get_or bs at 0 ≡ 10 → spots_from 0 line at (drop at bs) ≡ total → spots_from 0 (line + 1) (at + 1) (drop (at + 1) bs) ≡ total
on_newline bs line at total h c so_far = sym (at_drop_more (spots_from 0 line at) bs at 0 h ∙ newline line at _ _ c) ∙ so_far

pub on_white : (bs : List ℕ) (line at : ℕ) (total : List Spot) → at < length bs → (get_or bs at 0 ≡ 10 → ⊥) → is_white (get_or bs at 0) ≡ true → spots_from 0 line at (drop at bs) ≡ total → spots_from 0 line (at + 1) (drop (at + 1) bs) ≡ total
on_white bs line at total h c w so_far = sym (at_drop_more (spots_from 0 line at) bs at 0 h ∙ white line at _ _ c w) ∙ so_far

pub on_comment : (bs : List ℕ) (line at k : ℕ) (total : List Spot) → at < length bs → get_or bs at 0 ≡ 37 → k ≡ prefix_len is_in_line (drop (at + 1) bs) → spots_from 0 line at (drop at bs) ≡ total → spots_from 0 line (at + (1 + k)) (drop (at + (1 + k)) bs) ≡ total
on_comment bs line at k total h c e so_far =
    let there : at + 1 + k ≡ at + (1 + k) = omega arith in
    let one = sym (at_drop_more (spots_from 0 line at) bs at 0 h ∙ comment line at _ _ c) ∙ so_far in
    let two : spots_from 0 line (at + 1 + k) (drop k (drop (at + 1) bs)) ≡ total = rw e one in
    rw (← there) (rw (← drop-drop k (at + 1) bs) two)

pub is_past_all : (bs : List ℕ) (at : ℕ) → length bs ≤ at → IsPastGap (drop at bs)
is_past_all bs at h = rw (drop_all at bs h) tt

pub is_past : (bs : List ℕ) (at : ℕ) → at < length bs → is_white (get_or bs at 0) ≡ false → (get_or bs at 0 ≡ 37 → ⊥) → IsPastGap (drop at bs)
is_past bs at h w c = rw (drop_more bs at 0 h) (w, grind (arith, nat_tests))

pub stays : (was now : List Spot) → was ≡ now → now ≡ after_first now → was ≡ after_first was
stays was now e h = e ∙ h ∙ ap after_first (sym e)

-- a token of n bytes, in the input
pub at_known : (line at : ℕ) (input : List ℕ) (k : Kind) (n : ℕ) → n ≤ length (drop at input) → 0 < n → IsPastGap (drop at input) → longest_at (drop at input) ≡ Some (k, n) →
    spots_from 0 line at (drop at input) ≡ record { seen = Known k; text = take n (drop at input); line = line; from = at; to = at + n } ∷ spots_from 0 line (at + n) (drop (at + n) input)
at_known line at input k n fits some gap t =
    let bs = drop at input in
    let size : length (take n bs) ≡ n = length-take-le n bs fits in
    let step = at_token line at bs k n (omega arith) gap t in
    step ∙ rw (size, drop-drop n at input) refl
