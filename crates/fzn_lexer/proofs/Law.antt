-- The list that the lexer computes is the one list that stands in the bytes.
use Rattle.std.proofs.Common.{◌≡◌, ◌≢◌, ℕ, zero, suc, ◌+◌, ◌<◌, ◌≤◌, List, [], ◌∷◌, ◌++◌, Bool, true, false, cond, length, take, drop, refl, sym, ap, ◌∙◌, subst, arith, Some, None, Option}
use Rattle.std.specs.Prelude.{◌==◌}
use Rattle.std.specs.List.{prefix_len}
use Rattle.std.proofs.lemmas.List.{take-append-drop, length-drop}
use Rattle.std.proofs.lemmas.List.Folds.{length-prefix_len}
use Rattle.std.proofs.lemmas.Bool.Decides.{nat_tests}
use Rattle.std.proofs.Math.Seq.{drop-append_seam}
use Rattle.fzn_lexer.specs.Bytes.{is_white, is_in_line}
use Rattle.fzn_lexer.specs.Spelling.{IsLongest}
use Rattle.fzn_lexer.specs.Scan.{longest_at}
use Rattle.fzn_lexer.specs.Spots.{Spot, token_at}
use Rattle.fzn_lexer.specs.Tokens.{AreTokens, EndsLine}
use Rattle.fzn_lexer.specs.Tokens.AreTokens.{white as white_rule, line_end as line_end_rule, comment as comment_rule, token as token_rule, end as end_rule, bad as bad_rule}
use Rattle.fzn_lexer.specs.Passes.{spots_from, IsPastGap}
use Rattle.fzn_lexer.specs.declared.kind.Kind.{Kind}
use Rattle.fzn_lexer.proofs.Fronts.{StopsAt, run_is, run_passes}
use Rattle.fzn_lexer.proofs.LongestToken.{longest_some, longest_none, longest_is, none_is, token_past_gap, token_some}
use Rattle.fzn_lexer.proofs.Gap.{newline, white, comment, at_bad, at_token}

line_stops : (bs : List ℕ) → EndsLine bs → StopsAt is_in_line bs
line_stops [] h = tt
line_stops (c ∷ cs) h = rw h refl

not_percent : (c : ℕ) → c ≢ 37 → (c == 37) ≡ false
not_percent c h = grind (arith, nat_tests)

-- no other list stands there
pub only_spots : {line at : ℕ} {bs : List ℕ} {ss : List Spot} → AreTokens line at bs ss → ss ≡ spots_from 0 line at bs
unfolding spots_from
only_spots {line} {at} (white_rule {c = c} {bytes = bs} e ne h) = only_spots h ∙ sym (white line at c bs ne e)
only_spots {line} {at} (line_end_rule {bytes = bs} h) = only_spots h ∙ sym (newline line at 10 bs refl)
only_spots {line} {at} (comment_rule text bs all ends h) =
    let n = run_is is_in_line text bs all (line_stops bs ends) in
    let step = comment line at 37 (text ++ bs) refl in
    let moved : spots_from 0 line at (37 ∷ (text ++ bs)) ≡ spots_from 0 line (at + 1 + length text) bs =
    step ∙ rw (n, drop-append_seam text bs) refl in
    only_spots h ∙ sym moved
only_spots {line} {at} (token_rule {kind = k} w bs longest h) =
    let is = longest_is (w ++ bs) w k longest in
    let gap = token_past_gap k w bs longest.spelled in
    let some : 0 < length (take is.0 (w ++ bs)) = rw is.2 (token_some k w longest.spelled) in
    let step = at_token line at (w ++ bs) k is.0 some gap is.1 in
    let moved : spots_from 0 line at (w ++ bs) ≡ token_at line at k w ∷ spots_from 0 line (at + length w) bs =
    step ∙ rw (is.2, drop-append_seam w bs) refl in
    ap (λ (ss : List Spot). token_at line at k w ∷ ss) (only_spots h) ∙ sym moved
only_spots end_rule = refl
only_spots {line} {at} (bad_rule {c = c} {bytes = bs} w p none) = sym (at_bad line at (c ∷ bs) (omega arith) (w, not_percent c p) (none_is (c ∷ bs) none))

-- the list stands there
ends : (bs : List ℕ) → EndsLine (drop (prefix_len is_in_line bs) bs)
ends [] = tt
ends (c ∷ cs) = by (is_in_line c) refl (ends cs)
  where
    by : (b : Bool) → is_in_line c ≡ b → EndsLine (drop (prefix_len is_in_line cs) cs) → EndsLine (drop (cond b (1 + prefix_len is_in_line cs) 0) (c ∷ cs))
    by true e h = let s : 1 + prefix_len is_in_line cs ≡ suc (prefix_len is_in_line cs) = omega arith in rw s h
    by false e h = grind (arith, nat_tests)

-- that it stands in each list of at most n bytes, as the cases of one byte more take it
abbrev Below : ℕ → Type 0
Below n = (line at : ℕ) (bs : List ℕ) → length bs ≤ n → AreTokens line at bs (spots_from 0 line at bs)

comment_stands : (n line at : ℕ) (cs : List ℕ) → Below n → length cs ≤ n → AreTokens line at (37 ∷ cs) (spots_from 0 line at (37 ∷ cs))
comment_stands n line at cs below h =
    let k = prefix_len is_in_line cs in
    let text = take k cs in
    let rest = drop k cs in
    let size : length text ≡ k = length-prefix_len is_in_line cs in
    let left : length rest ≤ n = simp length-drop (omega arith) in
    let one : AreTokens line (at + 1 + length text) rest (spots_from 0 line (at + 1 + length text) rest) = below line (at + 1 + length text) rest left in
    let two : AreTokens line at (37 ∷ (text ++ rest)) (spots_from 0 line (at + 1 + length text) rest) = comment_rule text rest (run_passes is_in_line cs) (ends cs) one in
    let three : AreTokens line at (37 ∷ cs) (spots_from 0 line (at + 1 + length text) rest) = subst (λ (x : List ℕ). AreTokens line at (37 ∷ x) (spots_from 0 line (at + 1 + length text) rest)) (take-append-drop k cs) two in
    let same : spots_from 0 line (at + 1 + length text) rest ≡ spots_from 0 line at (37 ∷ cs) = ap (λ (m : ℕ). spots_from 0 line (at + 1 + m) rest) size ∙ sym (comment line at 37 cs refl) in
    subst (AreTokens line at (37 ∷ cs)) same three

token_stands : (n line at c : ℕ) (cs : List ℕ) (k : Kind) (m : ℕ) → Below n → length cs ≤ n → IsPastGap (c ∷ cs) → longest_at (c ∷ cs) ≡ Some (k, m) → AreTokens line at (c ∷ cs) (spots_from 0 line at (c ∷ cs))
token_stands n line at c cs k m below h gap e =
    let bs = c ∷ cs in
    let w = take m bs in
    let rest = drop (length w) bs in
    let longest = longest_some bs k m e in
    let some : 0 < length w = token_some k w longest.spelled in
    let joined : w ++ longest.rest ≡ bs = sym longest.front in
    let after : rest ≡ longest.rest = sym (ap (drop (length w)) joined) ∙ drop-append_seam w longest.rest in
    let whole : w ++ rest ≡ bs = ap (λ (x : List ℕ). w ++ x) after ∙ joined in
    let left : length rest ≤ n = simp length-drop (omega arith) in
    let here : IsLongest k w (w ++ rest) = subst (IsLongest k w) (sym whole) longest in
    let one = token_rule w rest here (below line (at + length w) rest left) in
    let two = subst (λ (x : List ℕ). AreTokens line at x (token_at line at k w ∷ spots_from 0 line (at + length w) rest)) whole one in
    subst (AreTokens line at bs) (sym (at_token line at bs k m some gap e)) two

module _ (n line at c : ℕ) (cs : List ℕ) (below : Below n) (h : length cs ≤ n) where
  by_longest : (o : Option (Kind × ℕ)) → longest_at (c ∷ cs) ≡ o → IsPastGap (c ∷ cs) → AreTokens line at (c ∷ cs) (spots_from 0 line at (c ∷ cs))
  by_longest None e gap =
      let percent : c ≢ 37 = grind (arith, nat_tests) in
      subst (AreTokens line at (c ∷ cs)) (sym (at_bad line at (c ∷ cs) (omega arith) gap e)) (bad_rule (gap.0) percent (longest_none (c ∷ cs) e))
  by_longest (Some t) e gap = token_stands n line at c cs t.0 t.1 below h gap e

  by_byte : (a b d : Bool) → (c == 10) ≡ a → is_white c ≡ b → (c == 37) ≡ d → AreTokens line at (c ∷ cs) (spots_from 0 line at (c ∷ cs))
  by_byte true b d p q r =
      let c_is : c ≡ 10 = grind (arith, nat_tests) in
      subst (AreTokens line at (c ∷ cs)) (sym (newline line at c cs c_is)) (rw c_is (line_end_rule (below (line + 1) (at + 1) cs h)))
  by_byte false true d p q r =
      let other : c ≢ 10 = grind (arith, nat_tests) in
      subst (AreTokens line at (c ∷ cs)) (sym (white line at c cs other q)) (white_rule q other (below line (at + 1) cs h))
  by_byte false false true p q r =
      let c_is : c ≡ 37 = grind (arith, nat_tests) in
      rw c_is (comment_stands n line at cs below h)
  by_byte false false false p q r = by_longest (longest_at (c ∷ cs)) refl (q, r)

stand : (n : ℕ) → Below n
unfolding spots_from
stand n line at [] h = end_rule
stand zero line at (c ∷ cs) h = absurd (omega arith)
stand (suc n) line at (c ∷ cs) h = by_byte n line at c cs (stand n) (omega arith) (c == 10) (is_white c) (c == 37) refl refl refl

pub spots_stand : (line at : ℕ) (bs : List ℕ) → AreTokens line at bs (spots_from 0 line at bs)
spots_stand line at bs = stand (length bs) line at bs (omega arith)
