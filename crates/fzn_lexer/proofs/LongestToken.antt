-- The longest token of any kind: what `longest_at` answers is the token that the spelling calls the longest.
use Rattle.std.proofs.Common.{◌≡◌, ◌≢◌, ℕ, zero, suc, ◌<◌, ◌≤◌, List, [], ◌∷◌, ◌++◌, Bool, true, false, cond, ◌||◌, length, take, drop, refl, sym, ap, ◌∙◌, subst, arith, inl, inr, ◌⊎◌, true≢false, Option, Some, None}
use Rattle.std.specs.Prelude.{◌==◌, codes}
use Rattle.std.specs.List.{list_any}
use Rattle.std.proofs.lemmas.Bool.Decides.{nat_tests}
use Rattle.std.proofs.lemmas.List.{take-append-drop, length-take, length-append}
use Rattle.std.proofs.Math.Seq.{take-append_seam}
use Rattle.fzn_lexer.specs.Spelling.{IsUnsigned, IsNumber, IsReal, IsWord, IsText, IsMark, Spells, IsLongest, BeginsNone}
use Rattle.fzn_lexer.specs.Scan.{first_byte, word_len, number_len, real_len, text_len, mark_len, kind_or, longest_at}
use Rattle.fzn_lexer.specs.Bytes.{is_white, is_start, is_digit, is_minus, is_quote, is_single}
use Rattle.fzn_lexer.specs.Passes.{IsPastGap}
use Rattle.fzn_lexer.specs.declared.kind.Kind.{Kind}
use Rattle.fzn_lexer.specs.declared.kind.Kind.TheVariants.{Word, Number, Real, Text, Mark}
use Rattle.fzn_lexer.proofs.Fronts.{Fronts}
use Rattle.fzn_lexer.proofs.LongestNumber.{fronts_number, unsigned_first, digit_not_minus}
use Rattle.fzn_lexer.proofs.LongestReal.{fronts_real, decimal_first, decimal_not_unsigned, number_less}
use Rattle.fzn_lexer.proofs.LongestText.{fronts_word, fronts_text, fronts_mark}

unfoldable pub len_of : Kind → List ℕ → ℕ
len_of Word = word_len
len_of Number = number_len
len_of Real = real_len
len_of Text = text_len
len_of Mark = mark_len

pub fronts : (k : Kind) → Fronts (Spells k) (len_of k)
unfolding Spells len_of
fronts Word = fronts_word
fronts Number = fronts_number
fronts Real = fronts_real
fronts Text = fronts_text
fronts Mark = fronts_mark

-- what a byte may begin: 1 a word, 2 a number or a real, 3 a text, 4 a mark, 0 nothing
unfoldable opening : ℕ → ℕ
opening c =
    cond (is_start c) 1
    (cond (is_minus c || is_digit c) 2
    (cond (is_quote c) 3
    (cond (is_single c || (c == 46)) 4 0)))

unfoldable group : Kind → ℕ
group Word = 1
group Number = 2
group Real = 2
group Text = 3
group Mark = 4

start_opens : (c : ℕ) → is_start c ≡ true → opening c ≡ 1
unfolding opening
start_opens c h = rw h refl

digit_opens : (c : ℕ) → is_digit c ≡ true → opening c ≡ 2
unfolding opening
digit_opens c h =
    let e : is_start c ≡ false = grind (arith, nat_tests) in
    let f : (is_minus c || is_digit c) ≡ true = grind (arith, nat_tests) in
    rw (e, f) refl

minus_opens : (c : ℕ) → is_minus c ≡ true → opening c ≡ 2
unfolding opening
minus_opens c h = let e : c ≡ 45 = grind (arith, nat_tests) in rw e refl

quote_opens : (c : ℕ) → is_quote c ≡ true → opening c ≡ 3
unfolding opening
quote_opens c h = let e : c ≡ 34 = grind (arith, nat_tests) in rw e refl

abbrev Each : (ℕ → Type 0) → List ℕ → Type 0
Each P [] = Unit {0}
Each P (m ∷ ms) = P m × Each P ms

-- what holds of each byte of a list holds of one that is among them
among : (P : ℕ → Type 0) (c : ℕ) (ms : List ℕ) → list_any (λ m. c == m) ms ≡ true → Each P ms → P c
among P c [] h each = absurd (true≢false (sym h))
among P c (m ∷ ms) h each = by (λ p. among P c ms p each.1) (c == m) refl h
  where
    by : (list_any (λ m. c == m) ms ≡ true → P c) → (b : Bool) → (c == m) ≡ b → (b || list_any (λ m. c == m) ms) ≡ true → P c
    by later true e p = let c_is : c ≡ m = grind (arith, nat_tests) in subst P (sym c_is) each.0
    by later false e p = later p

single_opens : (c : ℕ) → is_single c ≡ true → opening c ≡ 4
unfolding opening is_single
single_opens c h = among (λ m. opening m ≡ 4) c (codes "()[]{},:;=") h (refl, (refl, (refl, (refl, (refl, (refl, (refl, (refl, (refl, (refl, tt))))))))))

-- the first byte of a token of a kind is one that may begin that kind
number_opens : (w : List ℕ) → IsNumber w → opening (first_byte w) ≡ 2
number_opens w (inl h) = digit_opens (first_byte w) (unsigned_first w h)
number_opens w (inr (c, u, e, h, p)) = rw p (minus_opens c e)

real_opens : (w : List ℕ) → IsReal w → opening (first_byte w) ≡ 2
real_opens w (inl h) = digit_opens (first_byte w) (decimal_first w h)
real_opens w (inr (c, u, e, h, p)) = rw p (minus_opens c e)

word_opens : (w : List ℕ) → IsWord w → opening (first_byte w) ≡ 1
word_opens [] h = absurd h
word_opens (c ∷ w) h = start_opens c h.0

text_opens : (w : List ℕ) → IsText w → opening (first_byte w) ≡ 3
text_opens w (c, u, e, h, p) = rw p (quote_opens c e)

mark_opens : (w : List ℕ) → IsMark w → opening (first_byte w) ≡ 4
unfolding opening is_single
mark_opens w (inl (c, e, p)) = rw p (single_opens c e)
mark_opens w (inr (inl p)) = rw p refl
mark_opens w (inr (inr p)) = rw p refl

opens : (k : Kind) (w : List ℕ) → Spells k w → opening (first_byte w) ≡ group k
unfolding Spells group
opens Word w h = word_opens w h
opens Number w h = number_opens w h
opens Real w h = real_opens w h
opens Text w h = text_opens w h
opens Mark w h = mark_opens w h

first_of_front : (n : ℕ) (bs : List ℕ) → 0 < n → first_byte (take n bs) ≡ first_byte bs
first_of_front zero bs h = absurd (omega arith)
first_of_front (suc n) [] h = refl
first_of_front (suc n) (c ∷ cs) h = refl

found : (k : Kind) (bs : List ℕ) → 0 < len_of k bs → opening (first_byte bs) ≡ group k
found k bs h = sym (ap opening (first_of_front (len_of k bs) bs h)) ∙ opens k (take (len_of k bs) bs) ((fronts k).spelled bs h)

-- kinds of two groups don't stand at one place
other_none : (k l : Kind) (bs : List ℕ) → group k ≢ group l → 0 < len_of k bs → len_of l bs ≡ 0
other_none k l bs ne h = by (len_of l bs) refl
  where
    by : (n : ℕ) → len_of l bs ≡ n → len_of l bs ≡ 0
    by zero e = e
    by (suc n) e = absurd (ne (sym (found k bs h) ∙ found l bs (omega arith)))

-- a kind that stands at a place is no shorter than any other that stands there
word_top : (bs : List ℕ) → 0 < word_len bs → (l : Kind) → len_of l bs ≤ word_len bs
unfolding len_of group
word_top bs h Word = omega arith
word_top bs h l = omega (arith, other_none Word l bs (λ e. omega (arith, e)) h)

real_top : (bs : List ℕ) → 0 < real_len bs → (l : Kind) → len_of l bs ≤ real_len bs
unfolding len_of group
real_top bs h Number = omega (arith, number_less bs h)
real_top bs h Real = omega arith
real_top bs h l = omega (arith, other_none Real l bs (λ e. omega (arith, e)) h)

number_top : (bs : List ℕ) → 0 < number_len bs → real_len bs ≡ 0 → (l : Kind) → len_of l bs ≤ number_len bs
unfolding len_of group
number_top bs h r Number = omega arith
number_top bs h r Real = omega arith
number_top bs h r l = omega (arith, other_none Number l bs (λ e. omega (arith, e)) h)

text_top : (bs : List ℕ) → 0 < text_len bs → (l : Kind) → len_of l bs ≤ text_len bs
unfolding len_of group
text_top bs h Text = omega arith
text_top bs h l = omega (arith, other_none Text l bs (λ e. omega (arith, e)) h)

mark_top : (bs : List ℕ) → 0 < mark_len bs → (l : Kind) → len_of l bs ≤ mark_len bs
unfolding len_of group
mark_top bs h Mark = omega arith
mark_top bs h l = omega (arith, other_none Mark l bs (λ e. omega (arith, e)) h)

none_top : (bs : List ℕ) → word_len bs ≡ 0 → real_len bs ≡ 0 → number_len bs ≡ 0 → text_len bs ≡ 0 → mark_len bs ≡ 0 → (l : Kind) → len_of l bs ≡ 0
unfolding len_of
none_top bs w r n t m Word = w
none_top bs w r n t m Number = n
none_top bs w r n t m Real = r
none_top bs w r n t m Text = t
none_top bs w r n t m Mark = m

-- a kind whose length no other passes, or none where each length is 0
abbrev IsBest : (Kind → ℕ) → Option (Kind × ℕ) → Type 0
IsBest len None = (l : Kind) → len l ≡ 0
IsBest len (Some t) = (len t.0 ≡ t.1) × (0 < t.1) × ((l : Kind) → len l ≤ t.1)

pick : (len : Kind → ℕ) (k : Kind) (n : ℕ) (other : Option (Kind × ℕ)) → len k ≡ n → (0 < n → (l : Kind) → len l ≤ n) → (n ≡ 0 → IsBest len other) → IsBest len (kind_or k n other)
pick len k zero other e p q = q refl
pick len k (suc n) other e p q = (e, omega arith, p (omega arith))

best : (bs : List ℕ) → IsBest (λ l. len_of l bs) (longest_at bs)
unfolding len_of longest_at
best bs =
    let len = λ (l : Kind). len_of l bs in
    pick len Word (word_len bs) _ refl (word_top bs)
    (λ w. pick len Real (real_len bs) _ refl (real_top bs)
    (λ r. pick len Number (number_len bs) _ refl (λ h. number_top bs h r)
    (λ n. pick len Text (text_len bs) _ refl (text_top bs)
    (λ t. pick len Mark (mark_len bs) _ refl (mark_top bs)
    (λ m. none_top bs w r n t m)))))

within_found : (k : Kind) (bs v rest : List ℕ) → Spells k v → bs ≡ v ++ rest → length v ≤ len_of k bs
within_found k bs v rest h p = subst (λ (x : List ℕ). length v ≤ len_of k x) (sym p) ((fronts k).within v rest h)

pub longest_some : (bs : List ℕ) (k : Kind) (n : ℕ) → longest_at bs ≡ Some (k, n) → IsLongest k (take n bs) bs
longest_some bs k n e =
    let b : IsBest (λ l. len_of l bs) (Some (k, n)) = subst (IsBest (λ (l : Kind). len_of l bs)) e (best bs) in
    let spelled : Spells k (take n bs) = subst (λ (m : ℕ). Spells k (take m bs)) b.0 ((fronts k).spelled bs (omega (arith, b.0, b.1))) in
    record {
      spelled = spelled;
      rest = drop n bs;
      front = sym (take-append-drop n bs);
      longest = λ l v rest h p. simp length-take (omega (arith, within_found l bs v rest h p, b.2 l, ap length p, length-append v rest));
    }

pub longest_none : (bs : List ℕ) → longest_at bs ≡ None → BeginsNone bs
longest_none bs e =
    let b : IsBest (λ l. len_of l bs) None = subst (IsBest (λ (l : Kind). len_of l bs)) e (best bs) in
    λ l v rest h p. omega (arith, within_found l bs v rest h p, b l, (fronts l).some v h)

-- two kinds never spell the same bytes
number_not_real : (w : List ℕ) → IsNumber w → IsReal w → ⊥
number_not_real w (inl h) (inl g) = decimal_not_unsigned w g h
number_not_real w (inl h) (inr (c, u, e, g, p)) = true≢false (sym e ∙ sym (ap (λ (x : List ℕ). is_minus (first_byte x)) p) ∙ digit_not_minus (first_byte w) (unsigned_first w h))
number_not_real w (inr (c, u, e, h, p)) (inl g) = true≢false (sym e ∙ sym (ap (λ (x : List ℕ). is_minus (first_byte x)) p) ∙ digit_not_minus (first_byte w) (decimal_first w g))
number_not_real w (inr (c, u, e, h, p)) (inr (d, v, f, g, q)) =
    let same : u ≡ v = ap (drop 1) (sym p ∙ q) in
    decimal_not_unsigned v g (subst IsUnsigned same h)

pub one_kind : (k l : Kind) (w : List ℕ) → Spells k w → Spells l w → k ≡ l
unfolding Spells group
one_kind Word Word w h g = refl
one_kind Number Number w h g = refl
one_kind Real Real w h g = refl
one_kind Text Text w h g = refl
one_kind Mark Mark w h g = refl
one_kind Number Real w h g = absurd (number_not_real w h g)
one_kind Real Number w h g = absurd (number_not_real w g h)
one_kind k l w h g = absurd (omega (arith, opens k w h, opens l w g))

-- the longest is one
same_front : (v w q r bs : List ℕ) → bs ≡ v ++ q → bs ≡ w ++ r → length v ≡ length w → v ≡ w
same_front v w q r bs e f h =
    sym (take-append_seam v q) ∙ ap (take (length v)) (sym e ∙ f) ∙ ap (λ n. take n (w ++ r)) h ∙ take-append_seam w r

pub longest_is : (bs w : List ℕ) (k : Kind) → IsLongest k w bs → (n : ℕ) × (longest_at bs ≡ Some (k, n)) × (take n bs ≡ w)
longest_is bs w k h = by (longest_at bs) refl
  where
    by : (o : Option (Kind × ℕ)) → longest_at bs ≡ o → (n : ℕ) × (longest_at bs ≡ Some (k, n)) × (take n bs ≡ w)
    by None e = absurd (longest_none bs e k w h.rest h.spelled h.front)
    by (Some t) e =
        let g = longest_some bs t.0 t.1 e in
        let n : length w ≡ length (take t.1 bs) = omega (arith, g.longest k w h.rest h.spelled h.front, h.longest t.0 (take t.1 bs) g.rest g.spelled g.front) in
        let same : take t.1 bs ≡ w = sym (same_front w (take t.1 bs) h.rest g.rest bs h.front g.front n) in
        let kind : t.0 ≡ k = one_kind t.0 k w (subst (Spells t.0) same g.spelled) h.spelled in
        (t.1, e ∙ ap (λ (l : Kind). Some (l, t.1)) kind, same)

pub none_is : (bs : List ℕ) → BeginsNone bs → longest_at bs ≡ None
none_is bs h = by (longest_at bs) refl
  where
    by : (o : Option (Kind × ℕ)) → longest_at bs ≡ o → longest_at bs ≡ None
    by None e = e
    by (Some t) e = let g = longest_some bs t.0 t.1 e in absurd (h t.0 (take t.1 bs) g.rest g.spelled g.front)

-- no token begins with white space or with the `%` of a comment
white_is : (c : ℕ) → is_white c ≡ true → (c ≡ 9) ⊎ (c ≡ 10) ⊎ (c ≡ 13) ⊎ (c ≡ 32)
white_is c h = grind (arith, nat_tests)

white_opens : (c : ℕ) → (c ≡ 9) ⊎ (c ≡ 10) ⊎ (c ≡ 13) ⊎ (c ≡ 32) → opening c ≡ 0
unfolding opening is_single
white_opens c (inl p) = rw p refl
white_opens c (inr (inl p)) = rw p refl
white_opens c (inr (inr (inl p))) = rw p refl
white_opens c (inr (inr (inr p))) = rw p refl

percent_opens : (c : ℕ) → (c == 37) ≡ true → opening c ≡ 0
unfolding opening is_single
percent_opens c h = let p : c ≡ 37 = grind (arith, nat_tests) in rw p refl

no_white : (b : Bool) (c : ℕ) → is_white c ≡ b → 0 < opening c → is_white c ≡ false
no_white false c e h = e
no_white true c e h = absurd (omega (arith, white_opens c (white_is c e)))

no_percent : (b : Bool) (c : ℕ) → (c == 37) ≡ b → 0 < opening c → (c == 37) ≡ false
no_percent false c e h = e
no_percent true c e h = absurd (omega (arith, percent_opens c e))

some_group : (k : Kind) → 0 < group k
unfolding group
some_group Word = omega arith
some_group Number = omega arith
some_group Real = omega arith
some_group Text = omega arith
some_group Mark = omega arith

pub token_past_gap : (k : Kind) (w rest : List ℕ) → Spells k w → IsPastGap (w ++ rest)
token_past_gap k w rest h = by w (opens k w h) ((fronts k).some w h)
  where
    by : (w : List ℕ) → opening (first_byte w) ≡ group k → 0 < length w → IsPastGap (w ++ rest)
    by [] e p = absurd (omega arith)
    by (c ∷ v) e p =
        let some : 0 < opening c = omega (arith, e, some_group k) in
        (no_white (is_white c) c refl some, no_percent (c == 37) c refl some)

pub token_some : (k : Kind) (w : List ℕ) → Spells k w → 0 < length w
token_some k w h = (fronts k).some w h
