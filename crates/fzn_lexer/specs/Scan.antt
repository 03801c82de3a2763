-- How long the longest token at the front of the bytes is, kind by kind; 0 where none of the kind stands there.
-- The code computes these. That each is the length of the longest spelling (Spelling.antt) is proved, so a caller need not read this file.
use Rattle.std.specs.Prelude.{ℕ, zero, suc, ◌+◌, List, [], ◌∷◌, Bool, true, false, if◌then◌else◌, drop, ◌==◌, slice_index, Option, Some, None}
use Rattle.std.specs.List.{prefix_len}
use Rattle.fzn_lexer.specs.Bytes.{is_digit, is_octal, is_hex, is_start, is_part, is_minus, is_sign, is_point, is_e, is_zero, is_x, is_o, is_quote, is_single, is_double}
use Rattle.fzn_lexer.specs.declared.kind.Kind.{Kind}
use Rattle.fzn_lexer.specs.declared.kind.Kind.TheVariants.{Word, Number, Real, Text, Mark}

-- n bytes and m more, where there are m
abbrev pub behind : ℕ → ℕ → ℕ
behind n zero = 0
behind n (suc m) = suc (n + m)

-- the first, or the second where the first is 0
abbrev pub or_else : ℕ → ℕ → ℕ
or_else zero m = m
or_else (suc n) m = suc n

-- the byte at the front, or 0
abbrev pub first_byte : List ℕ → ℕ
first_byte bs = slice_index bs 0

-- a byte that passes, and what the second finds behind it
abbrev pub after_len : (ℕ → Bool) → (List ℕ → ℕ) → List ℕ → ℕ
after_len test len bs = if test (first_byte bs) then behind 1 (len (drop 1 bs)) else 0

-- the same, and the byte is optional
abbrev pub maybe_after_len : (ℕ → Bool) → (List ℕ → ℕ) → List ℕ → ℕ
maybe_after_len test len bs = if test (first_byte bs) then behind 1 (len (drop 1 bs)) else len bs

-- a letter or `_`, and what may stand in a word
unfoldable pub word_len : List ℕ → ℕ
word_len bs = if is_start (first_byte bs) then prefix_len is_part bs else 0

-- a letter behind `0`, and digits
unfoldable pub based_len : (ℕ → Bool) → (ℕ → Bool) → List ℕ → ℕ
based_len letter test bs = after_len is_zero (after_len letter (prefix_len test)) bs

-- hexadecimal, octal or decimal
unfoldable pub unsigned_len : List ℕ → ℕ
unsigned_len bs = or_else (based_len is_x is_hex bs) (or_else (based_len is_o is_octal bs) (prefix_len is_digit bs))

-- with an optional `-`
unfoldable pub number_len : List ℕ → ℕ
number_len bs = maybe_after_len is_minus unsigned_len bs

-- `.` and digits
unfoldable pub fraction_len : List ℕ → ℕ
fraction_len bs = after_len is_point (prefix_len is_digit) bs

-- digits with an optional sign
unfoldable pub signed_len : List ℕ → ℕ
signed_len bs = maybe_after_len is_sign (prefix_len is_digit) bs

-- `e` or `E`, an optional sign, digits
unfoldable pub exponent_len : List ℕ → ℕ
exponent_len bs = after_len is_e signed_len bs

-- a fraction, an exponent, or both
unfoldable pub tail_len : List ℕ → ℕ
tail_len bs = fraction_len bs + exponent_len (drop (fraction_len bs) bs)

-- digits and a tail
unfoldable pub decimal_len : List ℕ → ℕ
decimal_len bs = let n = prefix_len is_digit bs in if n == 0 then 0 else behind n (tail_len (drop n bs))

-- with an optional `-`
unfoldable pub real_len : List ℕ → ℕ
real_len bs = maybe_after_len is_minus decimal_len bs

-- up to and with the closing quote, where the first byte is escaped or isn't
unfoldable pub quoted_len : Bool → List ℕ → ℕ
quoted_len escaped [] = 0
quoted_len escaped (c ∷ cs) =
    if c == 10 then 0
    else (if escaped then behind 1 (quoted_len false cs)
    else (if c == 92 then behind 1 (quoted_len true cs)
    else (if c == 34 then 1
    else behind 1 (quoted_len false cs))))

-- a quote and what it opens
unfoldable pub text_len : List ℕ → ℕ
text_len bs = after_len is_quote (quoted_len false) bs

-- a mark of two bytes, or of one
unfoldable pub mark_len : List ℕ → ℕ
mark_len bs = if is_double (first_byte bs) (first_byte (drop 1 bs)) then 2 else (if is_single (first_byte bs) then 1 else 0)

-- this kind where its length isn't 0, else the other
abbrev pub kind_or : Kind → ℕ → Option (Kind × ℕ) → Option (Kind × ℕ)
kind_or k zero other = other
kind_or k (suc n) other = Some (k, suc n)

-- the kind of the longest token at the front, and how long it is
unfoldable pub longest_at : List ℕ → Option (Kind × ℕ)
longest_at bs = kind_or Word (word_len bs) (kind_or Real (real_len bs) (kind_or Number (number_len bs) (kind_or Text (text_len bs) (kind_or Mark (mark_len bs) None))))
