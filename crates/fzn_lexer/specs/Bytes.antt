-- Kinds of byte. Letters and digits are those of ASCII.
use Rattle.std.specs.Prelude.{ℕ, Bool, ◌&&◌, ◌||◌, not, nat_le, ◌==◌, codes}
use Rattle.std.specs.List.{list_any}

-- a tab, a line feed, a carriage return or a space
abbrev pub is_white : ℕ → Bool
is_white c = (c == 9) || (c == 10) || (c == 13) || (c == 32)

-- not the byte that ends a line
abbrev pub is_in_line : ℕ → Bool
is_in_line c = not (c == 10)

-- `0` to `9`
abbrev pub is_digit : ℕ → Bool
is_digit c = nat_le 48 c && nat_le c 57

-- `0` to `7`
abbrev pub is_octal : ℕ → Bool
is_octal c = nat_le 48 c && nat_le c 55

-- `0` to `9`, `A` to `F`, `a` to `f`
abbrev pub is_hex : ℕ → Bool
is_hex c = is_digit c || (nat_le 65 c && nat_le c 70) || (nat_le 97 c && nat_le c 102)

-- a letter or `_`
abbrev pub is_start : ℕ → Bool
is_start c = (nat_le 65 c && nat_le c 90) || (nat_le 97 c && nat_le c 122) || (c == 95)

-- a letter, a digit or `_`
abbrev pub is_part : ℕ → Bool
is_part c = is_start c || is_digit c

-- `-`
abbrev pub is_minus : ℕ → Bool
is_minus c = c == 45

-- `+` or `-`
abbrev pub is_sign : ℕ → Bool
is_sign c = (c == 43) || (c == 45)

-- `.`
abbrev pub is_point : ℕ → Bool
is_point c = c == 46

-- `e` or `E`
abbrev pub is_e : ℕ → Bool
is_e c = (c == 101) || (c == 69)

-- `0`
abbrev pub is_zero : ℕ → Bool
is_zero c = c == 48

-- `x`
abbrev pub is_x : ℕ → Bool
is_x c = c == 120

-- `o`
abbrev pub is_o : ℕ → Bool
is_o c = c == 111

-- `"`
abbrev pub is_quote : ℕ → Bool
is_quote c = c == 34

-- a mark of one byte: `( ) [ ] { } , : ; =`
unfoldable pub is_single : ℕ → Bool
is_single c = list_any (λ m. c == m) (codes "()[]{},:;=")

-- a mark of two bytes: `::` or `..`
abbrev pub is_double : ℕ → ℕ → Bool
is_double c d = ((c == 58) && (d == 58)) || ((c == 46) && (d == 46))
