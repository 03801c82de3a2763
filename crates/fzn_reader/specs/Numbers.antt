-- Number: decimal digits, or `0x` and hexadecimal ones, or `0o` and octal ones, with an optional `-` before them.
use Rattle.std.specs.Prelude.{ℕ, ◌+◌, ◌-◌, ◌*◌, List, ℤ, pos, neg_ℤ, if◌then◌else◌, Some, None, Option, drop, fold, nat_lt, nat_eq, codes}
use Rattle.std.specs.List.{starts_with}
use Rattle.fzn_model.specs.Values.{largest}

-- the value of a digit: `0` to `9`, then `A` to `F` or `a` to `f`
abbrev pub digit : ℕ → ℕ
digit c = if nat_lt c 58 then c - 48 else (if nat_lt c 71 then c - 55 else c - 87)

-- the number that digits write to a base
abbrev pub written : ℕ → List ℕ → ℕ
written base ds = fold (λ n c. n * base + digit c) 0 ds

-- the number that a text without sign writes
abbrev pub magnitude : List ℕ → ℕ
magnitude text = if starts_with nat_eq text (codes "0x") then written 16 (drop 2 text) else (if starts_with nat_eq text (codes "0o") then written 8 (drop 2 text) else written 10 text)

-- the number z of magnitude n, where it is within the values of a model
abbrev pub within_values : ℕ → ℤ → Option ℤ
within_values n z = if nat_lt largest n then None else Some z

-- the number that a text writes, where it is within the values of a model
unfoldable pub number_in : List ℕ → Option ℤ
number_in text = if starts_with nat_eq text (codes "-") then within_values (magnitude (drop 1 text)) (neg_ℤ (pos (magnitude (drop 1 text)))) else within_values (magnitude text) (pos (magnitude text))
