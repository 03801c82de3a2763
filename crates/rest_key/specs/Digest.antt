-- A digest of a list of words of 64 bits: FNV-1a (Fowler, Noll, Vo) over words in place of bytes.
use Rattle.std.specs.Prelude.{ℕ, ◌*◌, ◌%◌, ◌^◌, List, ℤ, bit_xor, pos, unsigned_abs, fold}
use Rattle.std.specs.Int.{int_rem_euclid}

-- the low 64 bits of a word
unfoldable pub low_bits : ℤ → ℕ
low_bits word = unsigned_abs (int_rem_euclid word (pos (2 ^ 64)))

unfoldable pub mixed : ℕ → ℤ → ℕ
mixed digest word = (bit_xor digest (low_bits word) * 1099511628211) % 2 ^ 64

unfoldable pub digest_of : List ℤ → ℕ
digest_of words = fold mixed 14695981039346656037 words
