use Rattle.std.proofs.Common.{◌≡◌, ◌<◌, ℕ, length}
use Rattle.evictor.specs.Passes.{word_at}
use Rattle.evictor.proofs.cache.empty_words.Given as goal

abbrev pub invariant-loop : goal.invariant-loop
invariant-loop l = record { count : length l.words.items ≡ l.counter; empty : (k : ℕ) → k < l.counter → word_at l.words.items k ≡ 0 }
