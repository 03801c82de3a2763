use Rattle.std.proofs.Common.{◌≡◌, ◌<◌, ◌+◌, ℕ, List, ap, ◌∙◌, arith, length, ◌++◌, [], ◌∷◌, inl, inr}
use Rattle.std.proofs.lemmas.Bool.{cases_lt}
use Rattle.std.proofs.lemmas.List.{length-append, get_or_append_left}
use Rattle.std.proofs.Math.Seq.{get_or-append_seam}
use Rattle.evictor.specs.Passes.{word_at}
use Rattle.evictor.proofs.cache.empty_words.Goals as goal

one_more : (words : List ℕ) (n : ℕ) → length words ≡ n → ((k : ℕ) → k < n → word_at words k ≡ 0) → (k : ℕ) → k < n + 1 → word_at (words ++ 0 ∷ []) k ≡ 0
one_more words n count empty k below =
    elim (cases_lt k n) [
      | inl front ↦ get_or_append_left words (0 ∷ []) 0 k (omega (arith, front, count)) ∙ empty k front
      | inr last ↦
          let same : k ≡ length words = omega (arith, last, below, count) in
          ap (λ m. word_at (words ++ 0 ∷ []) m) same ∙ get_or-append_seam words 0 [] 0
    ]

pub loop-preserved : goal.loop-preserved
loop-preserved c = record {
  count = omega (arith, ap length c.in_ok-push.ensures.items, length-append {A = ℕ});
  empty = λ k below. ap (λ (words : List ℕ). word_at words k) c.in_ok-push.ensures.items ∙ one_more _ c.loop.counter c.loop.invariant.count c.loop.invariant.empty k below;
}
