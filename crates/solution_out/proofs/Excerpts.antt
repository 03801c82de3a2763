-- The first bytes of a token.
use Rattle.std.proofs.Common.{◌≡◌, ℕ, ◌<◌, ◌≤◌, List, [], ◌∷◌, length, take, refl, sym, arith}
use Rattle.std.specs.Prelude.{codes}
use Rattle.std.proofs.lemmas.List.{take_all, length-take}
use Rattle.solution_out.specs.Refusals.{excerpt}

pub empty_excerpt : (token : List ℕ) → length token ≡ 0 → codes "end of input" ≡ excerpt token
unfolding excerpt
empty_excerpt [] h = refl
empty_excerpt (c ∷ cs) h = absurd (omega (arith, h))

pub short_excerpt : (token : List ℕ) → (length token ≡ 0 → ⊥) → length token ≤ 40 → token ≡ excerpt token
unfolding excerpt
short_excerpt [] n h = absurd (n refl)
short_excerpt (c ∷ cs) n h = sym (take_all 40 (c ∷ cs) h)

pub long_excerpt : (token : List ℕ) → 40 < length token → take 40 token ≡ excerpt token
unfolding excerpt
long_excerpt [] h = absurd (omega (arith, h))
long_excerpt (c ∷ cs) h = refl

pub long_length : (token : List ℕ) → 40 < length token → 40 ≡ length (take 40 token)
long_length token h = omega (arith, length-take 40 token, h)
