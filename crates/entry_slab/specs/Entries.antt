-- Entries of a cache, and counts. It is this project's own, after the published idea of a cache of solved subproblems (Chu,
-- Garcia de la Banda, Stuckey, 2010).
use Rattle.std.specs.Prelude.{ℕ, ◌+◌, ◌-◌, ◌^◌, ◌≤◌, min, ℤ}
use Rattle.fzn_model.specs.Rests.{RestParts}
use Rattle.rest_key.specs.Words.{words_of, far_words}
use Rattle.rest_key.specs.Digest.{digest_of}

-- a residual problem and a bound that none of its solutions costs less than
pub record Bounded : Type 0 where
  pub rest : RestParts
  pub bound : ℤ

-- the two digests of a residual problem, of all its words and of those that dominating ones mostly share
unfoldable pub near_digest : RestParts → ℕ
near_digest r = digest_of (words_of r)

unfoldable pub far_digest : RestParts → ℕ
far_digest r = digest_of (far_words r)

-- a count one higher; it stays at the greatest u64
abbrev pub counted : ℕ → ℕ
counted n = min (n + 1) (2 ^ 64 - 1)

-- the count went up, or stands at the greatest u64
abbrev pub Rose : ℕ → ℕ → Type 0
Rose before now = counted before ≤ now
