-- What the projection of a box answers.
use Rattle.std.specs.Prelude.{◌≡◌, ℕ, ◌^◌, ◌<◌, ◌≤◌, List, length, ℤ, pos, neg_ℤ, ◌≤ℤ◌, ⊤}
use Rattle.fzn_model.specs.Parts.{Parts}
use Rattle.fzn_model.specs.Boxes.{InBox}
use Rattle.fzn_model.specs.Rests.{RestParts, IsRestOf}
use Rattle.rest_key.specs.Words.{words_of}
use Rattle.rest_global.specs.Projection.{IsRestOfBox}
use Rattle.rest_global.specs.declared.projected.Projected.{Projected}
use Rattle.rest_global.specs.declared.projected.Projected.TheVariants as projected
use Rattle.rest_global.specs.declared.wide.Wide.{Wide}

-- the rest has more words than the limit
pub record IsWideRest (box : List (List ℤ)) (m : Parts) (below : ℤ) (limit : ℕ) (w : Wide) : Type 0 where
  pub rest : RestParts
  pub offset : ℤ
  pub is : IsRestOfBox box m below rest offset
  pub words : w.words ≡ length (words_of rest)
  pub more : limit < w.words
  pub bound : w.limit ≡ limit

-- the rest of the box with its offset, where it has at most as many words as the limit; else that it has more
abbrev pub IsProjected : List (List ℤ) → Parts → ℤ → ℕ → Projected → Type 0
IsProjected box m below limit (projected.Whole r offset) = IsRestOfBox box m below r offset × (length (words_of r) ≤ limit)
IsProjected box m below limit (projected.Wide w) = IsWideRest box m below limit w

-- an offset leaves room for sums with bounds in 128 bits
pub record IsOffset (offset : ℤ) : Type 0 where
  pub low : neg_ℤ (pos (2 ^ 100)) ≤ℤ offset
  pub high : offset ≤ℤ pos (2 ^ 100)

-- what a residual problem that is answered means: it is a rest of what lies in the box
abbrev pub MeansRest : List (List ℤ) → Parts → ℤ → Projected → Type 0
MeansRest box m below (projected.Whole r offset) = IsRestOf (InBox box) m below r offset × IsOffset offset
MeansRest box m below (projected.Wide w) = ⊤
