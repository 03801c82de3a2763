-- The bounds of all members in the order of their greatest values, and what a look along them tells.
use Rattle.std.specs.Prelude.{◌≡◌, ℕ, ◌<◌, ◌≤◌, ◌⊎◌, false, List, map, filter, take, length, slice_index_or, ℤ, ◌≤ℤ◌, ◌<ℤ◌, int_le, All, AllPairs}
use Rattle.std.specs.List.Sorted.{IsPermutation}
use Rattle.fzn_model.specs.declared.term.Term.{Term}
use Rattle.fzn_model.specs.Limits.{IsValue}
use Rattle.fzn_model.specs.Bounds.{term_low, term_high}
use Rattle.dom_store.specs.Strength.{IsOutside}
use Rattle.alldiff_prop.specs.declared.sweep.Sweep.{Sweep}
use Rattle.alldiff_prop.specs.Fulls.{AreFullsTo}
use Rattle.alldiff_prop.specs.Halls.{IsNarrowedFrom}

-- the greatest value of a term, and its least
abbrev pub span_of : List (List ℤ) → Term → ℤ × ℤ
span_of box x = (term_high box x, term_low box x)

-- values in order
pub record IsSpan (s : ℤ × ℤ) : Type 0 where
  pub order : s.1 ≤ℤ s.0
  pub high : IsValue s.0

-- no span ends after a later one
pub record AreOrdered (spans : List (ℤ × ℤ)) : Type 0 where
  pub climbs : AllPairs (λ s t. s.0 ≤ℤ t.0) spans
  pub each : All IsSpan spans

-- those of the members of a box
pub record AreSpans (box : List (List ℤ)) (xs : List Term) (spans : List (ℤ × ℤ)) : Type 0 where
  pub ordered : AreOrdered spans
  pub moved : IsPermutation (map (span_of box) xs) spans

-- those that begin at low or after it, and where they end
abbrev pub begun : ℤ → List (ℤ × ℤ) → List (ℤ × ℤ)
begun low spans = filter (λ s. int_le low s.1) spans

abbrev pub ends_from : ℤ → List (ℤ × ℤ) → List ℤ
ends_from low spans = map (λ s. s.0) (begun low spans)

-- a span lies within low..high, or both its bounds lie outside
unfoldable pub SpanIsClear : ℤ → ℤ × ℤ → ℤ → Type 0
SpanIsClear low s high = ((low ≤ℤ s.1) × (s.0 ≤ℤ high)) ⊎ (IsOutside low high s.1 × IsOutside low high s.0)

-- so do the first n, for each of the numbers
unfoldable pub AreClearTo : ℤ → List (ℤ × ℤ) → List ℤ → ℕ → Type 0
AreClearTo low spans fulls n = (k : ℕ) → k < n → (d : ℤ × ℤ) → All (SpanIsClear low (slice_index_or spans k d)) fulls

-- none of the first n begins before low and ends at it or after it
unfoldable pub NoneCrosses : ℤ → List (ℤ × ℤ) → ℕ → Type 0
NoneCrosses low spans n = (k : ℕ) → k < n → (d : ℤ × ℤ) → (slice_index_or spans k d).1 <ℤ low → (slice_index_or spans k d).0 <ℤ low

-- what is known after the first i spans, each of which is clear of the full intervals from low so far
pub record IsSwept (taken : List ℤ) (low : ℤ) (spans : List (ℤ × ℤ)) (i : ℕ) (sweep : Sweep) : Type 0 where
  pub fulls : List ℤ
  pub few : sweep.count ≤ i
  pub count : sweep.count ≡ length (begun low (take i spans))
  pub are : AreFullsTo taken low (ends_from low spans) fulls sweep.count
  pub last : All (λ f. f ≤ℤ sweep.last) fulls
  pub clear : AreClearTo low spans fulls i
  pub uncrossed : sweep.crossed ≡ false → NoneCrosses low spans i

-- all spans are clear of the full intervals from low, none of which is overfull
pub record IsClearFrom (taken : List ℤ) (low : ℤ) (spans : List (ℤ × ℤ)) : Type 0 where
  pub fulls : List ℤ
  pub are : AreFullsTo taken low (ends_from low spans) fulls (length (ends_from low spans))
  pub clear : AreClearTo low spans fulls (length spans)

-- while the box is as it was first, each interval from low on is as it is to be
unfoldable pub IsNarrowedSince : List (List ℤ) → List Term → List ℤ → ℤ → List (List ℤ) → Type 0
IsNarrowedSince first xs taken low box = box ≡ first → IsNarrowedFrom xs taken low box
