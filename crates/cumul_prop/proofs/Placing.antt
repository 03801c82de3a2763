-- The least and the greatest start of a task.
use Rattle.std.proofs.Common.{◌≡◌, ℕ, List, get_or, ℤ, pos, ◌-ℤ◌, arith, inl, inr}
use Rattle.std.proofs.lemmas.Int.{ints}
use Rattle.fzn_model.specs.declared.cumulative.Used.{Used}
use Rattle.fzn_model.specs.Limits.{IsValue, IsNear}
use Rattle.cumul_prop.specs.declared.fits.Place.{Place}
use Rattle.cumul_prop.specs.Limits.{IsPlace, Clashes, Covers, FitsThere, IsClash, IsLeast, IsGreatest, IsNext}

-- a moment of a list
abbrev pub moment_at : List (ℤ × ℤ) → ℕ → ℤ
moment_at profile k = (get_or profile k (pos 0, pos 0)).0

module _ (all : List Used) (profile : List (ℤ × ℤ)) (p : Place) (start : ℤ) where
  here : IsPlace p → IsValue start → Clashes all p start → IsClash all p start start
  unfolding Covers
  here place value clash = record { covered = (omega (arith, ints), omega (arith, ints, place.duration.0)); clashes = clash; near = omega (arith, ints, value) }

  pub near_there : (k : ℕ) → ((d : ℤ × ℤ) → IsClash all p start (get_or profile k d).0) → IsNear (moment_at profile k)
  near_there k clash = (clash (pos 0, pos 0)).near

  pub least_here : (limit : ℤ) → IsPlace p → IsValue start → Clashes all p start → IsNext all start limit → IsLeast all profile p start limit
  unfolding IsLeast
  least_here limit place value clash next = inr (start, here place value clash, next)

  pub least_there : (limit : ℤ) (k : ℕ) → ((d : ℤ × ℤ) → IsClash all p start (get_or profile k d).0) → IsNext all (moment_at profile k) limit → IsLeast all profile p start limit
  unfolding IsLeast
  least_there limit k clash next = inr (moment_at profile k, clash (pos 0, pos 0), next)

  pub least_fits : (limit : ℤ) → (Clashes all p start → ⊥) → FitsThere all profile p start → limit ≡ start → IsLeast all profile p start limit
  unfolding IsLeast
  least_fits limit fits there is = inl (is, record { here = fits; there = there })

  pub greatest_here : (limit : ℤ) → IsPlace p → IsValue start → Clashes all p start → limit ≡ start -ℤ p.duration → IsGreatest all profile p start limit
  unfolding IsGreatest
  greatest_here limit place value clash is = inr (start, here place value clash, is)

  pub greatest_there : (limit : ℤ) (k : ℕ) → ((d : ℤ × ℤ) → IsClash all p start (get_or profile k d).0) → limit ≡ moment_at profile k -ℤ p.duration → IsGreatest all profile p start limit
  unfolding IsGreatest
  greatest_there limit k clash is = inr (moment_at profile k, clash (pos 0, pos 0), is)

  pub greatest_fits : (limit : ℤ) → (Clashes all p start → ⊥) → FitsThere all profile p start → limit ≡ start → IsGreatest all profile p start limit
  unfolding IsGreatest
  greatest_fits limit fits there is = inl (is, record { here = fits; there = there })
