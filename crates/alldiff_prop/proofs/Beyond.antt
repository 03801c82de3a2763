-- Bounds strictly beyond a number are bounds at the next one.
use Rattle.std.proofs.Common.{◌≡◌, arith}
use Rattle.std.specs.Prelude.{ℤ, pos, ◌+ℤ◌, ◌-ℤ◌, ◌<ℤ◌}
use Rattle.std.proofs.lemmas.Int.{ints}
use Rattle.fzn_model.specs.declared.term.Term.{Term}
use Rattle.fzn_model.specs.Boxes.{IsBox}
use Rattle.fzn_model.specs.Bounds.{term_low, term_high}
use Rattle.dom_store.specs.declared.pass.Passed.{Passed}
use Rattle.dom_store.specs.declared.pass.Passed.TheVariants as passed
use Rattle.dom_store.specs.Stores.{Stored}
use Rattle.dom_store.specs.Steps.{NarrowsTerm, IsAtLeast, IsAtMost, LowIs, HighIs}
use Rattle.dom_store.proofs.Stepping.{narrows_as, narrows_idle}
use Rattle.alldiff_prop.specs.Strict.{IsAbove, IsBelow, LowIsAbove, HighIsBelow}

pub kept_above : (t : Term) (number low : ℤ) (old new : Stored) (result : Passed) → low ≡ number +ℤ pos 1 → NarrowsTerm (IsAtLeast low) (LowIs t low) t old new result → NarrowsTerm (IsAbove number) (LowIsAbove t number) t old new result
unfolding LowIs LowIsAbove
kept_above t number low old new result is narrows =
    narrows_as (IsAtLeast low) (IsAbove number) (LowIs t low) (LowIsAbove t number) t old new result (λ z above. omega (arith, ints, is, above)) (λ prunes well_formed reached. omega (arith, ints, is, reached)) narrows

pub kept_below : (t : Term) (number high : ℤ) (old new : Stored) (result : Passed) → high ≡ number -ℤ pos 1 → NarrowsTerm (IsAtMost high) (HighIs t high) t old new result → NarrowsTerm (IsBelow number) (HighIsBelow t number) t old new result
unfolding HighIs HighIsBelow
kept_below t number high old new result is narrows =
    narrows_as (IsAtMost high) (IsBelow number) (HighIs t high) (HighIsBelow t number) t old new result (λ z below. omega (arith, ints, is, below)) (λ prunes well_formed reached. omega (arith, ints, is, reached)) narrows

-- where they lie beyond it already, nothing is narrowed
pub above_idle : (t : Term) (number : ℤ) (s : Stored) → IsBox s.box → number <ℤ term_low s.box t → NarrowsTerm (IsAbove number) (LowIsAbove t number) t s s passed.Done
unfolding LowIsAbove
above_idle t number s well_formed is = narrows_idle (IsAbove number) (LowIsAbove t number) t s well_formed is

pub below_idle : (t : Term) (number : ℤ) (s : Stored) → IsBox s.box → term_high s.box t <ℤ number → NarrowsTerm (IsBelow number) (HighIsBelow t number) t s s passed.Done
unfolding HighIsBelow
below_idle t number s well_formed is = narrows_idle (IsBelow number) (HighIsBelow t number) t s well_formed is
