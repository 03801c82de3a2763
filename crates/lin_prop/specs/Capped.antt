-- What is reached for a sum that has to be at most a number.
use Rattle.std.specs.Prelude.{◌≡◌, List, Bool, true, false, ℤ, pos, neg_ℤ, ◌*ℤ◌, ◌≤ℤ◌, ◌<ℤ◌}
use Rattle.fzn_model.specs.declared.term.Term.{Term}
use Rattle.fzn_model.specs.Meaning.{lin_sum}
use Rattle.fzn_model.specs.Bounds.{sum_low}
use Rattle.dom_store.specs.Sums.{RisesWithin}
use Rattle.dom_store.specs.Strength.{IsCapped}
use Rattle.lin_prop.specs.Signed.{signed, signed_all}
use Rattle.dom_store.specs.declared.sums.Reach.{Reach}
use Rattle.lin_prop.specs.declared.capped.Slack.{Slack}
use Rattle.lin_prop.specs.declared.capped.Slack.TheVariants as slack

-- the sum is at most the number
unfoldable pub SumIsAtMost : List (ℤ × Term) → ℤ → List ℤ → Type 0
SumIsAtMost ts most θ = lin_sum ts θ ≤ℤ most

-- the least of the sum is at most the number, and so is each term's greatest with the least of all others
pub record IsLow (ts : List (ℤ × Term)) (most : ℤ) (box : List (List ℤ)) : Type 0 where
  pub sum : sum_low box ts ≤ℤ most
  pub capped : IsCapped box ts most

-- a coefficient times the value is at most the number
unfoldable pub ScaledIsAtMost : ℤ × Term → ℤ → ℤ → Type 0
ScaledIsAtMost t most z = (t.0 *ℤ z) ≤ℤ most

-- a coefficient times its term rises from its least by at most a number, and its negative by at most another
pub record RisesBoth (up down : ℤ) (t : ℤ × Term) (box : List (List ℤ)) : Type 0 where
  pub above : RisesWithin up (signed false t) box
  pub below : RisesWithin down (signed true t) box

-- the sum is at most the number, and its negative at most the number's negative
pub record SumIsBoth (ts : List (ℤ × Term)) (r : ℤ) (θ : List ℤ) : Type 0 where
  pub most : SumIsAtMost (signed_all false ts) r θ
  pub least : SumIsAtMost (signed_all true ts) (neg_ℤ r) θ

-- the least of the sum, or of its negative
abbrev pub low_by : Bool → Reach → ℤ
low_by false reach = reach.low
low_by true reach = neg_ℤ reach.high

-- what it means that the least is so far below a number, where no term rises by more than a second one
abbrev pub SlackMeans : ℤ → ℤ → Slack → Type 0
SlackMeans left rise slack.Over = left <ℤ pos 0
SlackMeans left rise slack.Ample = (pos 0 ≤ℤ left) × (rise ≤ℤ left)
SlackMeans left rise (slack.Scarce s) = (pos 0 ≤ℤ left) × (s ≡ left)
