-- What the one pass of a board keeps, which holds the words of the board itself.
use Rattle.std.specs.Prelude.{◌≡◌, ℕ, ◌≤◌, ◌^◌, ℤ, ◌≤ℤ◌, Bool, true}
use Rattle.incumbent_board.specs.Passes.{IsBound}

pub record IsKept (budget : ℕ) (top : ℤ) (credits : ℕ) (spent : Bool) (best : ℤ) (stops_budget stops_memory told_budget told_memory : Bool) : Type 0 where
  pub few : budget ≤ 2 ^ 60
  pub within : credits ≤ budget
  pub none_left : spent ≡ true → credits ≡ budget
  pub limits : IsBound top
  pub below : best ≤ℤ top
  pub bound : IsBound best
  pub for_budget : told_budget ≡ true → stops_budget ≡ true
  pub for_memory : told_memory ≡ true → stops_memory ≡ true
