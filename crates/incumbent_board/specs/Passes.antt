-- The board of a search, as its passes know it (this project's own). A board has words that all workers share: a count of
-- the numbers claimed, a count of the credits drawn, the least cost offered, and two bits that say why to stop. A pass
-- is what one worker did to the words of a board and what it saw there; one pass is the first.
use Rattle.std.specs.Prelude.{◌≡◌, ◌≢◌, ℕ, ◌<◌, ◌≤◌, ◌^◌, ℤ, pos, neg_ℤ, ◌+ℤ◌, ◌≤ℤ◌, Bool, true, false, List, [], Option, Some, None, All, AllPairs, Contains, ⊤}
use Rattle.fzn_model.specs.Values.{largest}
use Rattle.incumbent_board.specs.declared.why.Why.{Why}
use Rattle.incumbent_board.specs.declared.why.Why.TheVariants.{Budget, Memory}
use Rattle.incumbent_board.specs.declared.totals.Totals.{Totals}

-- a cost, or one more than the greatest cost
abbrev pub IsBound : ℤ → Type 0
IsBound z = (neg_ℤ (pos largest) ≤ℤ z) × (z ≤ℤ (pos largest +ℤ pos 1))

-- What a board was made with: how many credits and how many numbers it has to give, and a bound that no cost reaches.
pub record Facts : Type 0 where
  pub budget : ℕ
  pub room : ℕ
  pub top : ℤ

-- What a pass knows: its board, and whether it is the board's first pass; the numbers that it claimed, and whether it
-- found none left; the credits that it drew, and whether it found the budget spent; the least of the top and the costs
-- that it offered, and the bound that it last saw; the bits that it set, and those that it was told of; how many passes
-- were split off it and not joined back, and how many ever.
pub record Held : Type 0 where
  pub board : Facts
  pub first : Bool
  pub claims : List ℕ
  pub none_left : Bool
  pub credits : ℕ
  pub spent : Bool
  pub least : ℤ
  pub seen : ℤ
  pub stops_budget : Bool
  pub stops_memory : Bool
  pub told_budget : Bool
  pub told_memory : Bool
  pub out : ℕ
  pub splits : ℕ

-- the first pass of a new board
abbrev pub first_pass : Facts → Held
first_pass b = record {
  board = b;
  first = true;
  claims = [];
  none_left = false;
  credits = 0;
  spent = false;
  least = b.top;
  seen = b.top;
  stops_budget = false;
  stops_memory = false;
  told_budget = false;
  told_memory = false;
  out = 0;
  splits = 0;
}

-- What is true of every pass.
pub record IsPass (p : Held) : Type 0 where
  pub budget : p.board.budget ≤ 2 ^ 60
  pub credits : p.credits ≤ p.board.budget
  pub top : IsBound p.board.top
  pub least : p.least ≤ℤ p.board.top
  pub seen : p.seen ≤ℤ p.least
  pub bound : IsBound p.seen

-- a pass of the same board, of the same place among its passes
pub record SamePass (p q : Held) : Type 0 where
  pub board : q.board ≡ p.board
  pub first : q.first ≡ p.first
  pub out : q.out ≡ p.out
  pub splits : q.splits ≡ p.splits

-- the only pass that its board has left
abbrev pub IsAlone : Held → Type 0
IsAlone p = (p.first ≡ true) × (p.out ≡ 0)

-- the pass after it set a bit
abbrev pub stopped_by : Why → Held → Held
stopped_by Budget p = record p { stops_budget = true }
stopped_by Memory p = record p { stops_memory = true }

-- the pass after it was told of a bit, or of none
abbrev pub told : Option Why → Held → Held
told None p = p
told (Some Budget) p = record p { told_budget = true }
told (Some Memory) p = record p { told_memory = true }

-- what a pass may be told: never less than what it set or was told before
abbrev pub MayHear : Option Why → Held → Type 0
MayHear None p = (p.stops_budget ≡ false) × (p.stops_memory ≡ false) × (p.told_budget ≡ false) × (p.told_memory ≡ false)
MayHear (Some Budget) p = (p.stops_memory ≡ false) × (p.told_memory ≡ false)
MayHear (Some Memory) p = ⊤

-- why to stop, by the two bits: want of memory where both are set
abbrev pub why_of : Bool → Bool → Option Why
why_of budget true = Some Memory
why_of true false = Some Budget
why_of false false = None

-- What a board says at its end is what its last pass did: the credits, of which none is beyond the budget, and which are
-- the whole budget where the pass found it spent; the least bound; why to stop. The numbers claimed differ, and are
-- all where the pass found none left.
pub record Ends (p : Held) (t : Totals) : Type 0 where
  pub credits : t.credits ≡ p.credits
  pub within : p.credits ≤ p.board.budget
  pub spent : p.spent ≡ true → p.credits ≡ p.board.budget
  pub best : t.best ≡ p.least
  pub why : t.why ≡ why_of p.stops_budget p.stops_memory
  pub once : AllPairs (λ x y. x ≢ y) p.claims
  pub below : All (λ x. x < p.board.room) p.claims
  pub all : p.none_left ≡ true → (x : ℕ) → x < p.board.room → Contains p.claims x
