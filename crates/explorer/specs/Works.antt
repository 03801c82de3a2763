-- What a search spends and finds. It is this project's own.
use Rattle.std.specs.Prelude.{◌≡◌, ℕ, ◌+◌, List, length, ℤ, ◌≤ℤ◌, true, All, Some, ⊤, ◌⊎◌}
use Rattle.fzn_model.specs.Parts.{Parts}
use Rattle.incumbent_board.specs.Passes.{Held, SamePass, IsAlone, why_of}
use Rattle.incumbent_board.specs.declared.why.Why.{Why}
use Rattle.incumbent_board.specs.declared.why.Why.TheVariants.{Budget, Memory}
use Rattle.evictor.specs.Readers.{ReaderParts}
use Rattle.search_core.specs.declared.decision.Decision.{Decision}
use Rattle.search_core.specs.Locals.{LocalParts}
use Rattle.explorer.specs.Offers.{Kept, IsOffer, least_with, known_after, kept_after}
use Rattle.explorer.specs.Expansions.{Expansion, IsExpansion}
use Rattle.explorer.specs.declared.meter.Meter.{Meter}
use Rattle.explorer.specs.declared.frame.Stop.{Stop}
use Rattle.explorer.specs.declared.frame.Stop.TheVariants as stop

-- Between two moments of a search under a path: solutions were offered, of which the pass and the meter have the least cost and
-- `found` the cheapest, and nodes were expanded, each for one credit and one ticket and counted once. No bit was set. The
-- bound that is seen never rises, and for the only pass of a board it doesn't fall below the least of what was offered.
pub record Works (m : Parts) (p : List Decision) (limit : ℕ) (x y : Held) (r s : ReaderParts) (a b : Meter) (f g : Kept) : Type 0 where
  pub offers : List (List ℤ × ℤ)
  pub solved : All (IsOffer m) offers
  pub expansions : List Expansion
  pub paid : All (IsExpansion m p limit r.pass.cache) expansions
  pub credits : y.credits ≡ x.credits + length expansions
  pub count : b.count ≡ a.count + length expansions
  pub least : y.least ≡ least_with x.least offers
  pub known : b.least ≡ known_after a.least offers
  pub kept : g.best ≡ kept_after f.best offers
  pub room : g.count ≡ f.count
  pub falls : y.seen ≤ℤ x.seen
  pub floor : IsAlone x → x.least ≤ℤ x.seen → y.least ≤ℤ y.seen
  pub same : SamePass x y
  pub for_budget : y.stops_budget ≡ x.stops_budget
  pub for_memory : y.stops_memory ≡ x.stops_memory
  pub cache : s.pass.cache ≡ r.pass.cache

-- the pass was told of this reason
abbrev pub IsTold : Why → Held → Type 0
IsTold Budget y = y.told_budget ≡ true
IsTold Memory y = y.told_memory ≡ true

-- Why a search stopped: the board had no credit left; or it told a reason to stop, which some pass had given; or memory was
-- wanting.
abbrev pub IsCause : Stop → Held → Held → Type 0
IsCause stop.Dry x y = (y.spent ≡ true) × (IsAlone x → y.credits ≡ y.board.budget)
IsCause (stop.Told why) x y = IsTold why y × (IsAlone x → why_of x.stops_budget x.stops_memory ≡ Some why)
IsCause stop.NoMemory x y = ⊤

-- the expansions that the worker's part counted are those that took a credit
abbrev pub Counted : LocalParts → LocalParts → Held → Held → Type 0
Counted l k x y = k.expands + x.credits ≡ l.expands + y.credits

-- where memory is wanting, the worker's part may have counted one less
abbrev pub CountedAt : Stop → LocalParts → LocalParts → Held → Held → Type 0
CountedAt stop.Dry l k x y = Counted l k x y
CountedAt (stop.Told why) l k x y = Counted l k x y
CountedAt stop.NoMemory l k x y = Counted l k x y ⊎ (k.expands + 1 + x.credits ≡ l.expands + y.credits)
