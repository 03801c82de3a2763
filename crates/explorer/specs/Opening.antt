-- How a node is expanded and what is stored of it. It is this project's own.
use Rattle.std.specs.Prelude.{◌≡◌, ℕ, ◌+◌, ◌^◌, ◌≤◌, ◌⊎◌, List, ℤ, ◌-ℤ◌, Some, None, ⊤, true}
use Rattle.std.specs.declared.option.Option.{Option}
use Rattle.fzn_model.specs.Parts.{Parts}
use Rattle.fzn_model.specs.Rests.{RestParts, IsTrueEntry}
use Rattle.rest_global.specs.Projected.{IsProjected, MeansRest, IsOffset}
use Rattle.rest_global.specs.declared.projected.Projected.{Projected}
use Rattle.incumbent_board.specs.Passes.{Held, IsAlone}
use Rattle.evictor.specs.Readers.{ReaderParts}
use Rattle.evictor.specs.Looks.{IsLook}
use Rattle.evictor.specs.declared.look.Look.{Look}
use Rattle.search_core.specs.declared.decision.Decision.{Decision}
use Rattle.search_core.specs.Locals.{LocalParts}
use Rattle.explorer.specs.Telling.{IsSplit}
use Rattle.explorer.specs.Walking.{Enters, Fails}
use Rattle.explorer.specs.declared.bench.Bench.{Bench}
use Rattle.explorer.specs.declared.meter.Meter.{Meter}
use Rattle.explorer.specs.declared.frame.Frame.{Frame}
use Rattle.explorer.specs.declared.frame.Whole.{Whole}
use Rattle.explorer.specs.declared.frame.Stop.{Stop}
use Rattle.explorer.specs.declared.frame.Stop.TheVariants as stop
use Rattle.explorer.specs.declared.frame.Side.TheVariants as side

-- what a projection says
unfoldable pub IsProjectedBelow : Parts → List (List ℤ) → ℤ → ℕ → Projected → Type 0
IsProjectedBelow m box seen limit x = IsProjected box m seen limit x × MeansRest box m seen x

-- what a lookup says
unfoldable pub IsLookedUp : RestParts → ℤ → Look → ReaderParts → ReaderParts → Type 0
IsLookedUp r need x old new = IsLook r need x old new

-- a credit was drawn and counted
pub record IsPaid (x y : Held) (a b : Meter) : Type 0 where
  pub pass : y ≡ record x { credits = x.credits + 1 }
  pub meter : b ≡ record a { count = a.count + 1 }
  pub few : y.credits ≤ 2 ^ 60

-- no credit was left
pub record IsEmptyHanded (why : Stop) (x y : Held) (a b : Meter) : Type 0 where
  pub dry : why ≡ stop.Dry
  pub pass : y ≡ record x { spent = true }
  pub meter : b ≡ a
  pub cause : IsAlone x → x.credits ≡ x.board.budget

-- the frame of an expansion at its first side
abbrev pub first_frame : Decision → ℤ → Option Whole → Frame
first_frame d seen whole = record { cut = d; side = side.First; seen = seen; whole = whole }

-- the path is split, and its first side is open
pub record Opens (d : Decision) (seen : ℤ) (whole : Option Whole) (t k : Bench) (l n : LocalParts) : Type 0 where
  pub split : IsSplit t.here d l n
  pub enters : Enters d (first_frame d seen whole) t k

-- memory was wanting: the path may have been split
pub record IsStarted (t k : Bench) (l n : LocalParts) : Type 0 where
  pub fails : Fails t k
  pub expands : (n.expands ≡ l.expands) ⊎ (n.expands ≡ l.expands + 1)

-- the entry that an expansion leaves is true
unfoldable pub IsStorable : Option Whole → ℤ → Type 0
IsStorable None b = ⊤
IsStorable (Some w) b = IsTrueEntry w.rest (b -ℤ w.offset) × IsOffset w.offset
