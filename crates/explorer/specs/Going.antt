-- One relation for each step of a search, and what holds between two steps. It is this project's own.
use Rattle.std.specs.Prelude.{◌≡◌, ℕ, ◌+◌, ◌^◌, ◌≤◌, List, ℤ, length}
use Rattle.fzn_model.specs.Parts.{Parts}
use Rattle.fzn_model.specs.Limits.{IsModel}
use Rattle.fzn_model.specs.Solutions.{top}
use Rattle.prop_engine.specs.Plans.{plan_of}
use Rattle.incumbent_board.specs.Passes.{Facts, Held}
use Rattle.evictor.specs.Passes.{CacheFacts}
use Rattle.evictor.specs.Readers.{ReaderParts}
use Rattle.search_core.specs.declared.decision.Decision.{Decision}
use Rattle.search_core.specs.Locals.{LocalParts}
use Rattle.explorer.specs.Offers.{Kept}
use Rattle.explorer.specs.Holding.{times_held, times_in}
use Rattle.explorer.specs.Works.{Works, IsCause, Counted, CountedAt}
use Rattle.explorer.specs.Frames.{Levels}
use Rattle.explorer.specs.Turns.{IsAt, held_at, DoneAt, open_weight, turns_left}
use Rattle.explorer.specs.declared.bench.Bench.{Bench}
use Rattle.explorer.specs.declared.meter.Meter.{Meter}
use Rattle.explorer.specs.declared.task.Task.{Task}
use Rattle.explorer.specs.declared.frame.Turn.{Turn}
use Rattle.explorer.specs.declared.frame.Stop.{Stop}

-- what a search is for, and what it only reads
pub record Aim : Type 0 where
  pub model : Parts
  pub path : List Decision
  pub limit : ℕ
  pub cache : CacheFacts
  pub board : Facts

abbrev pub aim : Task → Aim
aim t = record { model = t.model.now; path = t.path.now; limit = t.limit; cache = t.cache.now; board = t.board.now }

-- all that a search changes
pub record State : Type 0 where
  pub bench : Bench
  pub pass : Held
  pub local : LocalParts
  pub reader : ReaderParts
  pub meter : Meter
  pub found : Kept

abbrev pub state : Bench → Held → LocalParts → ReaderParts → Meter → Kept → State
state t x l r c f = record { bench = t; pass = x; local = l; reader = r; meter = c; found = f }

-- where the search stands, where each path is held so often beside what is held under the call's
pub record StandsBeside (a : Aim) (u : Turn) (s : State) (others : List Decision → ℕ) : Type 0 where
  pub model : IsModel a.model
  pub place : IsAt a.model a.path u s.bench s.pass.seen
  pub plan : s.bench.engine ≡ plan_of a.model
  pub held : (q : List Decision) → times_held q s.local ≡ times_in q (held_at a.path u s.bench) + others q
  pub done : DoneAt a.path u s.bench s.local
  pub board : s.pass.board ≡ a.board
  pub top : a.board.top ≡ top a.model
  pub cache : s.reader.pass.cache ≡ a.cache
  pub few : s.pass.credits ≤ 2 ^ 60
  pub count : s.meter.count ≤ 2 ^ 100 + s.pass.credits
  pub expands : s.local.expands ≤ 2 ^ 100 + s.pass.credits
  pub room : s.found.count ≡ length a.model.doms

unfoldable pub Stands : Aim → Turn → State → (List Decision → ℕ) → Type 0
Stands a u s others = StandsBeside a u s others

-- for some of these
unfoldable pub CanGo : Aim → Turn → State → Type 0
CanGo a u s = (others : List Decision → ℕ) × Stands a u s others

abbrev pub Working : Aim → State → State → Type 0
Working a s z = Works a.model a.path a.limit s.pass z.pass s.reader z.reader s.meter z.meter s.found z.found

pub record Steps (a : Aim) (n : ℕ) (u : Turn) (s : State) (v : Turn) (z : State) : Type 0 where
  pub stands : (others : List Decision → ℕ) → Stands a u s others → Stands a v z others
  pub turns : (others : List Decision → ℕ) → Stands a u s others → turns_left a.model a.path v z.bench + n ≤ turns_left a.model a.path u s.bench
  pub weights : (others : List Decision → ℕ) → Stands a u s others → open_weight a.model a.path v z.bench + z.pass.credits ≤ open_weight a.model a.path u s.bench + s.pass.credits
  pub counts : Counted s.local z.local s.pass z.pass
  pub levels : (root : List (List (List ℤ))) → Levels s.bench.frames s.bench.store.saved root → Levels z.bench.frames z.bench.store.saved root
  pub works : (others : List Decision → ℕ) → Stands a u s others → Working a s z
  pub plan : z.bench.engine ≡ s.bench.engine
  pub closed : z.meter.closed ≡ s.meter.closed

-- what a step keeps, in at least n turns
unfoldable pub Goes : Aim → ℕ → Turn → State → Turn → State → Type 0
Goes a n u s v z = Steps a n u s v z

-- what an early end keeps
pub record Halts (a : Aim) (u : Turn) (s : State) (why : Stop) (z : State) : Type 0 where
  pub weights : (others : List Decision → ℕ) → Stands a u s others → z.pass.credits ≤ open_weight a.model a.path u s.bench + s.pass.credits
  pub counts : CountedAt why s.local z.local s.pass z.pass
  pub levels : (root : List (List (List ℤ))) → Levels s.bench.frames s.bench.store.saved root → Levels z.bench.frames z.bench.store.saved root
  pub works : (others : List Decision → ℕ) → Stands a u s others → Working a s z
  pub plan : z.bench.engine ≡ s.bench.engine
  pub closed : z.meter.closed ≡ s.meter.closed
  pub cause : (others : List Decision → ℕ) → Stands a u s others → IsCause why s.pass z.pass

unfoldable pub Ends : Aim → Turn → State → Stop → State → Type 0
Ends a u s why z = Halts a u s why z
