-- What entitles a search to expand a node. It is this project's own.
use Rattle.std.specs.Prelude.{◌≡◌, ℕ, ◌≤◌, List, length, ℤ, ◌-ℤ◌}
use Rattle.fzn_model.specs.Parts.{Parts}
use Rattle.rest_key.specs.Words.{words_of}
use Rattle.rest_global.specs.Projection.{IsRestOfBox}
use Rattle.rest_global.specs.Projected.{IsWideRest}
use Rattle.evictor.specs.Readers.{ReaderParts}
use Rattle.evictor.specs.Passes.{CacheFacts}
use Rattle.evictor.specs.Misses.{MissedParts}
use Rattle.evictor.specs.Looks.{IsMiss}
use Rattle.search_core.specs.declared.decision.Decision.{Decision}
use Rattle.search_core.specs.Paths.{Begins}
use Rattle.explorer.specs.Nodes.{IsNode}
use Rattle.explorer.specs.declared.ticket.Ticket.{Ticket}
use Rattle.explorer.specs.declared.ticket.Ticket.TheVariants as ticket

-- What an expansion was of and took: its path, the box that propagation left there, the bound that was seen, the reader when
-- the ticket was made, and the ticket.
pub record Expansion : Type 0 where
  pub path : List Decision
  pub area : List (List ℤ)
  pub seen : ℤ
  pub reader : ReaderParts
  pub ticket : Ticket

-- The residual problem of the box, within the limit, was looked up for the bound less its offset, and missed.
pub record IsMissOf (m : Parts) (limit : ℕ) (box : List (List ℤ)) (seen : ℤ) (reader : ReaderParts) (missed : MissedParts) : Type 0 where
  pub offset : ℤ
  pub after : ReaderParts
  pub is : IsRestOfBox box m seen missed.rest offset
  pub words : length (words_of missed.rest) ≤ limit
  pub miss : IsMiss missed.rest (seen -ℤ offset) missed reader after

-- The ticket is for this box: a miss of its residual problem, or that it has more words than the limit.
abbrev pub IsTicket : Parts → ℕ → List (List ℤ) → ℤ → ReaderParts → Ticket → Type 0
IsTicket m limit box seen reader (ticket.Missed missed) = IsMissOf m limit box seen reader missed
IsTicket m limit box seen reader (ticket.Wide wide) = IsWideRest box m seen limit wide

-- A node of the tree under the path was expanded with a ticket of its own, made with a reader of the cache.
pub record IsExpansion (m : Parts) (p : List Decision) (limit : ℕ) (cache : CacheFacts) (e : Expansion) : Type 0 where
  pub under : Begins p e.path
  pub node : IsNode m e.path e.area e.seen
  pub own : e.reader.pass.cache ≡ cache
  pub paid : IsTicket m limit e.area e.seen e.reader e.ticket
