-- What the search of a path adds to a journal. It is this project's own.
use Rattle.std.specs.Prelude.{◌≡◌, ℕ, ◌+◌, List, length, ℤ, ⊤}
use Rattle.std.specs.declared.option.Option.{Option}
use Rattle.fzn_model.specs.Parts.{Parts}
use Rattle.incumbent_board.specs.Passes.{Held, IsAlone}
use Rattle.entry_slab.specs.Entries.{Bounded}
use Rattle.evictor.specs.Readers.{ReaderParts}
use Rattle.evictor.specs.Standings.{IsStanding}
use Rattle.search_core.specs.declared.decision.Decision.{Decision}
use Rattle.run_log.specs.Texts.{Line}
use Rattle.run_log.specs.Journals.{Noted, Notes}
use Rattle.explorer.specs.Trees.{Begun, begun_lines}
use Rattle.explorer.specs.RightLogs.{IsTrueSoFar, IsKeptSoFar, least_so_far, standing_so_far}
use Rattle.explorer.specs.Recording.{expands_in, known_in, gone_in, IsWhole}
use Rattle.explorer.specs.declared.meter.Meter.{Meter}
use Rattle.explorer.specs.declared.subtree.Explored.{Explored}
use Rattle.explorer.specs.declared.subtree.Explored.TheVariants as explored

-- the log of a path that is settled is a whole tree, settled at that bound
abbrev pub IsWholeWhere : Explored → Begun → Type 0
IsWholeWhere (explored.Settled bound) b = IsWhole bound b
IsWholeWhere explored.Dry b = ⊤
IsWholeWhere (explored.Told why) b = ⊤
IsWholeWhere explored.NoMemory b = ⊤

-- The lines of a journal without a fault: they are those of a tree, or of one that isn't done. Of as many nodes as credits were drawn they tell
-- the expansion, and the solutions in them are those that the meter knows. For the only pass of a board each of its nodes says what is
-- true, from the best cost on that the pass knew, and it knows the best cost behind them; where the entries of the cache stand, each keeps to them, they stand as it says, and none is gone.
pub record Logged (m : Parts) (p : List Decision) (limit : ℕ) (answer : Explored) (x y : Held) (r s : ReaderParts) (b c : Meter) (old new : Noted) : Type 0 where
  pub lines : List Line
  pub notes : Notes old new lines
  pub expands : y.credits ≡ x.credits + expands_in lines
  pub known : c.least ≡ known_in b.least lines
  pub begun : Begun
  pub shape : lines ≡ begun_lines (length p) begun
  pub whole_tree : IsWholeWhere answer begun
  pub true_nodes : IsAlone x → IsTrueSoFar m limit p x.least begun
  pub least : IsAlone x → y.least ≡ least_so_far begun x.least
  pub kept : (standing : List (Option Bounded)) → IsStanding r standing → IsKeptSoFar r.pass.cache.ways standing begun × IsStanding s (standing_so_far begun standing) × (gone_in lines ≡ 0)
