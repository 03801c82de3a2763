-- What each step of a search adds to its log, and how the log then stands. It is this project's own.
use Rattle.std.specs.Prelude.{◌≡◌, ℕ, ◌+◌, Bool, true, false, if◌then◌else◌, List, [], ◌∷◌, ◌++◌, length, ℤ, ◌-ℤ◌, ⊤, fold}
use Rattle.std.specs.List.{count_by}
use Rattle.std.specs.declared.option.Option.{Option}
use Rattle.std.specs.declared.option.Option.TheVariants.{Some, None}
use Rattle.entry_slab.specs.Entries.{Bounded}
use Rattle.incumbent_board.specs.Passes.{Held, IsAlone}
use Rattle.evictor.specs.Readers.{ReaderParts}
use Rattle.evictor.specs.Standings.{IsStanding, PutsAt}
use Rattle.evictor.specs.Reports.{is_gone as is_report_gone}
use Rattle.evictor.specs.declared.report.Report.{Report}
use Rattle.evictor.specs.declared.put.Put.{Put}
use Rattle.evictor.specs.declared.put.Put.TheVariants as put
use Rattle.run_log.specs.declared.line.LogLine.{LogLine}
use Rattle.run_log.specs.declared.line.LogLine.TheVariants as line
use Rattle.run_log.specs.Texts.{Line}
use Rattle.run_log.specs.Journals.{Noted, Notes}
use Rattle.explorer.specs.Offers.{lesser_of}
use Rattle.explorer.specs.Trees.{StoredAt, stored_lines, Tree, bound_of, Begun, nothing, whole}
use Rattle.explorer.specs.RightLogs.{IsTrueSoFar, IsKeptSoFar, least_so_far, standing_so_far}
use Rattle.explorer.specs.Books.{Pending, path_in, least_in, standing_in, book_lines, ArePendingTrue, ArePendingKept, AreShownBy}
use Rattle.explorer.specs.Going.{Aim, State}
use Rattle.explorer.specs.declared.bench.Bench.{Bench}
use Rattle.explorer.specs.declared.meter.Meter.{Meter}
use Rattle.explorer.specs.declared.frame.Frame.{Frame}
use Rattle.explorer.specs.declared.frame.Whole.{Whole}
use Rattle.explorer.specs.declared.frame.Turn.{Turn}
use Rattle.explorer.specs.declared.frame.Turn.TheVariants as turn

-- ---- counts over lines
abbrev pub is_expand : LogLine → Bool
is_expand (line.Node depth seen) = false
is_expand (line.Rest offset) = false
is_expand (line.Wide words) = false
is_expand (line.Gone place) = false
is_expand (line.Hit depth bound place) = false
is_expand (line.Expand depth var at up) = true
is_expand (line.Solution cost) = false
is_expand (line.Leaf depth bound) = false
is_expand (line.Join depth bound) = false
is_expand (line.Publish place bound) = false

abbrev pub cost_in : LogLine → Option ℤ
cost_in (line.Node depth seen) = None
cost_in (line.Rest offset) = None
cost_in (line.Wide words) = None
cost_in (line.Gone place) = None
cost_in (line.Hit depth bound place) = None
cost_in (line.Expand depth var at up) = None
cost_in (line.Solution cost) = Some cost
cost_in (line.Leaf depth bound) = None
cost_in (line.Join depth bound) = None
cost_in (line.Publish place bound) = None

abbrev pub is_gone : LogLine → Bool
is_gone (line.Node depth seen) = false
is_gone (line.Rest offset) = false
is_gone (line.Wide words) = false
is_gone (line.Gone place) = true
is_gone (line.Hit depth bound place) = false
is_gone (line.Expand depth var at up) = false
is_gone (line.Solution cost) = false
is_gone (line.Leaf depth bound) = false
is_gone (line.Join depth bound) = false
is_gone (line.Publish place bound) = false

-- how many nodes were expanded
unfoldable pub expands_in : List Line → ℕ
expands_in lines = count_by (λ l. is_expand l.line) lines

-- how many entries were gone
unfoldable pub gone_in : List Line → ℕ
gone_in lines = count_by (λ l. is_gone l.line) lines

-- the least of a cost that is known and of those of solutions
unfoldable pub known_in : Option ℤ → List Line → Option ℤ
known_in known lines = fold (λ (b : Option ℤ) (l : Line). lesser_of b (cost_in l.line)) known lines

-- The lines were noted; of them as many expand a node as credits were drawn, and the solutions in them are those that the meter knows.
pub record Tells (x y : Held) (b c : Meter) (j k : Noted) (more : List Line) : Type 0 where
  pub notes : Notes j k more
  pub expands : y.credits ≡ x.credits + expands_in more
  pub known : c.least ≡ known_in b.least more

-- ---- what is told of a lookup and of a publication
abbrev pub gone_one : ℕ → Report → List ℕ
gone_one place report = if is_report_gone report then place ∷ [] else []

-- the places whose entries were gone
unfoldable pub gone_at : List ℕ → List Report → List ℕ
gone_at [] reports = []
gone_at (place ∷ places) [] = []
gone_at (place ∷ places) (report ∷ reports) = gone_one place report ++ gone_at places reports

-- what was stored, and where
abbrev pub stored_at : Put → ℤ → Option StoredAt
stored_at (put.Stored place) bound = Some (record { place = place; bound = bound })
stored_at (put.AlreadyThere place) bound = None
stored_at put.Refused bound = None

-- what was stored of an expansion is noted, and the cache changes so
abbrev pub StoresIn : Option Whole → ℤ → Noted → Noted → ReaderParts → ReaderParts → Type 0
StoresIn None bound j k r s = Notes j k [] × (s ≡ r)
StoresIn (Some w) bound j k r s =
    (answer : Put) × Notes j k (stored_lines (stored_at answer (bound -ℤ w.offset))) × PutsAt (record { rest = w.rest; bound = bound -ℤ w.offset }) answer r s

-- ---- where the log of a search stands
-- the only pass of a board has seen the best cost
abbrev pub IsFresh : Held → Type 0
IsFresh x = IsAlone x → x.seen ≡ x.least

abbrev pub frames_at : Turn → Bench → List Frame
frames_at turn.Down t = t.frames
frames_at (turn.Up c) t = t.frames
frames_at (turn.Back f c) t = f ∷ t.frames
frames_at (turn.Done c) t = []

-- a whole tree, which is settled at the bound
pub record IsWhole (z : ℤ) (b : Begun) : Type 0 where
  pub tree : Tree
  pub is : b ≡ whole tree
  pub bound : bound_of tree ≡ z

abbrev pub HasLast : Turn → Begun → Type 0
HasLast turn.Down b = b ≡ nothing
HasLast (turn.Up c) b = IsWhole c.bound b
HasLast (turn.Back f c) b = IsWhole c.bound b
HasLast (turn.Done c) b = IsWhole c.bound b

-- it tells the open expansions, and the node that was settled last
pub record IsBooked (u : Turn) (t : Bench) (qs : List Pending) (b : Begun) : Type 0 where
  pub shown : AreShownBy (frames_at u t) qs
  pub last : HasLast u b

-- For the only pass of a board, it is true, and the pass knows the best cost so far.
pub record IsBelieved (a : Aim) (least : ℤ) (x : Held) (qs : List Pending) (b : Begun) : Type 0 where
  pub alone : IsAlone x
  pub pending : ArePendingTrue a.model a.limit a.path least qs
  pub last : IsTrueSoFar a.model a.limit (path_in a.path qs) (least_in least qs) b
  pub known : x.least ≡ least_so_far b (least_in least qs)

-- It keeps to the cache, whose entries stand where it says.
pub record IsInKeeping (a : Aim) (standing : List (Option Bounded)) (r : ReaderParts) (qs : List Pending) (b : Begun) : Type 0 where
  pub pending : ArePendingKept a.cache.ways standing qs
  pub last : IsKeptSoFar a.cache.ways (standing_in standing qs) b
  pub stands : IsStanding r (standing_so_far b (standing_in standing qs))

-- ---- a step of it
-- the lines are added, and what they say is true and keeps to the cache, none of whose entries is gone, where what was said before does
pub record Onward (a : Aim) (s z : State) (more : List Line) (qs : List Pending) (b : Begun) (P : List Pending → Begun → Type 0) : Type 0 where
  pub pendings : List Pending
  pub begun : Begun
  pub so : P pendings begun
  pub lines : book_lines (length a.path) pendings begun ≡ book_lines (length a.path) qs b ++ more
  pub believed : (least : ℤ) → IsBelieved a least s.pass qs b → IsBelieved a least z.pass pendings begun
  pub in_keeping : (standing : List (Option Bounded)) → IsInKeeping a standing s.reader qs b → IsInKeeping a standing z.reader pendings begun × (gone_in more ≡ 0)

unfoldable pub Continues : Aim → Turn → State → Turn → State → List Line → Type 0
Continues a u s v z more = (qs : List Pending) (b : Begun) → IsBooked u s.bench qs b → Onward a s z more qs b (IsBooked v z.bench)

unfoldable pub Breaks : Aim → Turn → State → State → List Line → Type 0
Breaks a u s z more = (qs : List Pending) (b : Begun) → IsBooked u s.bench qs b → Onward a s z more qs b (λ pendings begun. ⊤)

-- what a step notes
unfoldable pub Records : Aim → Turn → State → Noted → Turn → State → Noted → Type 0
Records a u s j v z k = (more : List Line) × Tells s.pass z.pass s.meter z.meter j k more × Continues a u s v z more

-- what one that fails notes
unfoldable pub Stops : Aim → Turn → State → Noted → State → Noted → Type 0
Stops a u s j z k = (more : List Line) × Tells s.pass z.pass s.meter z.meter j k more × Breaks a u s z more
