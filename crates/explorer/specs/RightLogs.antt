-- When a log of a search is right: the shape of its lines is that of a tree, and each of its nodes says what is true, asks for its
-- own residual problem, respects the entries that stand, and stores what it found. It is this project's own.
use Rattle.std.specs.Prelude.{◌≡◌, ℕ, ◌<◌, ◌≤◌, ◌⊎◌, List, [], ◌∷◌, ◌++◌, length, ℤ, ◌-ℤ◌, ⊤, Some, None, Contains}
use Rattle.std.specs.Int.{int_min}
use Rattle.std.specs.declared.option.Option.{Option}
use Rattle.fzn_model.specs.Parts.{Parts}
use Rattle.fzn_model.specs.Rests.{RestParts}
use Rattle.fzn_model.specs.Solutions.{Solves, cost, top}
use Rattle.dom_store.specs.Propagation.{FallsFar}
use Rattle.prop_engine.specs.Plans.{plan_of}
use Rattle.prop_engine.specs.Fixing.{IsFixpoint}
use Rattle.rest_key.specs.Words.{words_of}
use Rattle.rest_global.specs.Projection.{IsRestOfBox}
use Rattle.entry_slab.specs.Entries.{Bounded}
use Rattle.evictor.specs.Standings.{ServesAt, NoneServes, IsPlaceFor, put_in}
use Rattle.search_core.specs.declared.decision.Decision.{Decision}
use Rattle.search_core.specs.Paths.{opposite, Meets, Settled}
use Rattle.search_core.specs.Boxes.{path_box}
use Rattle.run_log.specs.Texts.{Line}
use Rattle.explorer.specs.Nodes.{IsNode}
use Rattle.explorer.specs.Trees.{Asked, rest, wide, StoredAt, Opened, Tree, leaf, hit, join, bound_of, tree_lines, Begun, nothing, solved, whole, in_first, in_second, begun_lines}

-- ---- the best cost so far
-- the least of a bound and of the costs of a tree's solutions
unfoldable pub least_after : Tree → ℤ → ℤ
least_after (leaf None bound) least = least
least_after (leaf (Some (cost, values)) bound) least = int_min least cost
least_after (hit seen offset r bound place) least = least
least_after (join o first second bound stored) least = least_after second (least_after first least)

-- ---- what stands in the cache
abbrev pub standing_with : Asked → Option StoredAt → List (Option Bounded) → List (Option Bounded)
standing_with (rest offset r) (Some s) standing = put_in standing s.place (record { rest = r; bound = s.bound })
standing_with (rest offset r) None standing = standing
standing_with (wide words) stored standing = standing

-- only a node whose residual problem is known may be stored
abbrev pub MayStore : Asked → Option StoredAt → Type 0
MayStore (rest offset r) stored = ⊤
MayStore (wide words) stored = stored ≡ None

-- the entry that stands at each place behind the lines of a tree
unfoldable pub standing_after : Tree → List (Option Bounded) → List (Option Bounded)
standing_after (leaf solution bound) standing = standing
standing_after (hit seen offset r bound place) standing = standing
standing_after (join o first second bound stored) standing = standing_with o.head.asked stored (standing_after second (standing_after first standing))

-- ---- truth, and residual problems
-- The box has each solution of the path that costs less than what was seen, and lies in the path; and propagation left it there: each
-- constraint has its strength, and no cost that the goal's domain allows reaches what was seen; or it fell by 100,000 values.
unfoldable pub IsPropagated : Parts → List Decision → ℤ → List (List ℤ) → Type 0
IsPropagated m p seen box = IsNode m p box seen × (IsFixpoint (plan_of m) seen box ⊎ FallsFar (path_box m p) box)

-- it is the residual problem of such a box, with its offset, and has at most as many words as the limit; or it has more, and so many
abbrev pub IsAskedOf : Parts → ℕ → List (List ℤ) → ℤ → Asked → Type 0
IsAskedOf m limit box seen (rest offset r) = IsRestOfBox box m seen r offset × (length (words_of r) ≤ limit)
IsAskedOf m limit box seen (wide words) = (r : RestParts) × (offset : ℤ) × IsRestOfBox box m seen r offset × (words ≡ length (words_of r)) × (limit < words)

unfoldable pub IsAsked : Parts → ℕ → List Decision → ℤ → Asked → Type 0
IsAsked m limit p seen asked = (box : List (List ℤ)) × IsPropagated m p seen box × IsAskedOf m limit box seen asked

-- a solution on the path, of that cost
pub record IsFound (m : Parts) (p : List Decision) (z : ℤ) (values : List ℤ) : Type 0 where
  pub solves : Solves m values
  pub meets : Meets p values
  pub costs : z ≡ cost m values

abbrev pub IfFound : Parts → List Decision → Option (ℤ × List ℤ) → Type 0
IfFound m p None = ⊤
IfFound m p (Some (z, values)) = IsFound m p z values

-- the path with the side of a cut that comes first, and with the other
abbrev pub first_side : List Decision → Opened → List Decision
first_side p o = p ++ o.cut ∷ []

abbrev pub second_side : List Decision → Opened → List Decision
second_side p o = p ++ opposite o.cut ∷ []

-- an expansion saw the best cost so far, and its residual problem is its own
pub record IsOpenedAt (m : Parts) (limit : ℕ) (p : List Decision) (least : ℤ) (o : Opened) : Type 0 where
  pub seen : o.head.seen ≡ least
  pub asked : IsAsked m limit p o.head.seen o.head.asked

-- Each node says what is true: its solutions are solutions, its path is settled at its bound, what it saw is the best cost so far, and
-- its residual problem is its own.
unfoldable pub IsTrue : Parts → ℕ → List Decision → ℤ → Tree → Type 0
IsTrue m limit p least (leaf solution bound) = IfFound m p solution × (bound ≡ least_after (leaf solution bound) least) × Settled m p bound
IsTrue m limit p least (hit seen offset r bound place) = (seen ≡ least) × IsAsked m limit p seen (rest offset r) × (bound ≡ seen) × Settled m p bound
IsTrue m limit p least (join o first second bound stored) =
    IsOpenedAt m limit p least o × IsTrue m limit (first_side p o) least first × IsTrue m limit (second_side p o) (least_after first least) second ×
    (bound ≡ int_min (bound_of first) (bound_of second)) × Settled m p bound × MayStore o.head.asked stored

-- ---- the cache
-- no entry that stands serves the residual problem at what was seen less its offset, but where the entry was gone
abbrev pub Respects : List (Option Bounded) → ℕ → Opened → Asked → Type 0
Respects standing ways o (rest offset r) = (place : ℕ) → ServesAt standing ways r (o.head.seen -ℤ offset) place → Contains o.gone place
Respects standing ways o (wide words) = o.gone ≡ []

-- It is stored with the bound less its offset, at the place where it belongs; but not where an entry that stands serves as well, or the
-- cache has no places.
abbrev pub Stores : List (Option Bounded) → ℕ → ℤ → Asked → Option StoredAt → Type 0
Stores standing ways bound (rest offset r) (Some s) =
    (s.bound ≡ (bound -ℤ offset)) × NoneServes standing ways r s.bound × IsPlaceFor standing ways (record { rest = r; bound = s.bound }) s.place
Stores standing ways bound (rest offset r) None = (ways ≡ 0) ⊎ ((place : ℕ) × ServesAt standing ways r (bound -ℤ offset) place)
Stores standing ways bound (wide words) stored = ⊤

-- Each node keeps to the cache: it is expanded only where no entry serves, settled by an entry that does, and stored behind its sides.
unfoldable pub IsKept : ℕ → List (Option Bounded) → Tree → Type 0
IsKept ways standing (leaf solution bound) = ⊤
IsKept ways standing (hit seen offset r bound place) = ServesAt standing ways r (seen -ℤ offset) place
IsKept ways standing (join o first second bound stored) =
    Respects standing ways o o.head.asked × IsKept ways standing first × IsKept ways (standing_after first standing) second ×
    Stores (standing_after second (standing_after first standing)) ways bound o.head.asked stored

-- A log of a whole search is right, for a path, a limit of words and a number of places: where it begins, `least` is the best cost and
-- `standing` is what stands.
pub record IsRightLog (m : Parts) (limit ways : ℕ) (p : List Decision) (least : ℤ) (standing : List (Option Bounded)) (bound : ℤ) (lines : List Line) : Type 0 where
  pub tree : Tree
  pub shape : lines ≡ tree_lines (length p) tree
  pub settled : bound_of tree ≡ bound
  pub true_nodes : IsTrue m limit p least tree
  pub kept : IsKept ways standing tree

-- ---- a search that isn't done
-- the best cost so far behind its lines, and the entry that stands at each place
unfoldable pub least_so_far : Begun → ℤ → ℤ
least_so_far nothing least = least
least_so_far (solved z values) least = int_min least z
least_so_far (whole t) least = least_after t least
least_so_far (in_first o b) least = least_so_far b least
least_so_far (in_second o first b) least = least_so_far b (least_after first least)

unfoldable pub standing_so_far : Begun → List (Option Bounded) → List (Option Bounded)
standing_so_far nothing standing = standing
standing_so_far (solved z values) standing = standing
standing_so_far (whole t) standing = standing_after t standing
standing_so_far (in_first o b) standing = standing_so_far b standing
standing_so_far (in_second o first b) standing = standing_so_far b (standing_after first standing)

unfoldable pub IsTrueSoFar : Parts → ℕ → List Decision → ℤ → Begun → Type 0
IsTrueSoFar m limit p least nothing = ⊤
IsTrueSoFar m limit p least (solved z values) = IsFound m p z values
IsTrueSoFar m limit p least (whole t) = IsTrue m limit p least t
IsTrueSoFar m limit p least (in_first o b) = IsOpenedAt m limit p least o × IsTrueSoFar m limit (first_side p o) least b
IsTrueSoFar m limit p least (in_second o first b) =
    IsOpenedAt m limit p least o × IsTrue m limit (first_side p o) least first × IsTrueSoFar m limit (second_side p o) (least_after first least) b

unfoldable pub IsKeptSoFar : ℕ → List (Option Bounded) → Begun → Type 0
IsKeptSoFar ways standing nothing = ⊤
IsKeptSoFar ways standing (solved z values) = ⊤
IsKeptSoFar ways standing (whole t) = IsKept ways standing t
IsKeptSoFar ways standing (in_first o b) = Respects standing ways o o.head.asked × IsKeptSoFar ways standing b
IsKeptSoFar ways standing (in_second o first b) =
    Respects standing ways o o.head.asked × IsKept ways standing first × IsKeptSoFar ways (standing_after first standing) b

-- so is the log of one that was cut short; the line that should follow its last one may be missing
pub record IsRightSoFar (m : Parts) (limit ways : ℕ) (p : List Decision) (least : ℤ) (standing : List (Option Bounded)) (lines : List Line) : Type 0 where
  pub begun : Begun
  pub shape : lines ≡ begun_lines (length p) begun
  pub true_nodes : IsTrueSoFar m limit p least begun
  pub kept : IsKeptSoFar ways standing begun
