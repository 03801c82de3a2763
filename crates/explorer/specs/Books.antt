-- The log of a search so far, by what is told of each open expansion, the deepest first, and of the node that it has come to. It is this
-- project's own.
use Rattle.std.specs.Prelude.{◌≡◌, ℕ, suc, ◌+◌, List, [], ◌∷◌, ◌++◌, length, ℤ, ⊤, Some, None}
use Rattle.std.specs.declared.option.Option.{Option}
use Rattle.fzn_model.specs.Parts.{Parts}
use Rattle.entry_slab.specs.Entries.{Bounded}
use Rattle.search_core.specs.declared.decision.Decision.{Decision}
use Rattle.search_core.specs.Paths.{opposite}
use Rattle.run_log.specs.Texts.{Line}
use Rattle.explorer.specs.Trees.{Asked, rest, wide, Opened, Tree, tree_lines, opened_lines, Begun, in_first, in_second, begun_lines}
use Rattle.explorer.specs.RightLogs.{least_after, standing_after, IsOpenedAt, IsTrue, first_side, Respects, IsKept}
use Rattle.explorer.specs.declared.frame.Frame.{Frame}
use Rattle.explorer.specs.declared.frame.Whole.{Whole}
use Rattle.explorer.specs.declared.frame.Side.TheVariants as side

-- an expansion whose first side is open, or the second behind all of the first
pub data Pending : Type 0 where
  first_open : Opened → Pending
  second_open : Opened → Tree → Pending

-- ---- where they lead
abbrev pub side_in : Pending → Decision
side_in (first_open o) = o.cut
side_in (second_open o t) = opposite o.cut

unfoldable pub path_in : List Decision → List Pending → List Decision
path_in p [] = p
path_in p (q ∷ qs) = path_in p qs ++ side_in q ∷ []

abbrev pub least_past : Pending → ℤ → ℤ
least_past (first_open o) least = least
least_past (second_open o t) least = least_after t least

unfoldable pub least_in : ℤ → List Pending → ℤ
least_in least [] = least
least_in least (q ∷ qs) = least_past q (least_in least qs)

abbrev pub standing_past : Pending → List (Option Bounded) → List (Option Bounded)
standing_past (first_open o) standing = standing
standing_past (second_open o t) standing = standing_after t standing

unfoldable pub standing_in : List (Option Bounded) → List Pending → List (Option Bounded)
standing_in standing [] = standing
standing_in standing (q ∷ qs) = standing_past q (standing_in standing qs)

-- ---- their lines
abbrev pub pending_line : ℕ → Pending → List Line
pending_line depth (first_open o) = opened_lines depth o
pending_line depth (second_open o t) = opened_lines depth o ++ tree_lines (suc depth) t

unfoldable pub pending_lines : ℕ → List Pending → List Line
pending_lines depth [] = []
pending_lines depth (q ∷ qs) = pending_lines depth qs ++ pending_line (length qs + depth) q

-- with those of the node, where it has some
unfoldable pub book_lines : ℕ → List Pending → Begun → List Line
book_lines depth qs b = pending_lines depth qs ++ begun_lines (length qs + depth) b

-- all of it, as a search that isn't done
unfoldable pub begun_in : List Pending → Begun → Begun
begun_in [] b = b
begun_in (first_open o ∷ qs) b = begun_in qs (in_first o b)
begun_in (second_open o t ∷ qs) b = begun_in qs (in_second o t b)

-- ---- truth, and the cache
abbrev pub IsPendingTrue : Parts → ℕ → List Decision → ℤ → Pending → Type 0
IsPendingTrue m limit p least (first_open o) = IsOpenedAt m limit p least o
IsPendingTrue m limit p least (second_open o t) = IsOpenedAt m limit p least o × IsTrue m limit (first_side p o) least t

unfoldable pub ArePendingTrue : Parts → ℕ → List Decision → ℤ → List Pending → Type 0
ArePendingTrue m limit p least [] = ⊤
ArePendingTrue m limit p least (q ∷ qs) = IsPendingTrue m limit (path_in p qs) (least_in least qs) q × ArePendingTrue m limit p least qs

abbrev pub IsPendingKept : ℕ → List (Option Bounded) → Pending → Type 0
IsPendingKept ways standing (first_open o) = Respects standing ways o o.head.asked
IsPendingKept ways standing (second_open o t) = Respects standing ways o o.head.asked × IsKept ways standing t

unfoldable pub ArePendingKept : ℕ → List (Option Bounded) → List Pending → Type 0
ArePendingKept ways standing [] = ⊤
ArePendingKept ways standing (q ∷ qs) = IsPendingKept ways (standing_in standing qs) q × ArePendingKept ways standing qs

-- ---- the frames of a search
abbrev pub AsksFor : Option Whole → Asked → Type 0
AsksFor None asked = (words : ℕ) × (asked ≡ wide words)
AsksFor (Some w) asked = asked ≡ rest w.offset w.rest

-- the expansion of a frame
pub record Shows (f : Frame) (o : Opened) : Type 0 where
  pub cut : o.cut ≡ f.cut
  pub seen : o.head.seen ≡ f.seen
  pub asked : AsksFor f.whole o.head.asked

abbrev pub IsShownBy : Frame → Pending → Type 0
IsShownBy f (first_open o) = (f.side ≡ side.First) × Shows f o
IsShownBy f (second_open o t) = (f.side ≡ side.Second) × Shows f o

unfoldable pub AreShownBy : List Frame → List Pending → Type 0
AreShownBy [] [] = ⊤
AreShownBy [] (q ∷ qs) = ⊥
AreShownBy (f ∷ fs) [] = ⊥
AreShownBy (f ∷ fs) (q ∷ qs) = IsShownBy f q × AreShownBy fs qs
