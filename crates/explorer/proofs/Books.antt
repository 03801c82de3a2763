-- A log by its open expansions: its lines, its truth and how it keeps to the cache are those of a search that isn't done.
use Rattle.std.proofs.Common.{◌≡◌, ℕ, suc, ◌+◌, List, [], ◌∷◌, ◌++◌, length, append_assoc, refl, sym, ap, ◌∙◌, ℤ, arith}
use Rattle.std.specs.Prelude.{◌≤ℤ◌, Some, None}
use Rattle.std.specs.Int.{int_min}
use Rattle.std.specs.declared.option.Option.{Option}
use Rattle.std.proofs.lemmas.Int.{ints, clamps}
use Rattle.std.proofs.lemmas.List.{append-nil}
use Rattle.fzn_model.specs.Parts.{Parts}
use Rattle.entry_slab.specs.Entries.{Bounded}
use Rattle.search_core.specs.declared.decision.Decision.{Decision}
use Rattle.search_core.specs.Paths.{opposite}
use Rattle.run_log.specs.declared.line.LogLine.TheVariants as line
use Rattle.run_log.specs.Texts.{Line, plain}
use Rattle.explorer.specs.Trees.{StoredAt, Opened, Tree, leaf, hit, join, bound_of, solution_lines, stored_lines, opened_lines, tree_lines, Begun, nothing, solved, whole, in_first, in_second, begun_lines}
use Rattle.explorer.specs.RightLogs.{least_after, least_so_far, standing_so_far, first_side, second_side, IsTrue, IsTrueSoFar, IsKeptSoFar}
use Rattle.explorer.specs.Books.{Pending, first_open, second_open, side_in, path_in, least_in, standing_in, pending_lines, book_lines, begun_in, ArePendingTrue, ArePendingKept, IsShownBy, AreShownBy}
use Rattle.explorer.specs.Frames.{path_of, open_side}
use Rattle.explorer.specs.declared.frame.Frame.{Frame}
use Rattle.explorer.proofs.Frames.{path_length}

joined : (a b c d : List Line) → a ++ ((b ++ c) ++ d) ≡ ((a ++ b) ++ c) ++ d
joined a b c d = simp append_assoc

-- ---- all of it, as a search that isn't done
deeper : (n depth : ℕ) → suc n + depth ≡ suc (n + depth)
deeper n depth = omega arith

pub book_begun : (depth : ℕ) (qs : List Pending) (b : Begun) → book_lines depth qs b ≡ begun_lines depth (begun_in qs b)
unfolding book_lines pending_lines begun_in begun_lines
book_begun depth [] b = let here : 0 + depth ≡ depth = omega arith in ap (λ (n : ℕ). begun_lines n b) here
book_begun depth (first_open o ∷ qs) b =
    let front : List Line = pending_lines depth qs in
    let n : ℕ = length qs + depth in
    ap (λ (k : ℕ). (front ++ opened_lines n o) ++ begun_lines k b) (deeper (length qs) depth) ∙ append_assoc front (opened_lines n o) (begun_lines (suc n) b) ∙ book_begun depth qs (in_first o b)
book_begun depth (second_open o t ∷ qs) b =
    let front : List Line = pending_lines depth qs in
    let n : ℕ = length qs + depth in
    ap (λ (k : ℕ). (front ++ (opened_lines n o ++ tree_lines (suc n) t)) ++ begun_lines k b) (deeper (length qs) depth) ∙ append_assoc front (opened_lines n o ++ tree_lines (suc n) t) (begun_lines (suc n) b) ∙ book_begun depth qs (in_second o t b)

pub true_begun : (m : Parts) (limit : ℕ) (p : List Decision) (least : ℤ) (qs : List Pending) (b : Begun) → ArePendingTrue m limit p least qs → IsTrueSoFar m limit (path_in p qs) (least_in least qs) b → IsTrueSoFar m limit p least (begun_in qs b)
unfolding ArePendingTrue IsTrueSoFar path_in least_in begun_in
true_begun m limit p least [] b pending last = last
true_begun m limit p least (first_open o ∷ qs) b pending last = true_begun m limit p least qs (in_first o b) pending.1 (pending.0, last)
true_begun m limit p least (second_open o t ∷ qs) b pending last = true_begun m limit p least qs (in_second o t b) pending.1 (pending.0.0, pending.0.1, last)

pub kept_begun : (ways : ℕ) (standing : List (Option Bounded)) (qs : List Pending) (b : Begun) → ArePendingKept ways standing qs → IsKeptSoFar ways (standing_in standing qs) b → IsKeptSoFar ways standing (begun_in qs b)
unfolding ArePendingKept IsKeptSoFar standing_in begun_in
kept_begun ways standing [] b pending last = last
kept_begun ways standing (first_open o ∷ qs) b pending last = kept_begun ways standing qs (in_first o b) pending.1 (pending.0, last)
kept_begun ways standing (second_open o t ∷ qs) b pending last = kept_begun ways standing qs (in_second o t b) pending.1 (pending.0.0, pending.0.1, last)

pub least_begun : (least : ℤ) (qs : List Pending) (b : Begun) → least_so_far (begun_in qs b) least ≡ least_so_far b (least_in least qs)
unfolding begun_in least_so_far least_in
least_begun least [] b = refl
least_begun least (first_open o ∷ qs) b = least_begun least qs (in_first o b)
least_begun least (second_open o t ∷ qs) b = least_begun least qs (in_second o t b)

pub standing_begun : (standing : List (Option Bounded)) (qs : List Pending) (b : Begun) → standing_so_far (begun_in qs b) standing ≡ standing_so_far b (standing_in standing qs)
unfolding standing_so_far standing_in begun_in
standing_begun standing [] b = refl
standing_begun standing (first_open o ∷ qs) b = standing_begun standing qs (in_first o b)
standing_begun standing (second_open o t ∷ qs) b = standing_begun standing qs (in_second o t b)

-- ---- it leads where the frames lead
shown_side : (f : Frame) (q : Pending) → IsShownBy f q → side_in q ≡ open_side f.side f.cut
shown_side f (first_open o) s = rw s.0 s.1.cut
shown_side f (second_open o t) s = rw s.0 (ap (λ (d : Decision). opposite d) s.1.cut)

pub shown_path : (p : List Decision) (fs : List Frame) (qs : List Pending) → AreShownBy fs qs → path_in p qs ≡ path_of p fs
unfolding AreShownBy path_in path_of
shown_path p [] [] s = refl
shown_path p [] (q ∷ qs) s = absurd s
shown_path p (f ∷ fs) [] s = absurd s
shown_path p (f ∷ fs) (q ∷ qs) s = ap (λ (ds : List Decision). ds ++ side_in q ∷ []) (shown_path p fs qs s.1) ∙ ap (λ (d : Decision). path_of p fs ++ d ∷ []) (shown_side f q s.0)

shown_count : (fs : List Frame) (qs : List Pending) → AreShownBy fs qs → length qs ≡ length fs
unfolding AreShownBy
shown_count [] [] s = refl
shown_count [] (q ∷ qs) s = absurd s
shown_count (f ∷ fs) [] s = absurd s
shown_count (f ∷ fs) (q ∷ qs) s = ap (λ (n : ℕ). suc n) (shown_count fs qs s.1)

pub shown_depth : (p : List Decision) (fs : List Frame) (qs : List Pending) → AreShownBy fs qs → length qs + length p ≡ length (path_of p fs)
shown_depth p fs qs s = omega (arith, shown_count fs qs s, path_length p fs)

-- ---- the best cost so far
min_first : (a b : ℤ) → int_min a b ≤ℤ a
min_first a b = omega (arith, ints, clamps)

min_least : (a b : ℤ) → b ≤ℤ a → int_min a b ≡ b
min_least a b low = omega (arith, ints, clamps)

pub least_falls : (t : Tree) (least : ℤ) → least_after t least ≤ℤ least
unfolding least_after
least_falls (leaf None bound) least = omega (arith, ints)
least_falls (leaf (Some (cost, values)) bound) least = min_first least cost
least_falls (hit seen offset r bound place) least = omega (arith, ints)
least_falls (join o first second bound stored) least = omega (arith, ints, least_falls first least, least_falls second (least_after first least))

-- a tree is settled at the best cost behind it
pub true_bound : (m : Parts) (limit : ℕ) (p : List Decision) (least : ℤ) (t : Tree) → IsTrue m limit p least t → bound_of t ≡ least_after t least
unfolding IsTrue least_after
true_bound m limit p least (leaf solution bound) is = is.1
true_bound m limit p least (hit seen offset r bound place) is = is.2 ∙ is.0
true_bound m limit p least (join o first second bound stored) is =
    let one : bound_of first ≡ least_after first least = true_bound m limit (first_side p o) least first is.1 in
    let two : bound_of second ≡ least_after second (least_after first least) = true_bound m limit (second_side p o) (least_after first least) second is.2 in
    is.3 ∙ rw (one, two) (min_least (least_after first least) (least_after second (least_after first least)) (least_falls second (least_after first least)))

-- ---- how the lines grow
pub opening_lines : (depth : ℕ) (qs : List Pending) (o : Opened) → book_lines depth (first_open o ∷ qs) nothing ≡ book_lines depth qs nothing ++ opened_lines (length qs + depth) o
unfolding book_lines pending_lines begun_lines
opening_lines depth qs o = append-nil (pending_lines depth qs ++ opened_lines (length qs + depth) o) ∙ ap (λ (ls : List Line). ls ++ opened_lines (length qs + depth) o) (sym (append-nil (pending_lines depth qs)))

pub turning_lines : (depth : ℕ) (qs : List Pending) (o : Opened) (t : Tree) → book_lines depth (second_open o t ∷ qs) nothing ≡ book_lines depth (first_open o ∷ qs) (whole t)
unfolding book_lines pending_lines begun_lines
turning_lines depth qs o t =
    let front : List Line = pending_lines depth qs in
    let n : ℕ = length qs + depth in
    append-nil (front ++ (opened_lines n o ++ tree_lines (suc n) t)) ∙ sym (append_assoc front (opened_lines n o) (tree_lines (suc n) t)) ∙ ap (λ (k : ℕ). (front ++ opened_lines n o) ++ tree_lines k t) (sym (deeper (length qs) depth))

pub joining_lines : (depth : ℕ) (qs : List Pending) (o : Opened) (first second : Tree) (bound : ℤ) (stored : Option StoredAt)
    → book_lines depth qs (whole (join o first second bound stored)) ≡ book_lines depth (second_open o first ∷ qs) (whole second) ++ (plain (line.Join (length qs + depth) bound) ∷ stored_lines stored)
unfolding book_lines pending_lines begun_lines tree_lines
joining_lines depth qs o first second bound stored =
    let front : List Line = pending_lines depth qs in
    let n : ℕ = length qs + depth in
    let last : List Line = plain (line.Join n bound) ∷ stored_lines stored in
    joined front (opened_lines n o ++ tree_lines (suc n) first) (tree_lines (suc n) second) last ∙ ap (λ (k : ℕ). ((front ++ (opened_lines n o ++ tree_lines (suc n) first)) ++ tree_lines k second) ++ last) (sym (deeper (length qs) depth))

pub whole_lines : (depth : ℕ) (qs : List Pending) (t : Tree) → book_lines depth qs (whole t) ≡ book_lines depth qs nothing ++ tree_lines (length qs + depth) t
unfolding book_lines begun_lines
whole_lines depth qs t = ap (λ (ls : List Line). ls ++ tree_lines (length qs + depth) t) (sym (append-nil (pending_lines depth qs)))

pub solved_lines : (depth : ℕ) (qs : List Pending) (z : ℤ) (values : List ℤ) → book_lines depth qs (solved z values) ≡ book_lines depth qs nothing ++ solution_lines (Some (z, values))
unfolding book_lines begun_lines
solved_lines depth qs z values = ap (λ (ls : List Line). ls ++ solution_lines (Some (z, values))) (sym (append-nil (pending_lines depth qs)))
