-- Leaves: where each variable has one value.
use Rattle.std.proofs.Common.{◌≡◌, ℕ, zero, suc, ◌+◌, ◌<◌, ◌≤◌, Bool, true, false, List, [], ◌∷◌, ◌++◌, length, take, refl, sym, ap, subst, ◌∙◌, arith, ℤ, pos, negsuc, ◌≤ℤ◌, ◌<ℤ◌, neg_ℤ}
use Rattle.std.specs.Prelude.{slice_index_or, All, map, not, None, Some}
use Rattle.std.specs.Int.{int_min}
use Rattle.std.proofs.lemmas.Int.{ints, by_lt_z, clamps}
use Rattle.std.proofs.lemmas.List.{same_lists, get_or_default, length-map, get_or-map, take_more, take_all, map-append}
use Rattle.fzn_model.specs.declared.term.Term.{Term}
use Rattle.fzn_model.specs.declared.term.Term.TheVariants as term
use Rattle.fzn_model.specs.declared.goal.Goal.{Goal}
use Rattle.fzn_model.specs.declared.goal.Goal.TheVariants as goal
use Rattle.fzn_model.specs.Parts.{Parts}
use Rattle.fzn_model.specs.Sets.{IsIn, IsWithin}
use Rattle.fzn_model.specs.Meaning.{val}
use Rattle.fzn_model.specs.Solutions.{InDomains, Solves, cost, goal_cost}
use Rattle.fzn_model.specs.Limits.{IsModel, IsValue, IsNear, TermIn, GoalInLimits, DomainInLimits}
use Rattle.fzn_model.specs.Boxes.{InBox, domain_at, low_value}
use Rattle.fzn_model.specs.Rests.{LiesWithin}
use Rattle.fzn_model.proofs.Terms.{fixed_val}
use Rattle.brancher.specs.Branching.{AllFixed, HasSides}
use Rattle.brancher.specs.declared.cut.Cut.{Cut}
use Rattle.brancher.proofs.Values.{value_between}
use Rattle.brancher.proofs.Places.{lows_in}
use Rattle.incumbent_board.specs.Passes.{Held}
use Rattle.search_core.specs.declared.decision.Decision.{Decision}
use Rattle.search_core.specs.Paths.{Meets, Settled, opposite}
use Rattle.run_log.specs.Journals.{Noted, Notes}
use Rattle.run_log.proofs.Appending.{notes_none}
use Rattle.explorer.specs.Nodes.{IsNode}
use Rattle.explorer.specs.Trees.{solution_lines}
use Rattle.explorer.specs.RightLogs.{least_after}
use Rattle.explorer.specs.Recording.{known_in}
use Rattle.explorer.specs.Offers.{Kept, IsOffer, lesser_of, with_cheaper, least_with, known_after, kept_after}
use Rattle.explorer.specs.Frames.{HasSide, HasBoth}
use Rattle.explorer.specs.Looking.{Finds, NotesFound, AreLeast, IsOnly, IsLooked}
use Rattle.explorer.specs.declared.bench.Bench.{Bench}
use Rattle.explorer.specs.declared.node.Node.TheVariants as node
use Rattle.explorer.specs.declared.meter.Meter.{Meter}
use Rattle.explorer.proofs.Cutting.{allows_up, allows_down}

-- ---- reading the least values
pub least_more : (box : List (List ℤ)) (i : ℕ) (z : ℤ) (values more : List ℤ) → i < length box → values ≡ map low_value (take i box) → z ≡ low_value (domain_at box i) → more ≡ values ++ z ∷ [] → more ≡ map low_value (take (i + 1) box)
least_more box i z values more h so is pushed =
    let next : map low_value (take (i + 1) box) ≡ map low_value (take i box) ++ low_value (domain_at box i) ∷ [] = ap (map low_value) (take_more box i [] h) ∙ map-append low_value (take i box) (slice_index_or box i [] ∷ []) in
    pushed ∙ ap (λ (xs : List ℤ). xs ++ z ∷ []) so ∙ ap (λ (x : ℤ). map low_value (take i box) ++ x ∷ []) is ∙ sym next

pub least_all : (box : List (List ℤ)) (i : ℕ) (values : List ℤ) → length box ≤ i → values ≡ map low_value (take i box) → AreLeast box values
unfolding AreLeast
least_all box i values h so = so ∙ ap (map low_value) (take_all i box h)

-- ---- the only values
pub only_values : (m : Parts) (p : List Decision) (box : List (List ℤ)) (φ : List ℤ) (b : ℤ) → IsNode m p box b → AllFixed box → AreLeast box φ → IsOnly m p φ b
unfolding AreLeast IsOnly low_value
only_values m p box φ b here fixed least θ solves meets less =
    let lies : InBox box θ = here.keeps θ solves meets less in
    let same : θ ≡ map low_value box = same_lists θ (map low_value box) (lies.count ∙ sym (length-map box low_value))
    (λ k d h.
    let inside : k < length box = omega (arith, lies.count) in
    let one : slice_index_or θ k (pos 0) ≡ low_value (domain_at box k) = fixed_val box (term.Var k) θ here.domains inside (fixed k inside) lies in
    get_or_default θ k d (pos 0) h ∙ one ∙ sym (get_or-map low_value box k [] d inside)) in
    same ∙ sym least

pub values_count : (m : Parts) (box : List (List ℤ)) (φ : List ℤ) → LiesWithin box m → AreLeast box φ → length φ ≡ length m.doms
unfolding AreLeast
values_count m box φ lies least = ap length least ∙ length-map box low_value ∙ lies.count

-- ---- what settles a leaf
pub other_settled : (m : Parts) (p : List Decision) (φ : List ℤ) (b : ℤ) → IsOnly m p φ b → (Solves m φ → ⊥) → Settled m p b
unfolding IsOnly Settled
other_settled m p φ b only bad θ solves meets =
    by_lt_z (cost m θ) b (λ less. absurd (bad (subst (Solves m) (only θ solves meets less) solves))) (λ most. most)

min_first : (a b : ℤ) → int_min a b ≤ℤ a
min_first a b = omega (arith, ints, clamps)

min_second : (a b : ℤ) → int_min a b ≤ℤ b
min_second a b = omega (arith, ints, clamps)

min_both : (a b c : ℤ) → a ≤ℤ b → int_min a c ≤ℤ int_min b c
min_both a b c h = omega (arith, ints, clamps)

pub dear_settled : (m : Parts) (p : List Decision) (φ : List ℤ) (b c z : ℤ) → IsOnly m p φ b → c ≡ cost m φ → z ≡ int_min b c → Settled m p z
unfolding IsOnly Settled
dear_settled m p φ b c z only costs is θ solves meets =
    let first : z ≤ℤ b = rw is (min_first b c) in
    let second : z ≤ℤ c = rw is (min_second b c) in
    by_lt_z (cost m θ) b
    (λ less.
    let same : cost m θ ≡ cost m φ = ap (cost m) (only θ solves meets less) in
    omega (arith, ints))
    (λ most. omega (arith, ints))

-- ---- the numbers of a solution
value_in : (runs : List (ℤ × ℤ)) (z : ℤ) → DomainInLimits runs → IsIn runs z → IsValue z
unfolding IsIn IsWithin
value_in runs z limits (k, run, below, is, w) =
    let here : IsValue run.0 × IsValue run.1 = subst (λ (x : ℤ × ℤ). IsValue x.0 × IsValue x.1) is (limits.values k run below) in
    value_between run.0 z run.1 here.0 here.1 w.0 w.1

solution_value : (m : Parts) (θ : List ℤ) → IsModel m → Solves m θ → (k : ℕ) → k < length m.doms → IsValue (slice_index_or θ k (pos 0))
unfolding InDomains
solution_value m θ model solves k h = value_in (slice_index_or m.doms k []) (slice_index_or θ k (pos 0)) (model.domains k [] h) (solves.domains.1 k [] h)

near_value : (z : ℤ) → IsValue z → IsNear z
near_value z h = omega (arith, h)

pub are_near : (m : Parts) (θ : List ℤ) → IsModel m → Solves m θ → All IsNear θ
unfolding InDomains
are_near m θ model solves k d h =
    let inside : k < length m.doms = omega (arith, h, solves.domains.0) in
    subst IsNear (sym (get_or_default θ k d (pos 0) h)) (near_value (slice_index_or θ k (pos 0)) (solution_value m θ model solves k inside))

term_value : (m : Parts) (t : Term) (θ : List ℤ) → IsModel m → Solves m θ → TermIn (length m.doms) t → IsValue (val t θ)
term_value m (term.Const z) θ model solves inside = inside
term_value m (term.Var k) θ model solves inside = solution_value m θ model solves k inside

neg_value : (z : ℤ) → IsValue z → IsValue (neg_ℤ z)
neg_value (pos zero) h = omega arith
neg_value (pos (suc n)) h = h
neg_value (negsuc n) h = h

goal_value : (m : Parts) (g : Goal) (θ : List ℤ) → IsModel m → Solves m θ → GoalInLimits (length m.doms) g → IsValue (goal_cost g θ)
goal_value m goal.Satisfy θ model solves limits = omega arith
goal_value m (goal.Minimise t) θ model solves limits = term_value m t θ model solves limits
goal_value m (goal.Maximise t) θ model solves limits = neg_value (val t θ) (term_value m t θ model solves limits)

pub cost_is_value : (m : Parts) (θ : List ℤ) (c : ℤ) → IsModel m → Solves m θ → c ≡ cost m θ → IsValue c
cost_is_value m θ c model solves is = subst IsValue (sym is) (goal_value m m.goal θ model solves model.goal)

-- ---- what was found
pub found_one : (m : Parts) (x y : Held) (a b : Meter) (f g : Kept) (φ : List ℤ) (c : ℤ)
    → Solves m φ → c ≡ cost m φ
    → y ≡ record x { least = int_min x.least c; seen = int_min x.seen c }
    → b ≡ record a { least = lesser_of a.least (Some c) }
    → g ≡ record f { best = with_cheaper f.best (φ, c) }
    → Finds m x y a b f g
unfolding least_with known_after kept_after
found_one m x y a b f g φ c solves costs pass meter found = rw (pass, meter, found) (record {
  offers = (φ, c) ∷ [];
  solved = one;
  credits = refl;
  count = refl;
  closed = refl;
  least = refl;
  known = refl;
  kept = refl;
  room = refl;
  falls = min_first x.seen c;
  floor = λ alone low. min_both x.least x.seen c low;
  same = record { board = refl; first = refl; out = refl; splits = refl };
  for_budget = refl;
  for_memory = refl;
})
  where
    offer : IsOffer m (φ, c)
    offer = record { solves = solves; costs = costs }

    one : All (IsOffer m) ((φ, c) ∷ [])
    one zero d h = offer
    one (suc k) d h = absurd (omega (arith, h))

pub found_none : (m : Parts) (x : Held) (a : Meter) (f : Kept) → Finds m x x a a f f
unfolding least_with known_after kept_after
found_none m x a f = record {
  offers = [];
  solved = λ k d h. absurd (omega (arith, h));
  credits = refl;
  count = refl;
  closed = refl;
  least = refl;
  known = refl;
  kept = refl;
  room = refl;
  falls = omega (arith, ints);
  floor = λ alone low. low;
  same = record { board = refl; first = refl; out = refl; splits = refl };
  for_budget = refl;
  for_memory = refl;
}

-- ---- both sides of a cut
side_up : (box : List (List ℤ)) (d : Decision) → d.up ≡ true → d.var < length box → IsValue d.at → (θ : List ℤ) → InBox box θ → d.at <ℤ slice_index_or θ d.var (pos 0) → HasSide box d
side_up box d up inside value θ lies h = record { within = inside; value = value; some = (θ, lies, (allows_up d up (slice_index_or θ d.var (pos 0))).1 (omega (arith, ints))) }

side_down : (box : List (List ℤ)) (d : Decision) → d.up ≡ false → d.var < length box → IsValue d.at → (θ : List ℤ) → InBox box θ → slice_index_or θ d.var (pos 0) ≤ℤ d.at → HasSide box d
side_down box d down inside value θ lies h = record { within = inside; value = value; some = (θ, lies, (allows_down d down (slice_index_or θ d.var (pos 0))).1 h) }

both_sides : (box : List (List ℤ)) (d : Decision) (up : Bool) → d.up ≡ up → d.var < length box → IsValue d.at
    → (θ φ : List ℤ) → InBox box θ → slice_index_or θ d.var (pos 0) ≤ℤ d.at → InBox box φ → d.at <ℤ slice_index_or φ d.var (pos 0) → HasSide box d × HasSide box (opposite d)
both_sides box d true is inside value θ φ low_lies low high_lies high =
    (side_up box d is inside value φ high_lies high, side_down box (opposite d) (ap not is) inside value θ low_lies low)
both_sides box d false is inside value θ φ low_lies low high_lies high =
    (side_down box d is inside value θ low_lies low, side_up box (opposite d) (ap not is) inside value φ high_lies high)

pub cut_sides : (box : List (List ℤ)) (cut : Cut) (z : ℤ) → HasSides box cut → z ≡ cut.at → HasBoth box (record { var = cut.var; at = z; up = cut.up_first })
unfolding HasBoth
cut_sides box cut z sides is = rw is (both_sides box (record { var = cut.var; at = cut.at; up = cut.up_first }) cut.up_first refl sides.within sides.value sides.below.0 sides.above.0 sides.below.1 sides.below.2 sides.above.1 sides.above.2)

-- ---- what a look says
pub closed_looked : (m : Parts) (t : Bench) (b z : ℤ) → Settled m t.here b → z ≡ b → IsLooked m t b (node.Closed z)
unfolding IsLooked
closed_looked m t b z settled is = (settled, is)

pub open_looked : (m : Parts) (t : Bench) (b : ℤ) (d : Decision) → IsNode m t.here t.store.box b → HasBoth t.store.box d → IsLooked m t b (node.Open d)
unfolding IsLooked
open_looked m t b d n both = (n, both)

-- ---- what is noted of a leaf
pub values_meet : (m : Parts) (p : List Decision) (box : List (List ℤ)) (φ : List ℤ) (b : ℤ) → IsNode m p box b → AreLeast box φ → Meets p φ
unfolding AreLeast
values_meet m p box φ b here least = here.lies φ (rw least (lows_in box here.domains))

pub noted_none : (m : Parts) (p : List Decision) (x : Held) (a : Meter) (j : Noted) → NotesFound m p x x a a j j
unfolding least_after known_in
noted_none m p x a j = record { solution = None; found = tt; notes = notes_none j; least = refl; seen = refl; known = refl }

pub noted_one : (m : Parts) (p : List Decision) (x y : Held) (a b : Meter) (j k : Noted) (φ : List ℤ) (c z w v : ℤ) → z ≡ c → w ≡ c → v ≡ c → Solves m φ → Meets p φ → c ≡ cost m φ
    → y ≡ record x { least = int_min x.least z; seen = int_min x.seen z } → b ≡ record a { least = lesser_of a.least (Some w) } → Notes j k (solution_lines (Some (v, φ))) → NotesFound m p x y a b j k
unfolding least_after known_in
noted_one m p x y a b j k φ c z w v one two three solves meets costs pass meter told = rw (pass, meter, one, two) (record {
  solution = Some (c, φ);
  found = record { solves = solves; meets = meets; costs = costs };
  notes = subst (λ (q : ℤ). Notes j k (solution_lines (Some (q, φ)))) three told;
  least = refl;
  seen = refl;
  known = refl;
})
