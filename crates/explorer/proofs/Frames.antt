-- The open expansions of a search.
use Rattle.std.proofs.Common.{◌≡◌, cond, ℕ, ◌+◌, ◌≤◌, ◌<◌, List, [], ◌∷◌, ◌++◌, length, append_assoc, length-append, sym, ap, ◌∙◌, ℤ, arith}
use Rattle.std.specs.Prelude.{◌≤ℤ◌}
use Rattle.std.proofs.lemmas.Int.{ints}
use Rattle.std.proofs.lemmas.List.{append-nil}
use Rattle.std.proofs.lemmas.List.Sums.{sum_by-cons}
use Rattle.fzn_model.specs.Parts.{Parts}
use Rattle.search_core.specs.declared.decision.Decision.{Decision}
use Rattle.search_core.specs.Paths.{Begins}
use Rattle.search_core.specs.Locals.{LocalParts}
use Rattle.explorer.specs.Holding.{same_path, times_in, HasSettled}
use Rattle.explorer.specs.Frames.{path_of, open_side, FirstDone, IsOpen, AreOpen, Levels, AreDone, IsDone}
use Rattle.explorer.specs.declared.frame.Frame.{Frame}
use Rattle.explorer.specs.declared.frame.Side.{Side}
use Rattle.explorer.specs.declared.frame.Side.TheVariants as side
use Rattle.explorer.proofs.Sides.{settled_lower, node_lower}

first_lower : (m : Parts) (p : List Decision) (s : Side) (d : Decision) (b c : ℤ) → FirstDone m p s d b → c ≤ℤ b → FirstDone m p s d c
first_lower m p side.First d b c f h = tt
first_lower m p side.Second d b c f h = settled_lower m (p ++ d ∷ []) b c f h

pub open_lower : (m : Parts) (p : List Decision) (f : Frame) (box : List (List ℤ)) (b c : ℤ) → IsOpen m p f box b → c ≤ℤ b → IsOpen m p f box c
open_lower m p f box b c o h = record {
  node = node_lower m p box b c o.node h;
  sides = o.sides;
  first = first_lower m p f.side f.cut b c o.first h;
  rest = o.rest;
  opened = omega (arith, ints, o.opened, h);
}

pub opens_lower : (m : Parts) (p : List Decision) (fs : List Frame) (saved : List (List (List ℤ))) (b c : ℤ) → AreOpen m p fs saved b → c ≤ℤ b → AreOpen m p fs saved c
unfolding AreOpen
opens_lower m p [] saved b c a h = tt
opens_lower m p (f ∷ fs) [] b c a h = absurd a
opens_lower m p (f ∷ fs) (box ∷ saved) b c a h = (open_lower m (path_of p fs) f box b c a.0 h, opens_lower m p fs saved b c a.1 h)

-- the path of a node begins with the call's
pub begins : (p : List Decision) (fs : List Frame) → Begins p (path_of p fs)
unfolding path_of
begins p [] = record { rest = []; joined = sym (append-nil p) }
begins p (f ∷ fs) =
    let b : Begins p (path_of p fs) = begins p fs in
    record { rest = b.rest ++ open_side f.side f.cut ∷ []; joined = ap (λ (q : List Decision). q ++ open_side f.side f.cut ∷ []) b.joined ∙ append_assoc p b.rest (open_side f.side f.cut ∷ []) }

-- and has a decision for each frame
pub path_length : (p : List Decision) (fs : List Frame) → length (path_of p fs) ≡ length p + length fs
unfolding path_of
path_length p [] = omega arith
path_length p (f ∷ fs) = omega (arith, path_length p fs, length-append (path_of p fs) (open_side f.side f.cut ∷ []))

-- ---- how often paths stand in lists
pub times_cons : (q p : List Decision) (ps : List (List Decision)) → times_in q (p ∷ ps) ≡ times_in q (p ∷ []) + times_in q ps
unfolding times_in
times_cons q p ps =
    let one = sum_by-cons (λ (r : List Decision). cond (same_path q r) 1 0) p ps in
    let two = sum_by-cons (λ (r : List Decision). cond (same_path q r) 1 0) p [] in
    omega (arith, one, two)

-- ---- sides that are settled
done_after : (p : List Decision) (s : Side) (d : Decision) (l k : LocalParts) → ((q : List Decision) → HasSettled q l → HasSettled q k) → IsDone p s d l → IsDone p s d k
done_after p side.First d l k h e = tt
done_after p side.Second d l k h e = h (p ++ d ∷ []) e

pub all_done_after : (p : List Decision) (fs : List Frame) (l k : LocalParts) → ((q : List Decision) → HasSettled q l → HasSettled q k) → AreDone p fs l → AreDone p fs k
unfolding AreDone
all_done_after p [] l k h e = tt
all_done_after p (f ∷ fs) l k h e = (done_after (path_of p fs) f.side f.cut l k h e.0, all_done_after p fs l k h e.1)

-- those of the frames above are shorter than any of a node
short_done : (p : List Decision) (s : Side) (d : Decision) (n : ℕ) (l k : LocalParts) → length p < n → ((q : List Decision) → length q ≤ n → HasSettled q l → HasSettled q k) → IsDone p s d l → IsDone p s d k
short_done p side.First d n l k few h e = tt
short_done p side.Second d n l k few h e = h (p ++ d ∷ []) (omega (arith, few, length-append p (d ∷ []))) e

pub shorter_done : (p : List Decision) (fs : List Frame) (n : ℕ) (l k : LocalParts) → length (path_of p fs) ≤ n → ((q : List Decision) → length q ≤ n → HasSettled q l → HasSettled q k) → AreDone p fs l → AreDone p fs k
unfolding AreDone path_of
shorter_done p [] n l k few h e = tt
shorter_done p (f ∷ fs) n l k few h e =
    let long = length-append (path_of p fs) (open_side f.side f.cut ∷ []) in
    (short_done (path_of p fs) f.side f.cut n l k (omega (arith, few, long)) h e.0, shorter_done p fs n l k (omega (arith, few, long)) h e.1)

-- ---- levels
pub levels_length : (fs : List Frame) (saved root : List (List (List ℤ))) → Levels fs saved root → length saved ≡ length fs + length root
unfolding Levels
levels_length [] saved root l = ap length l ∙ omega arith
levels_length (f ∷ fs) [] root l = absurd l
levels_length (f ∷ fs) (box ∷ saved) root l = omega (arith, levels_length fs saved root l)

pub levels_more : (f : Frame) (fs new : List Frame) (box : List (List ℤ)) (saved cut root : List (List (List ℤ))) → new ≡ f ∷ fs → cut ≡ box ∷ saved → Levels fs saved root → Levels new cut root
unfolding Levels
levels_more f fs new box saved cut root e h l = rw (e, h) l
