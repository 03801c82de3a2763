-- The way back up.
use Rattle.std.proofs.Common.{◌≡◌, ℕ, ◌+◌, ◌≤◌, List, [], ◌∷◌, ◌++◌, length, length-append, refl, sym, ap, ◌∙◌, subst, ℤ, arith}
use Rattle.std.specs.Prelude.{◌≤ℤ◌, ◌-ℤ◌, ◌^◌, Some, None}
use Rattle.std.specs.declared.option.Option.{Option}
use Rattle.fzn_model.specs.Parts.{Parts}
use Rattle.fzn_model.specs.Rests.{IsTrueEntry}
use Rattle.rest_global.specs.Projected.{IsOffset}
use Rattle.incumbent_board.specs.Passes.{Held}
use Rattle.evictor.specs.Readers.{ReaderParts}
use Rattle.search_core.specs.declared.decision.Decision.{Decision}
use Rattle.search_core.specs.Paths.{opposite, Settled}
use Rattle.search_core.specs.Locals.{LocalParts}
use Rattle.explorer.specs.Offers.{Kept}
use Rattle.explorer.specs.Holding.{HasSettled}
use Rattle.explorer.specs.Telling.{IsJoined}
use Rattle.explorer.specs.Frames.{HasBoth, HasSide, RestFact, IsOpen, AreOpen, AreDone, IsDone, FirstDone, open_side, weight, side_weight, waiting_weight, waiting, path_of, Levels}
use Rattle.explorer.specs.Walking.{Enters, Fails, Leaves}
use Rattle.explorer.specs.Opening.{IsStorable}
use Rattle.explorer.specs.Turns.{IsBack, turns_left, waiting_turns}
use Rattle.explorer.specs.Going.{aim, state, Stands, CanGo, Goes, Ends}
use Rattle.explorer.specs.declared.bench.Bench.{Bench}
use Rattle.explorer.specs.declared.meter.Meter.{Meter}
use Rattle.explorer.specs.declared.task.Task.{Task}
use Rattle.explorer.specs.declared.frame.Closed.{Closed}
use Rattle.explorer.specs.declared.frame.Frame.{Frame}
use Rattle.explorer.specs.declared.frame.Whole.{Whole}
use Rattle.explorer.specs.declared.frame.Side.{Side}
use Rattle.explorer.specs.declared.frame.Side.TheVariants as side
use Rattle.explorer.specs.declared.frame.Stop.{Stop}
use Rattle.explorer.specs.declared.frame.Stop.TheVariants as stop
use Rattle.explorer.specs.declared.frame.Turn.{Turn}
use Rattle.explorer.specs.declared.frame.Turn.TheVariants as turn
use Rattle.explorer.proofs.Working.{works_none}
use Rattle.explorer.proofs.Sides.{side_node, join_settled, true_entry}
use Rattle.explorer.proofs.Frames.{path_length, shorter_done, levels_more}
use Rattle.explorer.proofs.Opening.{ends_same}

-- ---- back to the deepest expansion
open_levels : (m : Parts) (p : List Decision) (fs : List Frame) (saved : List (List (List ℤ))) (b : ℤ) → AreOpen m p fs saved b → length fs ≤ length saved
unfolding AreOpen
open_levels m p [] saved b a = omega arith
open_levels m p (f ∷ fs) [] b a = absurd a
open_levels m p (f ∷ fs) (box ∷ saved) b a = omega (arith, open_levels m p fs saved b a.1)

module _ (k : Task) (t : Bench) (x : Held) (l : LocalParts) (r : ReaderParts) (b : Meter) (f : Kept) (c : Closed) where
  pub up_levels : CanGo (aim k) (turn.Up c) (state t x l r b f) → length t.frames ≤ length t.store.saved
  unfolding CanGo Stands
  up_levels can = open_levels k.model.now k.path.now t.frames t.store.saved x.seen can.1.place.0.opens

  pub up_path : CanGo (aim k) (turn.Up c) (state t x l r b f) → length t.frames ≤ length t.here
  unfolding CanGo Stands
  up_path can = omega (arith, ap length can.1.place.0.path, path_length k.path.now t.frames)

back_cases : (m : Parts) (p here : List Decision) (fr : Frame) (fs : List Frame) (saved : List (List (List ℤ))) (z : ℤ) (n : Bench) → here ≡ path_of p (fr ∷ fs) → AreOpen m p (fr ∷ fs) saved z → Settled m here z → fs ≡ n.frames
    → ((q : List Decision) (d : Decision) → here ≡ q ++ d ∷ [] → n.here ≡ q) → ((area : List (List ℤ)) (rest : List (List (List ℤ))) → saved ≡ area ∷ rest → (n.store.box ≡ area) × (n.store.saved ≡ rest)) → IsBack m p fr n z
unfolding AreOpen path_of
back_cases m p here fr fs [] z n e a settled is up level = absurd a
back_cases m p here fr fs (box ∷ rest) z n e a settled is up level =
    let q : n.here ≡ path_of p fs = up (path_of p fs) (open_side fr.side fr.cut) e in
    let lv = level box rest refl in record {
      path = q ∙ ap (λ (xs : List Frame). path_of p xs) is;
      open_here = rw (q, lv.0) a.0;
      opens = rw (← is, lv.1) a.1;
      closed = rw (q, ← e) settled;
    }

less_levels : (fr : Frame) (n : Bench) (saved root : List (List (List ℤ))) → Levels (fr ∷ n.frames) saved root → ((area : List (List ℤ)) (rest : List (List (List ℤ))) → saved ≡ area ∷ rest → (n.store.box ≡ area) × (n.store.saved ≡ rest)) → Levels n.frames n.store.saved root
unfolding Levels
less_levels fr n [] root lv level = absurd lv
less_levels fr n (box ∷ rest) root lv level = rw ((level box rest refl).1) lv

pub back_goes : (k : Task) (t n : Bench) (x : Held) (l : LocalParts) (r : ReaderParts) (b : Meter) (f : Kept) (c : Closed) (fr : Frame) → Leaves fr t n → Goes (aim k) 1 (turn.Up c) (state t x l r b f) (turn.Back fr c) (state n x l r b f)
unfolding Goes Stands path_of waiting waiting_weight waiting_turns AreDone turns_left Levels
back_goes k t n x l r b f c fr leaves =
    let p : List Decision = k.path.now in
    let m : Parts = k.model.now in
    let here : (others : List Decision → ℕ) → Stands (aim k) (turn.Up c) (state t x l r b f) others → n.here ≡ path_of p n.frames = λ others st. leaves.here (path_of p n.frames) (open_side fr.side fr.cut) (st.place.0.path ∙ ap (λ (fs : List Frame). path_of p fs) leaves.frames) in
    record {
      stands = λ others st.
          let at = here others st in
          let back : IsBack m p fr n x.seen = back_cases m p t.here fr n.frames t.store.saved x.seen n (st.place.0.path ∙ ap (λ (fs : List Frame). path_of p fs) leaves.frames) (subst (λ (fs : List Frame). AreOpen m p fs t.store.saved x.seen) leaves.frames st.place.0.opens) st.place.0.closed refl leaves.here leaves.levels in
          let done : AreDone p (fr ∷ n.frames) l = subst (λ (fs : List Frame). AreDone p fs l) leaves.frames st.done.1 in
          record {
            model = st.model;
            place = (back, st.place.1);
            plan = leaves.plan ∙ st.plan;
            held = λ q. st.held q ∙ rw (leaves.frames, at) refl;
            done = (rw (at, ← (st.place.0.path ∙ ap (λ (fs : List Frame). path_of p fs) leaves.frames)) st.done.0, rw at done.0, done.1);
            board = st.board;
            top = st.top;
            cache = st.cache;
            few = st.few;
            count = st.count;
            expands = st.expands;
            room = st.room;
          };
      turns = λ others st.
          let one : waiting_weight m p t.frames ≡ side_weight m n.here fr.side fr.cut + waiting_weight m p n.frames = rw (leaves.frames, here others st) refl in
          let two : waiting_turns t.frames ≡ waiting_turns (fr ∷ n.frames) = rw leaves.frames refl in
          omega (arith, one, two);
      weights = λ others st.
          let one : waiting_weight m p t.frames ≡ side_weight m n.here fr.side fr.cut + waiting_weight m p n.frames = rw (leaves.frames, here others st) refl in
          omega (arith, one);
      counts = refl;
      levels = λ root lv. less_levels fr n t.store.saved root (subst (λ (fs : List Frame). Levels fs t.store.saved root) leaves.frames lv) leaves.levels;
      works = λ others st. works_none m p k.limit x r r b f refl;
      plan = leaves.plan;
      closed = refl;
    }

pub done_goes : (k : Task) (t n : Bench) (x : Held) (l : LocalParts) (r : ReaderParts) (b : Meter) (f : Kept) (c : Closed) → t.frames ≡ [] → n ≡ t → Goes (aim k) 1 (turn.Up c) (state t x l r b f) (turn.Done c) (state n x l r b f)
unfolding Goes Stands path_of waiting waiting_turns turns_left
done_goes k t n x l r b f c none same = rw same (record {
  stands = λ others st. record {
    model = st.model;
    place = (rw (← (st.place.0.path ∙ ap (λ (fs : List Frame). path_of k.path.now fs) none)) st.place.0.closed, none, st.place.1);
    plan = st.plan;
    held = λ q. st.held q ∙ rw none refl;
    done = tt;
    board = st.board;
    top = st.top;
    cache = st.cache;
    few = st.few;
    count = st.count;
    expands = st.expands;
    room = st.room;
  };
  turns = λ others st. let one : waiting_turns t.frames ≡ 0 = rw none refl in omega (arith, one);
  weights = λ others st. omega arith;
  counts = refl;
  levels = λ root lv. lv;
  works = λ others st. works_none k.model.now k.path.now k.limit x r r b f refl;
  plan = refl;
  closed = refl;
})

-- ---- the second side
pub second_side : (k : Task) (t : Bench) (x : Held) (l : LocalParts) (r : ReaderParts) (b : Meter) (f : Kept) (fr : Frame) (c : Closed) (d : Decision) → CanGo (aim k) (turn.Back fr c) (state t x l r b f) → d ≡ opposite fr.cut → HasSide t.store.box d
unfolding CanGo Stands HasBoth
second_side k t x l r b f fr c d can e = rw e can.1.place.0.open_here.sides.1

module _ (k : Task) (t n : Bench) (x : Held) (l : LocalParts) (r : ReaderParts) (b : Meter) (f : Kept) (c : Closed) (cut : Decision) (seen : ℤ) (whole : Option Whole) where
  next : Frame
  next = record { cut = cut; side = side.Second; seen = seen; whole = whole }

  parts : Enters (opposite cut) next t n → (weight k.model.now n.here ≡ weight k.model.now (t.here ++ opposite cut ∷ [])) × (waiting_weight k.model.now k.path.now n.frames ≡ 0 + waiting_weight k.model.now k.path.now t.frames) × (waiting_turns n.frames ≡ (2 + 0) + waiting_turns t.frames)
  unfolding waiting_weight waiting_turns next
  parts enters = (rw enters.here refl, rw enters.frames refl, rw enters.frames refl)

  from_first : Enters (opposite cut) next t n → Goes (aim k) 1 (turn.Back (record { cut = cut; side = side.First; seen = seen; whole = whole }) c) (state t x l r b f) turn.Down (state n x l r b f)
  unfolding Goes Stands path_of waiting waiting_weight waiting_turns AreOpen AreDone turns_left next
  from_first enters =
      let p : List Decision = k.path.now in
      let m : Parts = k.model.now in
      record {
        stands = λ others st.
            let o = st.place.0.open_here in
            let at : t.here ≡ path_of p t.frames = st.place.0.path in
            let open_here : IsOpen m t.here next t.store.box x.seen = record { node = o.node; sides = o.sides; first = st.place.0.closed; rest = o.rest; opened = o.opened } in
            record {
              model = st.model;
              place = record {
                path = enters.here ∙ ap (λ (q : List Decision). q ++ opposite cut ∷ []) at ∙ ap (λ (fs : List Frame). path_of p fs) (sym enters.frames);
                opens = rw (enters.frames, enters.saved) (subst (λ (q : List Decision). IsOpen m q next t.store.box x.seen) at open_here, st.place.0.opens);
                node = rw enters.here (side_node m t.here (opposite cut) t.store.box n.store.box x.seen o.node enters.domains);
              };
              plan = enters.plan ∙ st.plan;
              held = λ q. st.held q ∙ rw (enters.here, enters.frames) refl;
              done = rw enters.frames (subst (λ (q : List Decision). HasSettled (q ++ cut ∷ []) l) at st.done.0, st.done.2);
              board = st.board;
              top = st.top;
              cache = st.cache;
              few = st.few;
              count = st.count;
              expands = st.expands;
              room = st.room;
            };
        turns = λ others st. let (one, two, three) = parts enters in omega (arith, one, two, three);
        weights = λ others st. let (one, two, three) = parts enters in omega (arith, one, two);
        counts = refl;
        levels = λ root lv. levels_more next t.frames n.frames t.store.box t.store.saved n.store.saved root enters.frames enters.saved lv;
        works = λ others st. works_none m p k.limit x r r b f refl;
        plan = enters.plan;
        closed = refl;
      }

  second_any : (s : Side) → s ≡ side.First → Enters (opposite cut) next t n → Goes (aim k) 1 (turn.Back (record { cut = cut; side = s; seen = seen; whole = whole }) c) (state t x l r b f) turn.Down (state n x l r b f)
  second_any s e enters = rw e (from_first enters)

pub second_goes : (k : Task) (t n : Bench) (x : Held) (l : LocalParts) (r : ReaderParts) (b : Meter) (f : Kept) (c : Closed) (fr : Frame) (d : Decision) → fr.side ≡ side.First → d ≡ opposite fr.cut
    → Enters d (record { cut = fr.cut; side = side.Second; seen = fr.seen; whole = fr.whole }) t n → Goes (aim k) 1 (turn.Back fr c) (state t x l r b f) turn.Down (state n x l r b f)
unfolding next
second_goes k t n x l r b f c fr d e is enters = second_any k t n x l r b f c fr.cut fr.seen fr.whole fr.side e (subst (λ (v : Decision). Enters v (record { cut = fr.cut; side = side.Second; seen = fr.seen; whole = fr.whole }) t n) is enters)

pub failed_ends : (k : Task) (u : Turn) (t n : Bench) (x : Held) (l : LocalParts) (r : ReaderParts) (b : Meter) (f : Kept) → Fails t n → Ends (aim k) u (state t x l r b f) stop.NoMemory (state n x l r b f)
failed_ends k u t n x l r b f fails = ends_same (aim k) u t n x l l r r b f fails.frames fails.saved fails.plan refl refl

-- ---- the join
module _ (k : Task) (t : Bench) (x : Held) (l : LocalParts) (r : ReaderParts) (b : Meter) (f : Kept) (c : Closed) (fr : Frame) (can : CanGo (aim k) (turn.Back fr c) (state t x l r b f)) where
  pub back_room : l.expands ≤ 2 ^ 120
  unfolding CanGo Stands
  back_room = omega (arith, can.1.expands, can.1.few)

  pub back_cache : r.pass.cache ≡ k.cache.now
  unfolding CanGo Stands
  back_cache = can.1.cache

  first_by : (s : Side) → s ≡ side.Second → IsDone t.here s fr.cut l → HasSettled (t.here ++ fr.cut ∷ []) l
  first_by side.First e h = cc
  first_by side.Second e h = h

  pub back_first : fr.side ≡ side.Second → HasSettled (t.here ++ fr.cut ∷ []) l
  unfolding CanGo Stands
  back_first e = first_by fr.side e can.1.done.1

  pub back_second : fr.side ≡ side.Second → HasSettled (t.here ++ opposite fr.cut ∷ []) l
  unfolding CanGo Stands
  back_second e = subst (λ (s : Side). HasSettled (t.here ++ open_side s fr.cut ∷ []) l) e can.1.done.0

  closed_by : (s : Side) → s ≡ side.Second → FirstDone k.model.now t.here s fr.cut x.seen → Settled k.model.now (t.here ++ open_side s fr.cut ∷ []) x.seen → Settled k.model.now t.here x.seen
  closed_by side.First e h g = cc
  closed_by side.Second e h g = join_settled k.model.now t.here fr.cut x.seen h g

  pub back_closed : fr.side ≡ side.Second → Settled k.model.now t.here x.seen
  unfolding CanGo Stands
  back_closed e = closed_by fr.side e can.1.place.0.open_here.first can.1.place.0.closed

  storable_by : (w : Option Whole) → RestFact k.model.now t.here w fr.seen → Settled k.model.now t.here x.seen → x.seen ≤ℤ fr.seen → c.bound ≡ x.seen → IsStorable w c.bound
  unfolding RestFact IsStorable
  storable_by None h closed low is = tt
  storable_by (Some w) h closed low is = (rw is (true_entry k.model.now t.here fr.seen x.seen w.rest w.offset h.0 low closed), h.1)

  pub back_storable : fr.side ≡ side.Second → IsStorable fr.whole c.bound
  unfolding CanGo Stands
  back_storable e = storable_by fr.whole can.1.place.0.open_here.rest (back_closed e) can.1.place.0.open_here.opened can.1.place.1

pub storable_truth : (w : Whole) (z : ℤ) → IsStorable (Some w) z → IsTrueEntry w.rest (z -ℤ w.offset)
unfolding IsStorable
storable_truth w z h = h.0

pub storable_offset : (w : Whole) (z : ℤ) → IsStorable (Some w) z → IsOffset w.offset
unfolding IsStorable
storable_offset w z h = h.1

module _ (k : Task) (t : Bench) (x : Held) (l j : LocalParts) (r s : ReaderParts) (b : Meter) (f : Kept) (c : Closed) (cut : Decision) (seen : ℤ) (whole : Option Whole) where
  from_second : IsJoined t.here cut l j → s.pass.cache ≡ r.pass.cache → Goes (aim k) 1 (turn.Back (record { cut = cut; side = side.Second; seen = seen; whole = whole }) c) (state t x l r b f) (turn.Up (record { bound = c.bound })) (state t x j s b f)
  unfolding Goes Stands turns_left
  from_second told own =
      let p : List Decision = k.path.now in
      let m : Parts = k.model.now in
      record {
        stands = λ others st. record {
          model = st.model;
          place = (record { path = st.place.0.path; opens = st.place.0.opens; closed = join_settled m t.here cut x.seen st.place.0.open_here.first st.place.0.closed }, st.place.1);
          plan = st.plan;
          held = λ q. told.times q ∙ st.held q;
          done = (told.here, shorter_done p t.frames (length t.here) l j (omega (arith, ap length st.place.0.path)) (λ q few h. told.settled q (too_long q few cut) (too_long q few (opposite cut)) h) st.done.2);
          board = st.board;
          top = st.top;
          cache = own ∙ st.cache;
          few = st.few;
          count = st.count;
          expands = omega (arith, st.expands, told.expands);
          room = st.room;
        };
        turns = λ others st. omega arith;
        weights = λ others st. omega arith;
        counts = omega (arith, told.expands);
        levels = λ root lv. lv;
        works = λ others st. works_none m p k.limit x r s b f own;
        plan = refl;
        closed = refl;
      }
    where
      too_long : (q : List Decision) → length q ≤ length t.here → (d : Decision) → q ≡ t.here ++ d ∷ [] → ⊥
      too_long q few d e = absurd (omega (arith, few, ap length e, length-append t.here (d ∷ [])))

  joined_any : (sd : Side) → sd ≡ side.Second → IsJoined t.here cut l j → s.pass.cache ≡ r.pass.cache → Goes (aim k) 1 (turn.Back (record { cut = cut; side = sd; seen = seen; whole = whole }) c) (state t x l r b f) (turn.Up (record { bound = c.bound })) (state t x j s b f)
  joined_any sd e told own = rw e (from_second told own)

pub joined_goes : (k : Task) (t : Bench) (x : Held) (l j : LocalParts) (r s : ReaderParts) (b : Meter) (f : Kept) (c : Closed) (fr : Frame) → fr.side ≡ side.Second → IsJoined t.here fr.cut l j → s.pass.cache ≡ r.pass.cache
    → Goes (aim k) 1 (turn.Back fr c) (state t x l r b f) (turn.Up (record { bound = c.bound })) (state t x j s b f)
joined_goes k t x l j r s b f c fr e told own = joined_any k t x l j r s b f c fr.cut fr.seen fr.whole fr.side e told own

pub told_ends : (k : Task) (u : Turn) (t : Bench) (x : Held) (l j : LocalParts) (r : ReaderParts) (b : Meter) (f : Kept) (why : Stop) → why ≡ stop.NoMemory → j ≡ l → Ends (aim k) u (state t x l r b f) why (state t x j r b f)
told_ends k u t x l j r b f why e kept = rw e (ends_same (aim k) u t t x l j r r b f refl refl refl (ap (λ (v : LocalParts). v.expands) kept) refl)
