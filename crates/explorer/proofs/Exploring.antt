-- From the first node to the answer.
use Rattle.std.proofs.Common.{◌≡◌, inl, ℕ, ◌+◌, ◌-◌, ◌≤◌, Bool, true, false, cond, List, [], ◌∷◌, length, refl, sym, ap, ◌∙◌, ℤ, arith}
use Rattle.std.proofs.lemmas.List.Sums.{sum_by-cons}
use Rattle.std.specs.Prelude.{◌^◌, Result, Ok, Err, IfOk, IfErr}
use Rattle.fzn_model.specs.Parts.{Parts}
use Rattle.fzn_model.specs.Limits.{IsModel}
use Rattle.fzn_model.specs.Solutions.{top}
use Rattle.fzn_model.specs.Boxes.{IsBox}
use Rattle.dom_store.specs.Views.{box_of}
use Rattle.incumbent_board.specs.Passes.{Held, IsPass}
use Rattle.evictor.specs.Readers.{ReaderParts}
use Rattle.search_core.specs.declared.decision.Decision.{Decision}
use Rattle.search_core.specs.Paths.{Settled}
use Rattle.search_core.specs.Locals.{LocalParts}
use Rattle.explorer.specs.Benches.{IsBench, IsAble}
use Rattle.explorer.specs.Offers.{Kept}
use Rattle.explorer.specs.Holding.{times_held, times_in, same_path}
use Rattle.explorer.specs.Telling.{SameTasks, IsClosed}
use Rattle.explorer.specs.Works.{Works, IsCause, CountedAt}
use Rattle.explorer.specs.Frames.{Levels, AreOpen, AreDone, weight, waiting, waiting_weight, path_of}
use Rattle.explorer.specs.Looking.{Listened}
use Rattle.explorer.specs.Walking.{IsBase, NoneMeets}
use Rattle.explorer.specs.Explored.{IfSettled, Closes, IsCauseOf, CountedBy}
use Rattle.explorer.specs.Going.{Aim, aim, state, Stands, CanGo, Goes, Ends}
use Rattle.explorer.specs.Ending.{IsStart, HasRun, HasClosed, HasStopped, HasLevels, answer_of}
use Rattle.explorer.specs.declared.bench.Bench.{Bench}
use Rattle.explorer.specs.declared.meter.Meter.{Meter}
use Rattle.explorer.specs.declared.task.Task.{Task}
use Rattle.explorer.specs.declared.subtree.Explored.{Explored}
use Rattle.explorer.specs.declared.frame.Closed.{Closed}
use Rattle.explorer.specs.declared.frame.Stop.{Stop}
use Rattle.explorer.specs.declared.frame.Stop.TheVariants as stop
use Rattle.explorer.specs.declared.frame.Turn.TheVariants as turn
use Rattle.explorer.proofs.Counting.{paths_same}
use Rattle.explorer.proofs.Working.{works_none, works_listened}

-- a path that is held is among all that is held
one_time : (q p : List Decision) (l : LocalParts) (b : Bool) → same_path q p ≡ b → 1 ≤ times_held p l → cond b 1 0 ≤ times_held q l
one_time q p l true e h = let same : q ≡ p = paths_same q p e in omega (arith, ap (λ (v : List Decision). times_held v l) same, h)
one_time q p l false e h = omega arith

times_one : (q p : List Decision) → times_in q (p ∷ []) ≡ cond (same_path q p) 1 0
unfolding times_in
times_one q p = omega (arith, sum_by-cons (λ (r : List Decision). cond (same_path q r) 1 0) p [])

held_among : (q p : List Decision) (l : LocalParts) → 1 ≤ times_held p l → times_in q (p ∷ []) ≤ times_held q l
held_among q p l h = omega (arith, times_one q p, one_time q p l (same_path q p) refl h)

no_times : (q : List Decision) → times_in q [] ≡ 0
unfolding times_in
no_times q = refl

-- ---- the start
module _ (k : Task) (t0 t : Bench) (x : Held) (l : LocalParts) (r : ReaderParts) (b : Meter) (f : Kept) (begin : IsStart k.model.now k.path.now t0)
    (here : t.here ≡ t0.here) (frames : t.frames ≡ t0.frames) (plan : t.engine ≡ t0.engine) (saved : t.store.saved ≡ t0.store.saved) (base : IsBase k.model.now k.path.now t.store.box) (model : IsModel k.model.now) (pass : IsPass x)
    (board : x.board ≡ k.board.now) (most : k.board.now.top ≡ top k.model.now) (cache : r.pass.cache ≡ k.cache.now) (held : 1 ≤ times_held k.path.now l) (expands : l.expands ≤ 2 ^ 100) (found : f.count ≡ length k.model.now.doms) (meter : b.count ≤ 2 ^ 100) where
  rest_of : List Decision → ℕ
  rest_of q = times_held q l - times_in q (k.path.now ∷ [])

  at_path : t.here ≡ k.path.now
  at_path = here ∙ begin.path

  none : t.frames ≡ []
  none = frames ∙ begin.no_frame

  held_now : (q : List Decision) → times_held q l ≡ times_in q (t.here ∷ waiting k.path.now t.frames) + rest_of q
  unfolding waiting rest_of
  held_now q = let one : times_in q (t.here ∷ waiting k.path.now t.frames) ≡ times_in q (k.path.now ∷ []) = rw (at_path, none) refl in omega (arith, one, held_among q k.path.now l held)

  start_stands : Stands (aim k) turn.Down (state t x l r b f) rest_of
  unfolding Stands AreOpen AreDone path_of waiting IsBase
  start_stands = record {
    model = model;
    place = record { path = at_path ∙ rw none refl; opens = rw none tt; node = rw at_path (base x.seen) };
    plan = plan ∙ begin.plan;
    held = held_now;
    done = rw none tt;
    board = board;
    top = most;
    cache = cache;
    few = omega (arith, pass.credits, pass.budget);
    count = omega (arith, meter);
    expands = omega (arith, expands);
    room = found;
  }

  pub start_can : CanGo (aim k) turn.Down (state t x l r b f)
  unfolding CanGo
  start_can = (rest_of, start_stands)

  start_weight : weight k.model.now t.here + waiting_weight k.model.now k.path.now t.frames ≡ weight k.model.now k.path.now
  unfolding waiting_weight
  start_weight = let one : weight k.model.now t.here ≡ weight k.model.now k.path.now = rw at_path refl in let two : waiting_weight k.model.now k.path.now t.frames ≡ 0 = rw none refl in omega (arith, one, two)

  module _ (n : Bench) (y : Held) (j : LocalParts) (s : ReaderParts) (c : Meter) (g : Kept) where
    levels_then : (area : List (List ℤ)) → (Levels t.frames t.store.saved (area ∷ []) → Levels n.frames n.store.saved (area ∷ [])) → HasLevels t0 area → HasLevels n area
    unfolding HasLevels
    levels_then area go lv = go (rw (frames, saved) lv)

    pub done_runs : (z : Closed) → Goes (aim k) 0 turn.Down (state t x l r b f) (turn.Done z) (state n y j s c g) → HasRun (aim k) (state t0 x l r b f) (state n y j s c g)
    unfolding Goes HasRun
    done_runs z go = record { works = go.works rest_of start_stands; weight_left = omega (arith, go.weights rest_of start_stands, start_weight); closed = go.closed; plan = go.plan ∙ plan }

    let_go : (q : List Decision) (i : LocalParts) → times_held q i ≡ times_in q [] + rest_of q → times_held q i + times_in q (k.path.now ∷ []) ≡ times_held q l
    unfolding rest_of
    let_go q i e = omega (arith, e, no_times q, held_among q k.path.now l held)

    pub done_closes : (z : Closed) (w : ℤ) → w ≡ z.bound → Goes (aim k) 0 turn.Down (state t x l r b f) (turn.Done z) (state n y j s c g) → HasClosed (aim k) w (state t0 x l r b f) (state n y j s c g)
    unfolding Goes Stands HasClosed
    done_closes z w e go =
        let st = go.stands rest_of start_stands in
        record {
          closes = record {
            settled = rw (e, st.place.2) st.place.0;
            seen = e ∙ st.place.2;
            held = λ q. let_go q j (st.held q);
          };
          counts = go.counts;
        }

    pub done_levels : (z : Closed) (area : List (List ℤ)) → Goes (aim k) 0 turn.Down (state t x l r b f) (turn.Done z) (state n y j s c g) → HasLevels t0 area → HasLevels n area
    unfolding Goes
    done_levels z area go = levels_then area (go.levels (area ∷ []))

    pub ends_runs : (why : Stop) → Ends (aim k) turn.Down (state t x l r b f) why (state n y j s c g) → HasRun (aim k) (state t0 x l r b f) (state n y j s c g)
    unfolding Ends HasRun
    ends_runs why go = record { works = go.works rest_of start_stands; weight_left = omega (arith, go.weights rest_of start_stands, start_weight); closed = go.closed; plan = go.plan ∙ plan }

    pub ends_stops : (why : Stop) → Ends (aim k) turn.Down (state t x l r b f) why (state n y j s c g) → HasStopped why (state t0 x l r b f) (state n y j s c g)
    unfolding Ends HasStopped
    ends_stops why go = record { counts = go.counts; cause = go.cause rest_of start_stands }

    pub ends_levels : (why : Stop) (area : List (List ℤ)) → Ends (aim k) turn.Down (state t x l r b f) why (state n y j s c g) → HasLevels t0 area → HasLevels n area
    unfolding Ends
    ends_levels why area go = levels_then area (go.levels (area ∷ []))

pub bench_full : (m : Parts) (t : Bench) → IsBench m t → IsBox (box_of m.doms)
bench_full m t b = b.full

pub start_box : (m : Parts) (p : List Decision) (t : Bench) → IsStart m p t → t.store.box ≡ box_of m.doms
start_box m p t b = b.domains

-- ---- a path that no assignment meets
module _ (k : Task) (t : Bench) (x y : Held) (l m : LocalParts) (r : ReaderParts) (b : Meter) (f : Kept) (h : Listened x y) (same : SameTasks l m) where
  pub empty_runs : (j : LocalParts) → HasRun (aim k) (state t x l r b f) (state t y j r b f)
  unfolding HasRun
  empty_runs j = record { works = works_listened k.model.now k.path.now k.limit x y r b f h; weight_left = omega (arith, h.credits); closed = refl; plan = refl }

  pub still_held : (p : List Decision) → 1 ≤ times_held p l → 1 ≤ times_held p m
  still_held p few = rw (same.times p) few

  pub room_enough : l.expands ≤ 2 ^ 100 → m.expands ≤ 2 ^ 120
  room_enough few = omega (arith, few, same.expands)

  pub empty_closes : (j : LocalParts) (w : ℤ) → NoneMeets k.model.now k.path.now → y.seen ≡ w → IsClosed k.path.now m j → HasClosed (aim k) w (state t x l r b f) (state t y j r b f)
  unfolding HasClosed NoneMeets Settled
  empty_closes j w none e told = record {
    closes = record {
      settled = λ θ solves meets. absurd (none θ solves.domains meets);
      seen = sym e;
      held = λ q. told.times q ∙ same.times q;
    };
    counts = omega (arith, told.expands, same.expands, h.credits);
  }

  exact : (why : Stop) → CountedAt why l m x y
  exact stop.Dry = omega (arith, same.expands, h.credits)
  exact (stop.Told why) = omega (arith, same.expands, h.credits)
  exact stop.NoMemory = inl (omega (arith, same.expands, h.credits))

  pub empty_halts : (why : Stop) → IsCause why x y → HasStopped why (state t x l r b f) (state t y m r b f)
  unfolding HasStopped
  empty_halts why cause = record { counts = exact why; cause = cause }

  pub empty_stops : (j : LocalParts) (why : Stop) → why ≡ stop.NoMemory → j ≡ m → HasStopped why (state t x l r b f) (state t y j r b f)
  unfolding HasStopped
  empty_stops j why e kept = rw (e, kept) (record { counts = inl (omega (arith, same.expands, h.credits)); cause = tt })

-- ---- only the bench differs
module _ (a : Aim) (t u n o : Bench) (x y : Held) (l j : LocalParts) (r s : ReaderParts) (b c : Meter) (f g : Kept) where
  pub moved_runs : u.engine ≡ t.engine → o.engine ≡ n.engine → HasRun a (state u x l r b f) (state n y j s c g) → HasRun a (state t x l r b f) (state o y j s c g)
  unfolding HasRun
  moved_runs e i h = record { works = h.works; weight_left = h.weight_left; closed = h.closed; plan = i ∙ h.plan ∙ e }

  pub moved_closes : (w : ℤ) → HasClosed a w (state u x l r b f) (state n y j s c g) → HasClosed a w (state t x l r b f) (state o y j s c g)
  unfolding HasClosed
  moved_closes w h = record { closes = h.closes; counts = h.counts }

  pub moved_stops : (why : Stop) → HasStopped why (state u x l r b f) (state n y j s c g) → HasStopped why (state t x l r b f) (state o y j s c g)
  unfolding HasStopped
  moved_stops why h = record { counts = h.counts; cause = h.cause }

  pub stops_if : (ended : Result ℤ Stop) → IfErr ended (λ why. HasStopped why (state u x l r b f) (state n y j s c g)) → IfErr ended (λ why. HasStopped why (state t x l r b f) (state o y j s c g))
  stops_if (Ok w) h = tt
  stops_if (Err why) h = moved_stops why h

-- ---- the whole
module _ (k : Task) (t : Bench) (x : Held) (l : LocalParts) (r : ReaderParts) (b : Meter) (f : Kept) where
  pub none_runs : HasRun (aim k) (state t x l r b f) (state t x l r b f)
  unfolding HasRun
  none_runs = record { works = works_none k.model.now k.path.now k.limit x r r b f refl; weight_left = omega arith; closed = refl; plan = refl }

  pub none_stops : HasStopped stop.NoMemory (state t x l r b f) (state t x l r b f)
  unfolding HasStopped
  none_stops = record { counts = inl refl; cause = tt }

start_levels : (m : Parts) (p : List Decision) (t : Bench) → IsStart m p t → HasLevels t (box_of m.doms)
unfolding HasLevels Levels
start_levels m p t h = rw h.no_frame h.one_level

pub can_leave : (m : Parts) (p : List Decision) (t n : Bench) → IsStart m p t → ((area : List (List ℤ)) → HasLevels t area → HasLevels n area) → (area : List (List ℤ)) × HasLevels n area
can_leave m p t n h keeps = (box_of m.doms, keeps (box_of m.doms) (start_levels m p t h))

pub whole_runs : (k : Task) (t u n o : Bench) (x y : Held) (l j : LocalParts) (r s : ReaderParts) (b c : Meter) (f g : Kept) → IsBench k.model.now t → IsStart k.model.now k.path.now u → o.engine ≡ n.engine → HasRun (aim k) (state u x l r b f) (state n y j s c g) → HasRun (aim k) (state t x l r b f) (state o y j s c g)
whole_runs k t u n o x y l j r s b c f g bench begin e h = moved_runs (aim k) t u n o x y l j r s b c f g (begin.plan ∙ sym bench.plan) e h

pub left_bench : (k : Task) (u n o : Bench) (x y : Held) (l j : LocalParts) (r s : ReaderParts) (b c : Meter) (f g : Kept) → IsBox (box_of k.model.now.doms) → IsStart k.model.now k.path.now u → ((area : List (List ℤ)) → HasLevels u area → HasLevels n area) → HasRun (aim k) (state u x l r b f) (state n y j s c g)
    → ((area : List (List ℤ)) → HasLevels n area → o.store.box ≡ area) → ((area : List (List ℤ)) → HasLevels n area → o.store.saved ≡ []) → o.engine ≡ n.engine → o.here ≡ [] → o.frames ≡ [] → IsAble o → IsBench k.model.now o
unfolding HasRun
left_bench k u n o x y l j r s b c f g full begin keeps run domains no_level plan here frames able =
    let lv : HasLevels n (box_of k.model.now.doms) = keeps (box_of k.model.now.doms) (start_levels k.model.now k.path.now u begin) in
    record { domains = domains (box_of k.model.now.doms) lv; full = full; no_level = no_level (box_of k.model.now.doms) lv; plan = plan ∙ run.plan ∙ begin.plan; no_path = here; no_frame = frames; able = able }

-- ---- the answer
module _ (k : Task) (t n : Bench) (x y : Held) (l j : LocalParts) (r s : ReaderParts) (b c : Meter) (f g : Kept) where
  pub works_all : (d : Meter) (z : ℕ) → HasRun (aim k) (state t x l r b f) (state n y j s c g) → d ≡ record c { closed = z } → Works k.model.now k.path.now k.limit x y r s b d f g
  unfolding HasRun
  works_all d z h e = rw e (record {
    offers = h.works.offers;
    solved = h.works.solved;
    expansions = h.works.expansions;
    paid = h.works.paid;
    credits = h.works.credits;
    count = h.works.count;
    least = h.works.least;
    known = h.works.known;
    kept = h.works.kept;
    room = h.works.room;
    falls = h.works.falls;
    floor = h.works.floor;
    same = h.works.same;
    for_budget = h.works.for_budget;
    for_memory = h.works.for_memory;
    cache = h.works.cache;
  })

  pub weighs : HasRun (aim k) (state t x l r b f) (state n y j s c g) → y.credits ≤ x.credits + weight k.model.now k.path.now
  unfolding HasRun
  weighs h = h.weight_left

  pub counts_closed : HasRun (aim k) (state t x l r b f) (state n y j s c g) → c.closed ≡ b.closed
  unfolding HasRun
  counts_closed h = h.closed

  pub closes_if : (e : Explored) (ended : Result ℤ Stop) → e ≡ answer_of ended → IfOk ended (λ w. HasClosed (aim k) w (state t x l r b f) (state n y j s c g)) → IfSettled e (λ w. Closes k.model.now k.path.now w y l j)
  unfolding HasClosed
  closes_if e (Ok w) is h = rw is h.closes
  closes_if e (Err stop.Dry) is h = rw is tt
  closes_if e (Err (stop.Told why)) is h = rw is tt
  closes_if e (Err stop.NoMemory) is h = rw is tt

  pub counts_by : (e : Explored) (ended : Result ℤ Stop) → e ≡ answer_of ended → IfOk ended (λ w. HasClosed (aim k) w (state t x l r b f) (state n y j s c g)) → IfErr ended (λ why. HasStopped why (state t x l r b f) (state n y j s c g)) → CountedBy e l j x y
  unfolding HasClosed HasStopped
  counts_by e (Ok w) is h g = rw is h.counts
  counts_by e (Err stop.Dry) is h g = rw is g.counts
  counts_by e (Err (stop.Told why)) is h g = rw is g.counts
  counts_by e (Err stop.NoMemory) is h g = rw is g.counts

  pub causes : (e : Explored) (ended : Result ℤ Stop) → e ≡ answer_of ended → IfErr ended (λ why. HasStopped why (state t x l r b f) (state n y j s c g)) → IsCauseOf e x y
  unfolding HasStopped
  causes e (Ok w) is g = rw is tt
  causes e (Err stop.Dry) is g = rw is g.cause
  causes e (Err (stop.Told why)) is g = rw is g.cause
  causes e (Err stop.NoMemory) is g = rw is tt
