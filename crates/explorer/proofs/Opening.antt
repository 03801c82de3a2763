-- A node is expanded, or settled by the cache.
use Rattle.std.proofs.Common.{◌≡◌, inl, inr, Bool, cond, ℕ, ◌+◌, ◌≤◌, List, [], ◌∷◌, ◌++◌, refl, sym, ap, ◌∙◌, subst, ℤ, arith}
use Rattle.std.specs.Prelude.{◌≤ℤ◌, ◌-ℤ◌, ◌^◌, Some, None}
use Rattle.std.specs.declared.option.Option.{Option}
use Rattle.std.proofs.lemmas.Int.{ints}
use Rattle.std.proofs.lemmas.List.Sums.{sum_by-cons}
use Rattle.fzn_model.specs.Parts.{Parts}
use Rattle.fzn_model.specs.Solutions.{top}
use Rattle.fzn_model.specs.Rests.{LiesWithin, IsRestOf, RestParts}
use Rattle.rest_global.specs.Projected.{IsOffset}
use Rattle.rest_global.specs.declared.projected.Projected.TheVariants as projected
use Rattle.rest_global.specs.declared.wide.Wide.{Wide}
use Rattle.incumbent_board.specs.Passes.{Held}
use Rattle.entry_slab.specs.Readings.{IsReading}
use Rattle.evictor.specs.Readers.{ReaderParts}
use Rattle.evictor.specs.Reports.{IsServed}
use Rattle.evictor.specs.Misses.{MissedParts}
use Rattle.evictor.specs.Looks.{IsLook, IsMiss}
use Rattle.evictor.specs.declared.look.Look.TheVariants as look
use Rattle.search_core.specs.declared.decision.Decision.{Decision}
use Rattle.search_core.specs.Paths.{opposite, Meets, Settled}
use Rattle.search_core.specs.Locals.{LocalParts}
use Rattle.explorer.specs.Offers.{Kept}
use Rattle.explorer.specs.Nodes.{IsNode}
use Rattle.explorer.specs.Expansions.{Expansion, IsTicket, IsExpansion}
use Rattle.explorer.specs.Holding.{same_path, times_held, times_in}
use Rattle.explorer.specs.Telling.{IsClosed}
use Rattle.explorer.specs.Frames.{HasBoth, HasSide, RestFact, IsOpen, AreOpen, AreDone, weight, waiting_weight, waiting, path_of}
use Rattle.explorer.specs.Works.{Works}
use Rattle.explorer.specs.Opening.{IsProjectedBelow, IsLookedUp, IsPaid, IsEmptyHanded, Opens, IsStarted, first_frame}
use Rattle.explorer.specs.Turns.{open_weight, turns_left, waiting_turns}
use Rattle.explorer.specs.Going.{Aim, aim, state, Stands, CanGo, Goes, Ends}
use Rattle.explorer.specs.declared.bench.Bench.{Bench}
use Rattle.explorer.specs.declared.meter.Meter.{Meter}
use Rattle.explorer.specs.declared.task.Task.{Task}
use Rattle.explorer.specs.declared.ticket.Ticket.{Ticket}
use Rattle.explorer.specs.declared.ticket.Ticket.TheVariants as ticket
use Rattle.explorer.specs.declared.frame.Frame.{Frame}
use Rattle.explorer.specs.declared.frame.Whole.{Whole}
use Rattle.explorer.specs.declared.frame.Stop.{Stop}
use Rattle.explorer.specs.declared.frame.Stop.TheVariants as stop
use Rattle.explorer.specs.declared.frame.Turn.{Turn}
use Rattle.explorer.specs.declared.frame.Turn.TheVariants as turn
use Rattle.explorer.proofs.Counting.{path_itself}
use Rattle.explorer.proofs.Working.{works_none, works_paid, works_dry}
use Rattle.explorer.proofs.Sides.{side_node, weight_split, rest_of_path, hit_settled}
use Rattle.explorer.proofs.Frames.{begins, times_cons, all_done_after, levels_more, opens_lower}

-- a path stands in a list that begins with it
times_here : (q : List Decision) (ps : List (List Decision)) → 1 ≤ times_in q (q ∷ ps)
unfolding times_in
times_here q ps =
    let one = sum_by-cons (λ (r : List Decision). cond (same_path q r) 1 0) q ps in
    omega (arith, one, ap {B = ℕ} (λ (b : Bool). cond b 1 0) (path_itself q))

-- ---- what a node below an aim knows
module _ (k : Task) (t : Bench) (x : Held) (l : LocalParts) (r : ReaderParts) (b : Meter) (f : Kept) where
  pub down_room : CanGo (aim k) turn.Down (state t x l r b f) → l.expands ≤ 2 ^ 120
  unfolding CanGo Stands
  down_room c = omega (arith, c.1.expands, c.1.few)

  pub down_meter : CanGo (aim k) turn.Down (state t x l r b f) → b.count ≤ 2 ^ 120
  unfolding CanGo Stands
  down_meter c = omega (arith, c.1.count, c.1.few)

  pub down_own : CanGo (aim k) turn.Down (state t x l r b f) → x.board ≡ k.board.now
  unfolding CanGo Stands
  down_own c = c.1.board

  pub down_cache : CanGo (aim k) turn.Down (state t x l r b f) → r.pass.cache ≡ k.cache.now
  unfolding CanGo Stands
  down_cache c = c.1.cache

  pub down_held : CanGo (aim k) turn.Down (state t x l r b f) → 1 ≤ times_held t.here l
  unfolding CanGo Stands
  down_held c = omega (arith, c.1.held t.here, times_here t.here (waiting k.path.now t.frames))

  pub down_within : CanGo (aim k) turn.Down (state t x l r b f) → LiesWithin t.store.box k.model.now
  unfolding CanGo Stands
  down_within c = c.1.place.node.within

  pub down_below : (seen : ℤ) → CanGo (aim k) turn.Down (state t x l r b f) → seen ≤ℤ k.board.now.top → seen ≤ℤ top k.model.now
  unfolding CanGo Stands
  down_below seen c h = omega (arith, ints, h, c.1.top)

pub first_side : (box : List (List ℤ)) (d : Decision) → HasBoth box d → HasSide box d
unfolding HasBoth
first_side box d h = h.0

-- nothing was counted
pub ends_same : (a : Aim) (u : Turn) (t n : Bench) (x : Held) (l j : LocalParts) (r s : ReaderParts) (b : Meter) (f : Kept) → n.frames ≡ t.frames → n.store.saved ≡ t.store.saved → n.engine ≡ t.engine → j.expands ≡ l.expands → s.pass.cache ≡ r.pass.cache
    → Ends a u (state t x l r b f) stop.NoMemory (state n x j s b f)
unfolding Ends
ends_same a u t n x l j r s b f e h plan ex own = record {
  weights = λ others st. omega arith;
  counts = inl (omega (arith, ex));
  levels = λ root lv. rw (e, h) lv;
  works = λ others st. works_none a.model a.path a.limit x r s b f own;
  plan = plan;
  closed = refl;
  cause = λ others st. tt;
}

pub hit_ends : (k : Task) (t n : Bench) (x : Held) (l j : LocalParts) (r s : ReaderParts) (b : Meter) (f : Kept) (why : Stop) → why ≡ stop.NoMemory → j ≡ l → n ≡ t → s.pass.cache ≡ r.pass.cache → Ends (aim k) turn.Down (state t x l r b f) why (state n x j s b f)
hit_ends k t n x l j r s b f why e kept same own = rw e (ends_same (aim k) turn.Down t n x l j r s b f (ap (λ (v : Bench). v.frames) same) (ap (λ (v : Bench). v.store.saved) same) (ap (λ (v : Bench). v.engine) same) (ap (λ (v : LocalParts). v.expands) kept) own)

-- ---- an expansion
module _ (a : Aim) (t n : Bench) (x y : Held) (l j : LocalParts) (r s : ReaderParts) (b c : Meter) (f : Kept) (d : Decision) (seen : ℤ) (whole : Option Whole) (tk : Ticket)
    (is : seen ≡ x.seen) (has : HasBoth t.store.box d) (own : s.pass.cache ≡ r.pass.cache) (paid : IsPaid x y b c)
    (right : IsTicket a.model a.limit t.store.box seen r tk) where
  seen_same : y.seen ≡ seen
  seen_same = ap (λ (v : Held). v.seen) paid.pass ∙ sym is

  credit_more : y.credits ≡ x.credits + 1
  credit_more = ap (λ (v : Held). v.credits) paid.pass

  expansion_of : (others : List Decision → ℕ) → Stands a turn.Down (state t x l r b f) others → (e : Expansion) × IsExpansion a.model a.path a.limit r.pass.cache e
  unfolding Stands
  expansion_of others st = (
    record { path = t.here; area = t.store.box; seen = seen; reader = r; ticket = tk },
    record { under = rw st.place.path (begins a.path t.frames); node = rw is st.place.node; own = refl; paid = right },
  )

  pub opens_goes : (u : Turn) → u ≡ turn.Down → Opens d seen whole t n l j → (IsNode a.model t.here t.store.box seen → RestFact a.model t.here whole seen) → Goes a 1 turn.Down (state t x l r b f) u (state n y j s c f)
  unfolding Goes Stands AreOpen AreDone path_of waiting waiting_weight waiting_turns turns_left
  opens_goes u e opens rest = rw e (record {
    stands = λ others st.
        let node : IsNode a.model t.here t.store.box seen = rw is st.place.node in
        let fr : Frame = first_frame d seen whole in
        let open_here : IsOpen a.model t.here fr t.store.box seen = record { node = node; sides = has; first = tt; rest = rest node; opened = omega (arith, ints) } in
        let path : n.here ≡ path_of a.path n.frames = opens.enters.here ∙ ap (λ (q : List Decision). q ++ d ∷ []) st.place.path ∙ ap (λ (fs : List Frame). path_of a.path fs) (sym opens.enters.frames) in
        record {
          model = st.model;
          place = record {
            path = path;
            opens = rw (opens.enters.frames, opens.enters.saved, seen_same) (subst (λ (q : List Decision). IsOpen a.model q fr t.store.box seen) st.place.path open_here, subst (λ (z : ℤ). AreOpen a.model a.path t.frames t.store.saved z) (sym is) st.place.opens);
            node = rw (opens.enters.here, seen_same) (side_node a.model t.here d t.store.box n.store.box seen node opens.enters.domains);
          };
          plan = opens.enters.plan ∙ st.plan;
          held = λ q.
              let was = st.held q in
              let times = opens.split.times q in
              let one = times_cons q t.here (waiting a.path t.frames) in
              let two = times_cons q (t.here ++ d ∷ []) ((t.here ++ opposite d ∷ []) ∷ []) in
              let now : times_in q (n.here ∷ waiting a.path n.frames) ≡ times_in q ((t.here ++ d ∷ []) ∷ (t.here ++ opposite d ∷ []) ∷ waiting a.path t.frames) = rw (opens.enters.here, opens.enters.frames, ← st.place.path) refl in
              let three = times_cons q (t.here ++ d ∷ []) ((t.here ++ opposite d ∷ []) ∷ waiting a.path t.frames) in
              let four = times_cons q (t.here ++ opposite d ∷ []) (waiting a.path t.frames) in
              omega (arith, was, times, one, two, now, three, four);
          done = rw opens.enters.frames (tt, all_done_after a.path t.frames l j opens.split.settled st.done);
          board = ap (λ (v : Held). v.board) paid.pass ∙ st.board;
          top = st.top;
          cache = own ∙ st.cache;
          few = paid.few;
          count = omega (arith, st.count, credit_more, ap (λ (v : Meter). v.count) paid.meter);
          expands = omega (arith, st.expands, credit_more, opens.split.expands);
          room = st.room;
        };
    turns = λ others st.
        let split = weight_split a.model t.here d t.store.box x.seen st.place.node has in
        let one : weight a.model n.here ≡ weight a.model (t.here ++ d ∷ []) = ap (λ (q : List Decision). weight a.model q) opens.enters.here in
        let two : waiting_weight a.model a.path n.frames ≡ weight a.model (t.here ++ opposite d ∷ []) + waiting_weight a.model a.path t.frames = rw (opens.enters.frames, ← st.place.path) refl in
        let three : waiting_turns n.frames ≡ (2 + 3) + waiting_turns t.frames = rw opens.enters.frames refl in
        omega (arith, split, one, two, three);
    weights = λ others st.
        let split = weight_split a.model t.here d t.store.box x.seen st.place.node has in
        let one : weight a.model n.here ≡ weight a.model (t.here ++ d ∷ []) = ap (λ (q : List Decision). weight a.model q) opens.enters.here in
        let two : waiting_weight a.model a.path n.frames ≡ weight a.model (t.here ++ opposite d ∷ []) + waiting_weight a.model a.path t.frames = rw (opens.enters.frames, ← st.place.path) refl in
        omega (arith, split, one, two, credit_more);
    counts = omega (arith, credit_more, opens.split.expands);
    levels = λ root lv. levels_more (first_frame d seen whole) t.frames n.frames t.store.box t.store.saved n.store.saved root opens.enters.frames opens.enters.saved lv;
    works = λ others st. let (e, paid_for) = expansion_of others st in works_paid a.model a.path a.limit x y r s b c f e paid own paid_for;
    plan = opens.enters.plan;
    closed = ap (λ (v : Meter). v.closed) paid.meter;
  })

  some_weight : (others : List Decision → ℕ) → Stands a turn.Down (state t x l r b f) others → y.credits ≤ open_weight a.model a.path turn.Down t + x.credits
  unfolding Stands
  some_weight others st = omega (arith, weight_split a.model t.here d t.store.box x.seen st.place.node has, credit_more)

  -- a credit was drawn, and then memory was wanting
  pub drawn_ends : IsStarted t n l j → Ends a turn.Down (state t x l r b f) stop.NoMemory (state n y j s c f)
  unfolding Ends
  drawn_ends started = record {
    weights = λ others st. some_weight others st;
    counts = elim started.expands [ inl e ↦ inr (omega (arith, e, credit_more)) | inr e ↦ inl (omega (arith, e, credit_more)) ];
    levels = λ root lv. rw (started.fails.frames, started.fails.saved) lv;
    works = λ others st. let (e, paid_for) = expansion_of others st in works_paid a.model a.path a.limit x y r s b c f e paid own paid_for;
    plan = started.fails.plan;
    closed = ap (λ (v : Meter). v.closed) paid.meter;
    cause = λ others st. tt;
  }

-- no credit was left
pub dry_ends : (a : Aim) (t n : Bench) (x y : Held) (l j : LocalParts) (r s : ReaderParts) (b c : Meter) (f : Kept) (why : Stop) → IsEmptyHanded why x y b c → n ≡ t → j ≡ l → s.pass.cache ≡ r.pass.cache → Ends a turn.Down (state t x l r b f) why (state n y j s c f)
unfolding Ends
dry_ends a t n x y l j r s b c f why dry same kept own = rw dry.dry (record {
  weights = λ others st. omega (arith, ap (λ (v : Held). v.credits) dry.pass);
  counts = omega (arith, ap (λ (v : LocalParts). v.expands) kept, ap (λ (v : Held). v.credits) dry.pass);
  levels = λ root lv. rw same lv;
  works = λ others st. works_dry a.model a.path a.limit x y r s b c f dry.pass dry.meter own;
  plan = ap (λ (v : Bench). v.engine) same;
  closed = ap (λ (v : Meter). v.closed) dry.meter;
  cause = λ others st. (ap (λ (v : Held). v.spent) dry.pass, λ alone. ap (λ (v : Held). v.credits) dry.pass ∙ dry.cause alone ∙ sym (ap (λ (v : Held). v.board.budget) dry.pass));
})

-- ---- a node that is settled
pub settled_goes : (a : Aim) (t n : Bench) (x y : Held) (l j : LocalParts) (r s : ReaderParts) (b c : Meter) (f g : Kept) (z : ℤ) → n.here ≡ t.here → n.frames ≡ t.frames → n.store.saved ≡ t.store.saved → n.engine ≡ t.engine
    → IsClosed t.here l j → Settled a.model t.here y.seen → z ≡ y.seen → y.credits ≡ x.credits → c.count ≡ b.count → c.closed ≡ b.closed → Works a.model a.path a.limit x y r s b c f g
    → Goes a 1 turn.Down (state t x l r b f) (turn.Up (record { bound = z })) (state n y j s c g)
unfolding Goes Stands turns_left
settled_goes a t n x y l j r s b c f g z here frames saved plan told closed is few count paths did = record {
  stands = λ others st. record {
    model = st.model;
    place = (
      record {
        path = here ∙ st.place.path ∙ ap (λ (fs : List Frame). path_of a.path fs) (sym frames);
        opens = rw (frames, saved) (opens_lower a.model a.path t.frames t.store.saved x.seen y.seen st.place.opens did.falls);
        closed = rw here closed;
      },
      is,
    );
    plan = plan ∙ st.plan;
    held = λ q. let was = st.held q in let now = told.times q in let one = times_cons q t.here (waiting a.path t.frames) in let same : times_in q (waiting a.path n.frames) ≡ times_in q (waiting a.path t.frames) = rw frames refl in omega (arith, was, now, one, same);
    done = (rw here told.here, rw frames (all_done_after a.path t.frames l j told.settled st.done));
    board = did.same.board ∙ st.board;
    top = st.top;
    cache = did.cache ∙ st.cache;
    few = omega (arith, st.few, few);
    count = omega (arith, st.count, count, few);
    expands = omega (arith, st.expands, told.expands, few);
    room = did.room ∙ st.room;
  };
  turns = λ others st. let one : waiting_weight a.model a.path n.frames ≡ waiting_weight a.model a.path t.frames = rw frames refl in let two : waiting_turns n.frames ≡ waiting_turns t.frames = rw frames refl in omega (arith, one, two);
  weights = λ others st. let one : waiting_weight a.model a.path n.frames ≡ waiting_weight a.model a.path t.frames = rw frames refl in omega (arith, one, few);
  counts = omega (arith, told.expands, few);
  levels = λ root lv. rw (frames, saved) lv;
  works = λ others st. did;
  plan = plan;
  closed = paths;
}

-- ---- what the code shows
wide_ticket : (m : Parts) (box : List (List ℤ)) (seen : ℤ) (limit : ℕ) (r : ReaderParts) (w : Wide) → IsProjectedBelow m box seen limit (projected.Wide w) → IsTicket m limit box seen r (ticket.Wide w)
unfolding IsProjectedBelow
wide_ticket m box seen limit r w h = h.0

no_rest : (m : Parts) (p : List Decision) (seen : ℤ) → RestFact m p None seen
unfolding RestFact
no_rest m p seen = tt

module _ (k : Task) (t n : Bench) (x y : Held) (l j : LocalParts) (r : ReaderParts) (b c : Meter) (f : Kept) (d : Decision) (seen : ℤ) (w : Wide)
    (is : seen ≡ x.seen) (has : HasBoth t.store.box d) (wide : IsProjectedBelow k.model.now t.store.box seen k.limit (projected.Wide w)) where
  pub wide_goes : IsPaid x y b c → Opens d seen None t n l j → Goes (aim k) 1 turn.Down (state t x l r b f) turn.Down (state n y j r c f)
  wide_goes paid opens = opens_goes (aim k) t n x y l j r r b c f d seen None (ticket.Wide w) is has refl paid (wide_ticket k.model.now t.store.box seen k.limit r w wide) turn.Down refl opens (λ node. no_rest k.model.now t.here seen)

  pub wide_drawn : IsPaid x y b c → IsStarted t n l j → (why : Stop) → why ≡ stop.NoMemory → Ends (aim k) turn.Down (state t x l r b f) why (state n y j r c f)
  wide_drawn paid started why e = rw e (drawn_ends (aim k) t n x y l j r r b c f d seen None (ticket.Wide w) is has refl paid (wide_ticket k.model.now t.store.box seen k.limit r w wide) started)

module _ (m : Parts) (p : List Decision) (box : List (List ℤ)) (seen : ℤ) (limit : ℕ) (w : Whole) (h : IsProjectedBelow m box seen limit (projected.Whole w.rest w.offset)) where
  pub whole_offset : IsOffset w.offset
  unfolding IsProjectedBelow
  whole_offset = h.1.1

  whole_rest : IsNode m p box seen → IsRestOf (Meets p) m seen w.rest w.offset
  unfolding IsProjectedBelow
  whole_rest node = rest_of_path m p box seen w.rest w.offset node h.1.0

  whole_fact : IsNode m p box seen → RestFact m p (Some w) seen
  unfolding RestFact
  whole_fact node = (whole_rest node, whole_offset)

  miss_ticket : (need : ℤ) (missed : MissedParts) (r s : ReaderParts) → need ≡ seen -ℤ w.offset → IsLookedUp w.rest need (look.Miss missed) r s → IsTicket m limit box seen r (ticket.Missed missed)
  unfolding IsProjectedBelow IsLookedUp IsLook
  miss_ticket need missed r s e looked = record {
    offset = w.offset;
    after = s;
    is = rw looked.named h.0.0;
    words = rw looked.named h.0.1;
    miss = subst (λ (v : RestParts). IsMiss v (seen -ℤ w.offset) missed r s) (sym looked.named) (subst (λ (z : ℤ). IsMiss w.rest z missed r s) e looked);
  }

  pub hit_closes : (need bound : ℤ) (place : ℕ) (r s : ReaderParts) → IsNode m p box seen → need ≡ seen -ℤ w.offset → IsLookedUp w.rest need (look.Hit bound place) r s → Settled m p seen
  unfolding IsLookedUp IsLook IsServed IsReading
  hit_closes need bound place r s node e looked =
      let (e0, read, says) = looked.finds.serves.1 in
      hit_settled m p seen e0.bound w.rest e0.rest w.offset (whole_rest node) read.truth says.0 (omega (arith, ints, e, says.1, says.2))

module _ (k : Task) (t n : Bench) (x y : Held) (l j : LocalParts) (r s : ReaderParts) (b c : Meter) (f : Kept) (d : Decision) (seen need : ℤ) (w : Whole)
    (is : seen ≡ x.seen) (whole : IsProjectedBelow k.model.now t.store.box seen k.limit (projected.Whole w.rest w.offset)) (e : need ≡ seen -ℤ w.offset) (own : s.pass.cache ≡ r.pass.cache) where
  pub miss_goes : (missed : MissedParts) → HasBoth t.store.box d → IsLookedUp w.rest need (look.Miss missed) r s → IsPaid x y b c → Opens d seen (Some w) t n l j → Goes (aim k) 1 turn.Down (state t x l r b f) turn.Down (state n y j s c f)
  miss_goes missed has looked paid opens = opens_goes (aim k) t n x y l j r s b c f d seen (Some w) (ticket.Missed missed) is has own paid (miss_ticket k.model.now t.here t.store.box seen k.limit w whole need missed r s e looked) turn.Down refl opens (λ node. whole_fact k.model.now t.here t.store.box seen k.limit w whole node)

  pub miss_drawn : (missed : MissedParts) → HasBoth t.store.box d → IsLookedUp w.rest need (look.Miss missed) r s → IsPaid x y b c → IsStarted t n l j → (why : Stop) → why ≡ stop.NoMemory → Ends (aim k) turn.Down (state t x l r b f) why (state n y j s c f)
  miss_drawn missed has looked paid started why i = rw i (drawn_ends (aim k) t n x y l j r s b c f d seen (Some w) (ticket.Missed missed) is has own paid (miss_ticket k.model.now t.here t.store.box seen k.limit w whole need missed r s e looked) started)

-- an entry of the cache settles the node
pub hit_goes : (k : Task) (t n : Bench) (x : Held) (l j : LocalParts) (r s : ReaderParts) (b : Meter) (f : Kept) (seen need bound : ℤ) (place : ℕ) (w : Whole) → CanGo (aim k) turn.Down (state t x l r b f) → seen ≡ x.seen → IsProjectedBelow k.model.now t.store.box seen k.limit (projected.Whole w.rest w.offset) → need ≡ seen -ℤ w.offset
    → IsLookedUp w.rest need (look.Hit bound place) r s → s.pass.cache ≡ r.pass.cache → IsClosed t.here l j → n ≡ t → Goes (aim k) 1 turn.Down (state t x l r b f) (turn.Up (record { bound = seen })) (state n x j s b f)
unfolding CanGo Stands
hit_goes k t n x l j r s b f seen need bound place w can is whole e looked own told same =
    let node : IsNode k.model.now t.here t.store.box seen = rw is can.1.place.node in
    let settled : Settled k.model.now t.here x.seen = rw (← is) (hit_closes k.model.now t.here t.store.box seen k.limit w whole need bound place r s node e looked) in
    settled_goes (aim k) t n x x l j r s b b f f seen (ap (λ (v : Bench). v.here) same) (ap (λ (v : Bench). v.frames) same) (ap (λ (v : Bench). v.store.saved) same) (ap (λ (v : Bench). v.engine) same)
    told settled is refl refl refl (works_none k.model.now k.path.now k.limit x r s b f own)
