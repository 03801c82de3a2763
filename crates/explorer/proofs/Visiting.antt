-- A node is looked at.
use Rattle.std.proofs.Common.{◌≡◌, inl, ◌≤◌, List, length, refl, sym, ap, ◌∙◌, ℤ, arith}
use Rattle.std.specs.Prelude.{◌^◌}
use Rattle.prop_engine.specs.Plans.{plan_of}
use Rattle.incumbent_board.specs.Passes.{Held}
use Rattle.evictor.specs.Readers.{ReaderParts}
use Rattle.search_core.specs.declared.decision.Decision.{Decision}
use Rattle.search_core.specs.Locals.{LocalParts}
use Rattle.explorer.specs.Offers.{Kept}
use Rattle.explorer.specs.Nodes.{IsNode}
use Rattle.explorer.specs.Holding.{times_held}
use Rattle.explorer.specs.Telling.{SameTasks, IsClosed}
use Rattle.explorer.specs.Works.{Works, IsCause, CountedAt}
use Rattle.explorer.specs.Frames.{HasBoth, path_of, weight, waiting_weight}
use Rattle.explorer.specs.Looking.{Listened, Finds, FindsNone, StaysAt, IsLooked, IsOpenNode}
use Rattle.explorer.specs.Turns.{turns_left, waiting_turns}
use Rattle.explorer.specs.Going.{Aim, aim, State, state, Stands, CanGo, Goes, Ends}
use Rattle.explorer.specs.declared.bench.Bench.{Bench}
use Rattle.explorer.specs.declared.meter.Meter.{Meter}
use Rattle.explorer.specs.declared.task.Task.{Task}
use Rattle.explorer.specs.declared.node.Node.TheVariants as node
use Rattle.explorer.specs.declared.frame.Frame.{Frame}
use Rattle.explorer.specs.declared.frame.Stop.{Stop}
use Rattle.explorer.specs.declared.frame.Stop.TheVariants as stop
use Rattle.explorer.specs.declared.frame.Turn.{Turn}
use Rattle.explorer.specs.declared.frame.Turn.TheVariants as turn
use Rattle.explorer.proofs.Working.{works_listened, works_found}
use Rattle.explorer.proofs.Sides.{node_lower}
use Rattle.explorer.proofs.Frames.{all_done_after, opens_lower}
use Rattle.explorer.proofs.Opening.{settled_goes, down_held, down_room}
use Rattle.explorer.proofs.Going.{goes_trans, goes_ends, can_go}

-- what only looks is no step
still_goes : (a : Aim) (t n : Bench) (x y : Held) (l j : LocalParts) (r : ReaderParts) (b c : Meter) (f g : Kept) → StaysAt t n → SameTasks l j → y.credits ≡ x.credits → c.count ≡ b.count → c.closed ≡ b.closed → Works a.model a.path a.limit x y r r b c f g
    → (IsNode a.model t.here t.store.box x.seen → IsNode a.model n.here n.store.box y.seen) → Goes a 0 turn.Down (state t x l r b f) turn.Down (state n y j r c g)
unfolding Goes Stands turns_left
still_goes a t n x y l j r b c f g stays same few count paths did lower = record {
  stands = λ others st. record {
    model = st.model;
    place = record {
      path = stays.here ∙ st.place.path ∙ ap (λ (fs : List Frame). path_of a.path fs) (sym stays.frames);
      opens = rw (stays.frames, stays.saved) (opens_lower a.model a.path t.frames t.store.saved x.seen y.seen st.place.opens did.falls);
      node = lower st.place.node;
    };
    plan = stays.plan ∙ st.plan;
    held = λ q. same.times q ∙ st.held q ∙ rw (stays.here, stays.frames) refl;
    done = rw stays.frames (all_done_after a.path t.frames l j same.settled st.done);
    board = did.same.board ∙ st.board;
    top = st.top;
    cache = st.cache;
    few = omega (arith, st.few, few);
    count = omega (arith, st.count, count, few);
    expands = omega (arith, st.expands, same.expands, few);
    room = did.room ∙ st.room;
  };
  turns = λ others st. let (one, two, three) = parts in omega (arith, one, two, three);
  weights = λ others st. let (one, two, three) = parts in omega (arith, one, two, few);
  counts = omega (arith, same.expands, few);
  levels = λ root lv. rw (stays.frames, stays.saved) lv;
  works = λ others st. did;
  plan = stays.plan;
  closed = paths;
}
  where
    parts : (weight a.model n.here ≡ weight a.model t.here) × (waiting_weight a.model a.path n.frames ≡ waiting_weight a.model a.path t.frames) × (waiting_turns n.frames ≡ waiting_turns t.frames)
    parts = (rw stays.here refl, rw stays.frames refl, rw stays.frames refl)

stay_self : (t : Bench) → StaysAt t t
stay_self t = record { here = refl; frames = refl; saved = refl; plan = refl }

-- ---- after the bound was loaded
module _ (k : Task) (t : Bench) (x y : Held) (l j : LocalParts) (r : ReaderParts) (b : Meter) (f : Kept) (h : Listened x y) (same : SameTasks l j) where
  heard_goes : Goes (aim k) 0 turn.Down (state t x l r b f) turn.Down (state t y j r b f)
  heard_goes = still_goes (aim k) t t x y l j r b b f f (stay_self t) same h.credits refl refl (works_listened k.model.now k.path.now k.limit x y r b f h) (λ n. node_lower k.model.now t.here t.store.box x.seen y.seen n h.falls)

  pub heard_can : CanGo (aim k) turn.Down (state t x l r b f) → CanGo (aim k) turn.Down (state t y j r b f)
  heard_can c = can_go (aim k) 0 turn.Down turn.Down (state t x l r b f) (state t y j r b f) c heard_goes

  pub heard_then : (u : Turn) (z : State) → Goes (aim k) 1 turn.Down (state t y j r b f) u z → Goes (aim k) 1 turn.Down (state t x l r b f) u z
  heard_then u z g = goes_trans (aim k) 0 1 1 turn.Down turn.Down u (state t x l r b f) (state t y j r b f) z heard_goes g (omega arith)

  pub heard_ends : (why : Stop) (z : State) → Ends (aim k) turn.Down (state t y j r b f) why z → Ends (aim k) turn.Down (state t x l r b f) why z
  heard_ends why z g = goes_ends (aim k) 0 turn.Down turn.Down (state t x l r b f) (state t y j r b f) z why heard_goes g

  exact : (why : Stop) → CountedAt why l j x y
  exact stop.Dry = omega (arith, same.expands, h.credits)
  exact (stop.Told why) = omega (arith, same.expands, h.credits)
  exact stop.NoMemory = inl (omega (arith, same.expands, h.credits))

  -- the search was told to stop
  pub heard_stops : (why : Stop) → IsCause why x y → Ends (aim k) turn.Down (state t x l r b f) why (state t y j r b f)
  unfolding Ends
  heard_stops why cause = record {
    weights = λ others st. omega (arith, h.credits);
    counts = exact why;
    levels = λ root lv. lv;
    works = λ others st. works_listened k.model.now k.path.now k.limit x y r b f h;
    plan = refl;
    closed = refl;
    cause = λ others st. cause;
  }

-- ---- after the first look
pub down_node : (k : Task) (t : Bench) (x : Held) (l : LocalParts) (r : ReaderParts) (b : Meter) (f : Kept) (seen : ℤ) → CanGo (aim k) turn.Down (state t x l r b f) → seen ≡ x.seen → IsNode k.model.now t.here t.store.box seen
unfolding CanGo Stands
down_node k t x l r b f seen c e = rw e c.1.place.node

pub down_plan : (k : Task) (t : Bench) (x : Held) (l : LocalParts) (r : ReaderParts) (b : Meter) (f : Kept) → CanGo (aim k) turn.Down (state t x l r b f) → t.engine ≡ plan_of k.model.now
unfolding CanGo Stands
down_plan k t x l r b f c = c.1.plan

pub down_found : (k : Task) (t : Bench) (x : Held) (l : LocalParts) (r : ReaderParts) (b : Meter) (f : Kept) → CanGo (aim k) turn.Down (state t x l r b f) → f.count ≡ length k.model.now.doms
unfolding CanGo Stands
down_found k t x l r b f c = c.1.room

closed_after : (p q : List Decision) (l m j : LocalParts) → SameTasks l m → IsClosed p m j → q ≡ p → IsClosed q l j
closed_after p q l m j same c e = rw e (record {
  times = λ v. c.times v ∙ same.times v;
  settled = λ v h. c.settled v (same.settled v h);
  here = c.here;
  expands = c.expands ∙ same.expands;
})

module _ (k : Task) (t n : Bench) (x y : Held) (l m : LocalParts) (r : ReaderParts) (b c : Meter) (f g : Kept) (stays : StaysAt t n) (finds : Finds k.model.now x y b c f g) (same : SameTasks l m) where
  did : Works k.model.now k.path.now k.limit x y r r b c f g
  did = works_found k.model.now k.path.now k.limit x y r b c f g finds

  pub closed_held : CanGo (aim k) turn.Down (state t x l r b f) → 1 ≤ times_held n.here m
  closed_held c = rw (stays.here, same.times t.here) (down_held k t x l r b f c)

  pub closed_room : CanGo (aim k) turn.Down (state t x l r b f) → m.expands ≤ 2 ^ 120
  closed_room c = omega (arith, same.expands, down_room k t x l r b f c)

  -- the node is settled
  pub closed_goes : (j : LocalParts) (o : Bench) (z : ℤ) → IsLooked k.model.now n y.seen (node.Closed z) → IsClosed n.here m j → o ≡ n → Goes (aim k) 1 turn.Down (state t x l r b f) (turn.Up (record { bound = z })) (state o y j r c g)
  unfolding IsLooked
  closed_goes j o z looked told e = rw e (settled_goes (aim k) t n x y l j r r b c f g z stays.here stays.frames stays.saved stays.plan (closed_after n.here t.here l m j same told (sym stays.here)) (rw (← stays.here) looked.0) looked.1 finds.credits finds.count finds.closed did)

  -- memory was wanting
  pub looked_ends : (j : LocalParts) (o : Bench) (why : Stop) → why ≡ stop.NoMemory → j ≡ m → o ≡ n → Ends (aim k) turn.Down (state t x l r b f) why (state o y j r c g)
  unfolding Ends
  looked_ends j o why e kept at = rw (e, kept, at) (record {
    weights = λ others st. omega (arith, finds.credits);
    counts = inl (omega (arith, same.expands, finds.credits));
    levels = λ root lv. rw (stays.frames, stays.saved) lv;
    works = λ others st. did;
    plan = stays.plan;
    closed = finds.closed;
    cause = λ others st. tt;
  })

  -- the node is to be cut
  module _ (d : Decision) (looked : IsLooked k.model.now n y.seen (node.Open d)) where
    looked_goes : Goes (aim k) 0 turn.Down (state t x l r b f) turn.Down (state n y m r c g)
    unfolding IsLooked
    looked_goes = still_goes (aim k) t n x y l m r b c f g stays same finds.credits finds.count finds.closed did (λ old. looked.0)

    pub looked_can : CanGo (aim k) turn.Down (state t x l r b f) → CanGo (aim k) turn.Down (state n y m r c g)
    looked_can can = can_go (aim k) 0 turn.Down turn.Down (state t x l r b f) (state n y m r c g) can looked_goes

    pub looked_then : (u : Turn) (z : State) → Goes (aim k) 1 turn.Down (state n y m r c g) u z → Goes (aim k) 1 turn.Down (state t x l r b f) u z
    looked_then u z go = goes_trans (aim k) 0 1 1 turn.Down turn.Down u (state t x l r b f) (state n y m r c g) z looked_goes go (omega arith)

    pub then_ends : (why : Stop) (z : State) → Ends (aim k) turn.Down (state n y m r c g) why z → Ends (aim k) turn.Down (state t x l r b f) why z
    then_ends why z go = goes_ends (aim k) 0 turn.Down turn.Down (state t x l r b f) (state n y m r c g) z why looked_goes go

pub open_sides : (k : Task) (n : Bench) (b : ℤ) (d : Decision) → IsLooked k.model.now n b (node.Open d) → HasBoth n.store.box d
unfolding IsLooked
open_sides k n b d h = h.1

pub open_seen : (x y : Held) (b c : Meter) (f g : Kept) (seen : ℤ) (d : Decision) → (IsOpenNode (node.Open d) → FindsNone x y b c f g) → seen ≡ x.seen → seen ≡ y.seen
unfolding IsOpenNode
open_seen x y b c f g seen d h e = e ∙ sym (ap (λ (v : Held). v.seen) (h tt).pass)
