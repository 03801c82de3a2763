-- What each step of a search adds to its log.
use Rattle.std.proofs.Common.{◌≡◌, inl, inr, cond, ℕ, ◌+◌, ◌<◌, ◌≤◌, List, [], ◌∷◌, ◌++◌, length, append_assoc, append-nil, refl, sym, ap, ◌∙◌, subst, ℤ, arith}
use Rattle.std.specs.Prelude.{◌≤ℤ◌, ◌-ℤ◌, ⊤, Result, Ok, Err, IfOk, IfErr, Some, None, Contains}
use Rattle.std.specs.Int.{int_min}
use Rattle.std.specs.declared.option.Option.{Option}
use Rattle.std.proofs.lemmas.Int.{ints, clamps}
use Rattle.std.proofs.lemmas.List.Sums.{sum_by-cons}
use Rattle.fzn_model.specs.Parts.{Parts}
use Rattle.fzn_model.specs.Rests.{RestParts}
use Rattle.rest_global.specs.declared.projected.Projected.TheVariants as projected
use Rattle.rest_global.specs.declared.wide.Wide.{Wide}
use Rattle.incumbent_board.specs.Passes.{Held, SamePass, IsAlone}
use Rattle.entry_slab.specs.Entries.{Bounded}
use Rattle.evictor.specs.Passes.{CacheFacts}
use Rattle.evictor.specs.Readers.{ReaderParts}
use Rattle.evictor.specs.Reports.{gone_count, is_gone as is_report_gone}
use Rattle.evictor.specs.Misses.{MissedParts}
use Rattle.evictor.specs.declared.report.Report.{Report}
use Rattle.evictor.specs.declared.report.Report.TheVariants as report
use Rattle.evictor.specs.declared.look.Look.{Look}
use Rattle.evictor.specs.declared.look.Look.TheVariants as look
use Rattle.evictor.specs.declared.put.Put.{Put}
use Rattle.evictor.specs.declared.put.Put.TheVariants as put
use Rattle.evictor.specs.Standings.{ServesAt, NoneServes, IsStanding, LooksAt, IsLookBy, PutsAt, IsPutBy, standing_by}
use Rattle.search_core.specs.declared.decision.Decision.{Decision}
use Rattle.search_core.specs.Paths.{Settled}
use Rattle.search_core.specs.Locals.{LocalParts}
use Rattle.run_log.specs.declared.line.LogLine.TheVariants as line
use Rattle.run_log.specs.Texts.{Line, plain}
use Rattle.run_log.specs.Journals.{Noted, Notes}
use Rattle.run_log.proofs.Appending.{notes_then}
use Rattle.explorer.specs.Offers.{Kept, lesser_of}
use Rattle.explorer.specs.Trees.{Asked, rest, wide, StoredAt, Opened, Tree, leaf, hit, join, bound_of, Begun, nothing, solved, whole, head_lines, solution_lines, gone_lines, stored_lines, opened_lines, tree_lines}
use Rattle.explorer.specs.RightLogs.{IsPropagated, least_after, standing_after, standing_with, MayStore, IsAsked, IfFound, IsFound, IsOpenedAt, first_side, second_side, IsTrue, Respects, Stores, IsKept, least_so_far, standing_so_far, IsTrueSoFar, IsKeptSoFar}
use Rattle.explorer.specs.Books.{Pending, first_open, second_open, path_in, least_in, standing_in, book_lines, ArePendingTrue, ArePendingKept, AsksFor, Shows, IsShownBy, AreShownBy}
use Rattle.explorer.specs.Nodes.{IsNode}
use Rattle.explorer.specs.Frames.{path_of}
use Rattle.explorer.specs.Looking.{Listened, FindsNone, NotesFound, StaysAt, IsLooked, IsReached, IsOpenNode}
use Rattle.explorer.specs.Recording.{expands_in, gone_in, known_in, Tells, gone_one, gone_at, stored_at, StoresIn, IsFresh, frames_at, IsWhole, HasLast, IsBooked, IsBelieved, IsInKeeping, Onward, Continues, Breaks, Records, Stops}
use Rattle.explorer.specs.Opening.{IsProjectedBelow, IsLookedUp, IsPaid, IsEmptyHanded, first_frame}
use Rattle.explorer.specs.Going.{Aim, aim, State, state, Stands, CanGo}
use Rattle.explorer.specs.declared.bench.Bench.{Bench}
use Rattle.explorer.specs.declared.meter.Meter.{Meter}
use Rattle.explorer.specs.declared.task.Task.{Task}
use Rattle.explorer.specs.declared.node.Node.TheVariants as node
use Rattle.explorer.specs.declared.frame.Frame.{Frame}
use Rattle.explorer.specs.declared.frame.Whole.{Whole}
use Rattle.explorer.specs.declared.frame.Closed.{Closed}
use Rattle.explorer.specs.declared.frame.Side.{Side}
use Rattle.explorer.specs.declared.frame.Side.TheVariants as side
use Rattle.explorer.specs.declared.frame.Stop.{Stop}
use Rattle.explorer.specs.declared.frame.Turn.{Turn}
use Rattle.explorer.specs.declared.frame.Turn.TheVariants as turn
use Rattle.explorer.proofs.Opening.{hit_closes}
use Rattle.explorer.proofs.Climbing.{back_closed}
use Rattle.explorer.proofs.Books.{shown_path, shown_depth, least_falls, true_bound, opening_lines, turning_lines, joining_lines, whole_lines, solved_lines}
use Rattle.explorer.proofs.Recording.{expands_append, none_gone, known_append, tells_none, quiet_stops, quiet_records}

-- ---- what lines count
expands_solution : (s : Option (ℤ × List ℤ)) → expands_in (solution_lines s) ≡ 0
unfolding expands_in
expands_solution None = refl
expands_solution (Some (z, v)) = refl

gone_solution : (s : Option (ℤ × List ℤ)) → gone_in (solution_lines s) ≡ 0
unfolding gone_in
gone_solution None = refl
gone_solution (Some (z, v)) = refl

expands_place : (place : ℕ) → expands_in (plain (line.Gone place) ∷ []) ≡ 0
unfolding expands_in
expands_place place = refl

expands_nothing : expands_in [] ≡ 0
unfolding expands_in
expands_nothing = refl

expands_places : (places : List ℕ) → expands_in (gone_lines places) ≡ 0
expands_places [] = expands_nothing
expands_places (place ∷ places) = omega (arith, expands_append (plain (line.Gone place) ∷ []) (gone_lines places), expands_place place, expands_places places)

known_places : (known : Option ℤ) (places : List ℕ) → known_in known (gone_lines places) ≡ known
unfolding known_in
known_places known [] = refl
known_places None (place ∷ places) = known_append None (plain (line.Gone place) ∷ []) (gone_lines places) ∙ known_places None places
known_places (Some z) (place ∷ places) = known_append (Some z) (plain (line.Gone place) ∷ []) (gone_lines places) ∙ known_places (Some z) places

module _ (depth : ℕ) (seen : ℤ) where
  expands_head : (asked : Asked) → expands_in (head_lines depth (record { seen = seen; asked = asked })) ≡ 0
  unfolding expands_in
  expands_head (rest offset r) = refl
  expands_head (wide words) = refl

  gone_head : (asked : Asked) → gone_in (head_lines depth (record { seen = seen; asked = asked })) ≡ 0
  unfolding gone_in
  gone_head (rest offset r) = refl
  gone_head (wide words) = refl

  known_head : (known : Option ℤ) (asked : Asked) → known_in known (head_lines depth (record { seen = seen; asked = asked })) ≡ known
  unfolding known_in
  known_head None (rest offset r) = refl
  known_head None (wide words) = refl
  known_head (Some z) (rest offset r) = refl
  known_head (Some z) (wide words) = refl

-- a line that tells no cost
known_cut : (known : Option ℤ) (depth : ℕ) (d : Decision) → known_in known (plain (line.Expand depth d.var d.at d.up) ∷ []) ≡ known
unfolding known_in
known_cut None depth d = refl
known_cut (Some z) depth d = refl

pub known_leaf : (known : Option ℤ) (depth : ℕ) (z : ℤ) → known_in known (plain (line.Leaf depth z) ∷ []) ≡ known
unfolding known_in
known_leaf None depth z = refl
known_leaf (Some y) depth z = refl

known_hit : (known : Option ℤ) (depth : ℕ) (z : ℤ) (place : ℕ) → known_in known (plain (line.Hit depth z place) ∷ []) ≡ known
unfolding known_in
known_hit None depth z place = refl
known_hit (Some y) depth z place = refl

known_join : (known : Option ℤ) (depth : ℕ) (z : ℤ) → known_in known (plain (line.Join depth z) ∷ []) ≡ known
unfolding known_in
known_join None depth z = refl
known_join (Some y) depth z = refl

known_stored : (known : Option ℤ) (stored : Option StoredAt) → known_in known (stored_lines stored) ≡ known
unfolding known_in
known_stored known None = refl
known_stored None (Some s) = refl
known_stored (Some y) (Some s) = refl

expands_stored : (stored : Option StoredAt) → expands_in (stored_lines stored) ≡ 0
unfolding expands_in
expands_stored None = refl
expands_stored (Some s) = refl

gone_stored : (stored : Option StoredAt) → gone_in (stored_lines stored) ≡ 0
unfolding gone_in
gone_stored None = refl
gone_stored (Some s) = refl

module _ (depth : ℕ) (seen : ℤ) (asked : Asked) (places : List ℕ) (d : Decision) where
  heads : List Line
  heads = head_lines depth (record { seen = seen; asked = asked })

  expands_opened : expands_in (opened_lines depth (record { head = record { seen = seen; asked = asked }; gone = places; cut = d })) ≡ 1
  unfolding expands_in heads
  expands_opened = expands_append heads (gone_lines places ++ (plain (line.Expand depth d.var d.at d.up) ∷ [])) ∙ rw (expands_head depth seen asked, expands_append (gone_lines places) (plain (line.Expand depth d.var d.at d.up) ∷ []), expands_places places) refl

  known_opened : (known : Option ℤ) → known_in known (opened_lines depth (record { head = record { seen = seen; asked = asked }; gone = places; cut = d })) ≡ known
  unfolding heads
  known_opened known = known_append known heads (gone_lines places ++ (plain (line.Expand depth d.var d.at d.up) ∷ [])) ∙ rw (known_head depth seen known asked, known_append known (gone_lines places) (plain (line.Expand depth d.var d.at d.up) ∷ []), known_places known places) (known_cut known depth d)

  gone_opened : places ≡ [] → gone_in (opened_lines depth (record { head = record { seen = seen; asked = asked }; gone = places; cut = d })) ≡ 0
  unfolding gone_in heads
  gone_opened none = rw none (none_gone heads (plain (line.Expand depth d.var d.at d.up) ∷ []) (gone_head depth seen asked) refl)

-- no entry was gone
one_gone : (place : ℕ) (report : Report) (n : ℕ) → cond (is_report_gone report) 1 0 + n ≡ 0 → (gone_one place report ≡ []) × (n ≡ 0)
one_gone place report.Gone n h = absurd (omega (arith, h))
one_gone place report.Empty n h = (refl, omega (arith, h))
one_gone place report.Unlike n h = (refl, omega (arith, h))
one_gone place (report.Weak b) n h = (refl, omega (arith, h))
one_gone place report.NoCache n h = (refl, omega (arith, h))

no_places_gone : (places : List ℕ) (reports : List Report) → gone_count reports ≡ 0 → gone_at places reports ≡ []
unfolding gone_at gone_count
no_places_gone [] reports h = refl
no_places_gone (place ∷ places) [] h = refl
no_places_gone (place ∷ places) (report ∷ reports) h =
    let both = one_gone place report (gone_count reports) (sym (sum_by-cons (λ (r : Report). cond (is_report_gone r) 1 0) report reports) ∙ h) in
    rw (both.0, no_places_gone places reports both.1) refl

sides_apart : side.First ≡ side.Second → ⊥
sides_apart e = cc

-- ---- where a node stands
module _ (k : Task) (t : Bench) (fs : List Frame) (qs : List Pending) (at : t.here ≡ path_of k.path.now fs) (shown : AreShownBy fs qs) where
  here_in : path_in k.path.now qs ≡ t.here
  here_in = shown_path k.path.now fs qs shown ∙ sym at

  deep_in : length qs + length k.path.now ≡ length t.here
  deep_in = shown_depth k.path.now fs qs shown ∙ ap length (sym at)

alone_still : (x y : Held) → SamePass x y → IsAlone x → IsAlone y
alone_still x y same alone = (same.first ∙ alone.0, same.out ∙ alone.1)

-- ---- a leaf
module _ (k : Task) (t o : Bench) (x y : Held) (l j : LocalParts) (r : ReaderParts) (b c : Meter) (f g : Kept) (i e : Noted) (can : CanGo (aim k) turn.Down (state t x l r b f)) (few : y.credits ≡ x.credits) (same : SamePass x y) where
  before : State
  before = state t x l r b f

  after : State
  after = state o y j r c g

  node_path : t.here ≡ path_of k.path.now t.frames
  unfolding CanGo Stands
  node_path = can.1.place.path

  solved_onward : (s : Option (ℤ × List ℤ)) (qs : List Pending) (last : Begun) → last ≡ nothing → path_in k.path.now qs ≡ t.here → IfFound k.model.now t.here s → y.least ≡ least_after (leaf s y.seen) x.least → Onward (aim k) before after (solution_lines s) qs last (λ pendings begun. ⊤)
  unfolding before after IsTrueSoFar IsKeptSoFar least_after least_so_far standing_so_far gone_in
  solved_onward None qs last is here found least = rw is (record {
    pendings = qs;
    begun = nothing;
    so = tt;
    lines = sym (append-nil (book_lines (length k.path.now) qs nothing));
    believed = λ z old. record { alone = alone_still x y same old.alone; pending = old.pending; last = tt; known = least ∙ old.known };
    in_keeping = λ standing old. (record { pending = old.pending; last = tt; stands = old.stands }, refl);
  })
  solved_onward (Some (z, v)) qs last is here found least = rw is (record {
    pendings = qs;
    begun = solved z v;
    so = tt;
    lines = solved_lines (length k.path.now) qs z v;
    believed = λ low old. record { alone = alone_still x y same old.alone; pending = old.pending; last = rw here found; known = least ∙ ap (λ (u : ℤ). int_min u z) old.known };
    in_keeping = λ standing old. (record { pending = old.pending; last = tt; stands = old.stands }, refl);
  })

  -- memory was wanting behind a solution
  pub found_stops : NotesFound k.model.now t.here x y b c i e → Stops (aim k) turn.Down (state t x l r b f) i (state o y j r c g) e
  unfolding Stops Breaks before after
  found_stops note = (
    solution_lines note.solution,
    record { notes = note.notes; expands = omega (arith, few, expands_solution note.solution); known = note.known },
    λ qs last booked. solved_onward note.solution qs last booked.last (here_in k t t.frames qs node_path booked.shown) note.found note.least,
  )

  leaf_lines : ℕ → ℤ → Option (ℤ × List ℤ) → List Line
  leaf_lines depth z s = solution_lines s ++ (plain (line.Leaf depth z) ∷ [])

  leaf_expands : (depth : ℕ) (z : ℤ) (s : Option (ℤ × List ℤ)) → expands_in (leaf_lines depth z s) ≡ 0
  unfolding expands_in leaf_lines
  leaf_expands depth z None = refl
  leaf_expands depth z (Some (y, v)) = refl

  leaf_gone : (depth : ℕ) (z : ℤ) (s : Option (ℤ × List ℤ)) → gone_in (leaf_lines depth z s) ≡ 0
  unfolding gone_in leaf_lines
  leaf_gone depth z None = refl
  leaf_gone depth z (Some (y, v)) = refl

  -- the node is settled
  pub leaf_records : (u : Turn) (n : Bench) (m : Noted) (depth : ℕ) (z : ℤ) → u ≡ turn.Up (record { bound = z }) → IsFresh x → NotesFound k.model.now t.here x y b c i m → IsLooked k.model.now n y.seen (node.Closed z) → n.here ≡ t.here → o.frames ≡ t.frames → depth ≡ length t.here
      → Notes m e (plain (line.Leaf depth z) ∷ []) → Records (aim k) turn.Down (state t x l r b f) i u (state o y j r c g) e
  unfolding Records Continues before after leaf_lines IsLooked IsTrueSoFar IsTrue IsKeptSoFar IsKept least_after least_so_far standing_so_far standing_after tree_lines
  leaf_records u n m depth z up fresh note looked here frames deep told = rw up (
    leaf_lines depth z note.solution,
    record {
      notes = notes_then i m e (solution_lines note.solution) (plain (line.Leaf depth z) ∷ []) note.notes told;
      expands = omega (arith, few, leaf_expands depth z note.solution);
      known = note.known ∙ sym (known_append b.least (solution_lines note.solution) (plain (line.Leaf depth z) ∷ []) ∙ known_leaf (known_in b.least (solution_lines note.solution)) depth z);
    },
    λ qs last booked.
        let at : path_in k.path.now qs ≡ t.here = here_in k t t.frames qs node_path booked.shown in
        let tree : Tree = leaf note.solution z in
        rw booked.last (record {
          pendings = qs;
          begun = whole tree;
          so = record { shown = rw frames booked.shown; last = record { tree = tree; is = refl; bound = refl } };
          lines = whole_lines (length k.path.now) qs tree ∙ rw (deep_in k t t.frames qs node_path booked.shown, ← deep) refl;
          believed = λ low old.
              let known : x.least ≡ least_in low qs = old.known in
              record {
                alone = alone_still x y same old.alone;
                pending = old.pending;
                last = (subst (λ (p : List Decision). IfFound k.model.now p note.solution) (sym at) note.found, looked.1 ∙ note.seen ∙ leaf_least note.solution x.seen (least_in low qs) (fresh old.alone ∙ known), subst (λ (p : List Decision). Settled k.model.now p z) (here ∙ sym at) (subst (λ (v : ℤ). Settled k.model.now n.here v) (sym looked.1) looked.0));
                known = note.least ∙ leaf_least note.solution x.least (least_in low qs) known;
              };
          in_keeping = λ standing old. (record { pending = old.pending; last = tt; stands = old.stands }, leaf_gone depth z note.solution);
        }),
  )
    where
      leaf_least : (s : Option (ℤ × List ℤ)) (v w : ℤ) → v ≡ w → least_after (leaf s y.seen) v ≡ least_after (leaf s z) w
      leaf_least None v w same_low = same_low
      leaf_least (Some (a, vs)) v w same_low = ap (λ (q : ℤ). int_min q a) same_low

-- ---- an expansion
module _ (k : Task) (t : Bench) (x y : Held) (l : LocalParts) (r s : ReaderParts) (b c : Meter) (f : Kept) (can : CanGo (aim k) turn.Down (state t x l r b f)) (seen : ℤ) (asked : Asked) (places : List ℕ) (d : Decision)
    (fresh : IsFresh x) (is : seen ≡ x.seen) (paid : IsPaid x y b c) (asks : IsAsked k.model.now k.limit t.here seen asked)
    (keeps : (standing : List (Option Bounded)) → IsStanding r standing → IsStanding s standing × Respects standing k.cache.now.ways (record { head = record { seen = seen; asked = asked }; gone = places; cut = d }) asked × (places ≡ [])) where
  opened : Opened
  opened = record { head = record { seen = seen; asked = asked }; gone = places; cut = d }

  low_same : y.least ≡ x.least
  low_same = ap (λ (v : Held). v.least) paid.pass

  still_same : SamePass x y
  still_same = rw paid.pass (record { board = refl; first = refl; out = refl; splits = refl })

  opened_onward : (n : Bench) (j : LocalParts) (depth : ℕ) (P : List Pending → Begun → Type 0) (qs : List Pending) (last : Begun) → last ≡ nothing → AreShownBy t.frames qs → depth ≡ length t.here → P (first_open opened ∷ qs) nothing
      → Onward (aim k) (state t x l r b f) (state n y j s c f) (opened_lines depth opened) qs last P
  unfolding CanGo Stands opened IsTrueSoFar IsKeptSoFar least_so_far standing_so_far least_in standing_in ArePendingTrue ArePendingKept
  opened_onward n j depth P qs last none shown deep so =
      let at : path_in k.path.now qs ≡ t.here = here_in k t t.frames qs can.1.place.path shown in
      rw none (record {
        pendings = first_open opened ∷ qs;
        begun = nothing;
        so = so;
        lines = opening_lines (length k.path.now) qs opened ∙ rw (deep_in k t t.frames qs can.1.place.path shown, ← deep) refl;
        believed = λ low old. record {
          alone = alone_still x y still_same old.alone;
          pending = (record { seen = is ∙ fresh old.alone ∙ old.known; asked = subst (λ (p : List Decision). IsAsked k.model.now k.limit p seen asked) (sym at) asks }, old.pending);
          last = tt;
          known = low_same ∙ old.known;
        };
        in_keeping = λ standing old.
            let kept = keeps (standing_in standing qs) old.stands in
            (record { pending = (kept.1, old.pending); last = tt; stands = kept.0 }, gone_opened depth seen asked places d kept.2);
      })

  opened_tells : (i e : Noted) (depth : ℕ) → Notes i e (opened_lines depth opened) → Tells x y b c i e (opened_lines depth opened)
  unfolding opened
  opened_tells i e depth told = record {
    notes = told;
    expands = ap (λ (v : Held). v.credits) paid.pass ∙ rw (expands_opened depth seen asked places d) refl;
    known = ap (λ (v : Meter). v.least) paid.meter ∙ sym (known_opened depth seen asked places d b.least);
  }

  opened_records : (n : Bench) (j : LocalParts) (i e : Noted) (depth : ℕ) (part : Option Whole) → depth ≡ length t.here → AsksFor part asked → n.frames ≡ first_frame d seen part ∷ t.frames → Notes i e (opened_lines depth opened) → Records (aim k) turn.Down (state t x l r b f) i turn.Down (state n y j s c f) e
  unfolding Records Continues opened AreShownBy
  opened_records n j i e depth part deep for frames told = (
    opened_lines depth opened,
    opened_tells i e depth told,
    λ qs last booked. opened_onward n j depth (IsBooked turn.Down n) qs last booked.last booked.shown deep (record {
      shown = rw frames ((refl, record { cut = refl; seen = refl; asked = for }), booked.shown);
      last = refl;
    }),
  )

  opened_stops : (n : Bench) (j : LocalParts) (i e : Noted) (depth : ℕ) → depth ≡ length t.here → Notes i e (opened_lines depth opened) → Stops (aim k) turn.Down (state t x l r b f) i (state n y j s c f) e
  unfolding Stops Breaks opened
  opened_stops n j i e depth deep told = (
    opened_lines depth opened,
    opened_tells i e depth told,
    λ qs last booked. opened_onward n j depth (λ pendings begun. ⊤) qs last booked.last booked.shown deep tt,
  )

-- one whose residual problem is too wide
module _ (k : Task) (t n : Bench) (x y : Held) (l j : LocalParts) (r : ReaderParts) (b c : Meter) (f : Kept) (i e : Noted) (can : CanGo (aim k) turn.Down (state t x l r b f)) (seen : ℤ) (w : Wide) (d : Decision) (depth : ℕ)
    (fresh : IsFresh x) (is : seen ≡ x.seen) (paid : IsPaid x y b c) (reached : IsPropagated k.model.now t.here seen t.store.box) (below : IsProjectedBelow k.model.now t.store.box seen k.limit (projected.Wide w)) (deep : depth ≡ length t.here)
    (told : Notes i e (opened_lines depth (record { head = record { seen = seen; asked = wide w.words }; gone = []; cut = d }))) where
  wide_asked : IsAsked k.model.now k.limit t.here seen (wide w.words)
  unfolding IsAsked IsProjectedBelow
  wide_asked = (t.store.box, reached, (below.0.rest, below.0.offset, below.0.is, below.0.words, below.0.more))

  pub wide_records : n.frames ≡ first_frame d seen None ∷ t.frames → Records (aim k) turn.Down (state t x l r b f) i turn.Down (state n y j r c f) e
  unfolding opened
  wide_records frames = opened_records k t x y l r r b c f can seen (wide w.words) [] d fresh is paid wide_asked (λ standing st. (st, refl, refl)) n j i e depth None deep (w.words, refl) frames told

  pub wide_stops : Stops (aim k) turn.Down (state t x l r b f) i (state n y j r c f) e
  unfolding opened
  wide_stops = opened_stops k t x y l r r b c f can seen (wide w.words) [] d fresh is paid wide_asked (λ standing st. (st, refl, refl)) n j i e depth deep told

-- one whose residual problem was looked up
module _ (k : Task) (t : Bench) (x : Held) (l : LocalParts) (r s : ReaderParts) (b : Meter) (f : Kept) (can : CanGo (aim k) turn.Down (state t x l r b f)) (seen need : ℤ) (w : Whole) (depth : ℕ)
    (fresh : IsFresh x) (is : seen ≡ x.seen) (reached : IsPropagated k.model.now t.here seen t.store.box) (below : IsProjectedBelow k.model.now t.store.box seen k.limit (projected.Whole w.rest w.offset)) (needed : need ≡ seen -ℤ w.offset) (deep : depth ≡ length t.here) where
  whole_asked : IsAsked k.model.now k.limit t.here seen (rest w.offset w.rest)
  unfolding IsAsked IsProjectedBelow
  whole_asked = (t.store.box, reached, (below.0.0, below.0.1))

  ways_same : r.pass.cache.ways ≡ k.cache.now.ways
  unfolding CanGo Stands
  ways_same = ap (λ (v : CacheFacts). v.ways) can.1.cache

  serves_from : (standing : List (Option Bounded)) (place : ℕ) → ServesAt standing k.cache.now.ways w.rest (seen -ℤ w.offset) place → ServesAt standing r.pass.cache.ways w.rest need place
  serves_from standing place serves = rw (ways_same, needed) serves

  serves_to : (standing : List (Option Bounded)) (place : ℕ) → ServesAt standing r.pass.cache.ways w.rest need place → ServesAt standing k.cache.now.ways w.rest (seen -ℤ w.offset) place
  serves_to standing place serves = rw (← ways_same, ← needed) serves

  module _ (y : Held) (c : Meter) (d : Decision) (missed : MissedParts) (looks : LooksAt w.rest need (look.Miss missed) r s) (paid : IsPaid x y b c) where
    missed_keeps : (standing : List (Option Bounded)) → IsStanding r standing → IsStanding s standing × Respects standing k.cache.now.ways (record { head = record { seen = seen; asked = rest w.offset w.rest }; gone = gone_at missed.places missed.reports; cut = d }) (rest w.offset w.rest) × (gone_at missed.places missed.reports ≡ [])
    unfolding LooksAt IsLookBy
    missed_keeps standing st =
        let at = looks standing st in
        (at.0, λ place serves. absurd (at.1.0 place (serves_from standing place serves)), no_places_gone missed.places missed.reports at.1.1)

    module _ (n : Bench) (j : LocalParts) (i e : Noted) (told : Notes i e (opened_lines depth (record { head = record { seen = seen; asked = rest w.offset w.rest }; gone = gone_at missed.places missed.reports; cut = d }))) where
      pub missed_records : n.frames ≡ first_frame d seen (Some w) ∷ t.frames → Records (aim k) turn.Down (state t x l r b f) i turn.Down (state n y j s c f) e
      unfolding opened gone_at
      missed_records frames = opened_records k t x y l r s b c f can seen (rest w.offset w.rest) (gone_at missed.places missed.reports) d fresh is paid whole_asked missed_keeps n j i e depth (Some w) deep refl frames told

      pub missed_stops : Stops (aim k) turn.Down (state t x l r b f) i (state n y j s c f) e
      unfolding opened gone_at
      missed_stops = opened_stops k t x y l r s b c f can seen (rest w.offset w.rest) (gone_at missed.places missed.reports) d fresh is paid whole_asked missed_keeps n j i e depth deep told

  -- an entry settles the node
  module _ (bound : ℤ) (place : ℕ) (looked : IsLookedUp w.rest need (look.Hit bound place) r s) (looks : LooksAt w.rest need (look.Hit bound place) r s) where
    tree_hit : Tree
    tree_hit = hit seen w.offset w.rest seen place

    hit_known : (known : Option ℤ) → known_in known (tree_lines depth tree_hit) ≡ known
    unfolding known_in tree_lines tree_hit
    hit_known None = refl
    hit_known (Some z) = refl

    hit_settles : Settled k.model.now t.here seen
    unfolding CanGo Stands
    hit_settles = hit_closes k.model.now t.here t.store.box seen k.limit w below need bound place r s (rw is can.1.place.node) needed looked

    pub hit_records : (u : Turn) (n : Bench) (j : LocalParts) (i e : Noted) → u ≡ turn.Up (record { bound = seen }) → n.frames ≡ t.frames → Notes i e (tree_lines depth (hit seen w.offset w.rest seen place)) → Records (aim k) turn.Down (state t x l r b f) i u (state n x j s b f) e
    unfolding CanGo Stands Records Continues tree_hit LooksAt IsLookBy IsTrueSoFar IsTrue IsKeptSoFar IsKept least_so_far standing_so_far least_after standing_after expands_in gone_in tree_lines
    hit_records u n j i e up frames told = rw up (
      tree_lines depth tree_hit,
      record { notes = told; expands = hit_expands; known = sym (hit_known b.least) },
      λ qs last booked.
          let at : path_in k.path.now qs ≡ t.here = here_in k t t.frames qs can.1.place.path booked.shown in
          rw booked.last (record {
            pendings = qs;
            begun = whole tree_hit;
            so = record { shown = rw frames booked.shown; last = record { tree = tree_hit; is = refl; bound = refl } };
            lines = whole_lines (length k.path.now) qs tree_hit ∙ rw (deep_in k t t.frames qs can.1.place.path booked.shown, ← deep) refl;
            believed = λ low old. record {
              alone = old.alone;
              pending = old.pending;
              last = (is ∙ fresh old.alone ∙ old.known, subst (λ (p : List Decision). IsAsked k.model.now k.limit p seen (rest w.offset w.rest)) (sym at) whole_asked, refl, subst (λ (p : List Decision). Settled k.model.now p seen) (sym at) hit_settles);
              known = old.known;
            };
            in_keeping = λ standing old.
                let looked_at = looks (standing_in standing qs) old.stands in
                let (e0, over, exact, enough) = looked_at.1 in
                (record { pending = old.pending; last = serves_to (standing_in standing qs) place (record { entry = e0; over = over; bound = rw exact enough }); stands = looked_at.0 }, hit_gone);
          }),
    )
      where
        hit_expands : x.credits ≡ x.credits + expands_in (tree_lines depth tree_hit)
        hit_expands = omega arith

        hit_gone : gone_in (tree_lines depth tree_hit) ≡ 0
        hit_gone = refl

-- ---- the way back up
module _ (k : Task) (t n : Bench) (x : Held) (l : LocalParts) (r : ReaderParts) (b : Meter) (f : Kept) (c : Closed) (j : Noted) where
  still_tells : Tells x x b b j j []
  still_tells = tells_none x x b b j refl refl

  -- the same book at another turn
  turned_onward : (v : Turn) (qs : List Pending) (last : Begun) → IsBooked v n qs last → Onward (aim k) (state t x l r b f) (state n x l r b f) [] qs last (IsBooked v n)
  unfolding gone_in
  turned_onward v qs last so = record {
    pendings = qs;
    begun = last;
    so = so;
    lines = sym (append-nil (book_lines (length k.path.now) qs last));
    believed = λ low old. old;
    in_keeping = λ standing old. (old, refl);
  }

  pub back_records : (fr : Frame) → t.frames ≡ fr ∷ n.frames → Records (aim k) (turn.Up c) (state t x l r b f) j (turn.Back fr c) (state n x l r b f) j
  unfolding Records Continues
  back_records fr frames = ([], still_tells, λ qs last booked. turned_onward (turn.Back fr c) qs last (record { shown = subst (λ (fs : List Frame). AreShownBy fs qs) frames booked.shown; last = booked.last }))

  pub done_records : t.frames ≡ [] → Records (aim k) (turn.Up c) (state t x l r b f) j (turn.Done c) (state n x l r b f) j
  unfolding Records Continues
  done_records none = ([], still_tells, λ qs last booked. turned_onward (turn.Done c) qs last (record { shown = subst (λ (fs : List Frame). AreShownBy fs qs) none booked.shown; last = booked.last }))

-- ---- the second side
module _ (k : Task) (t n : Bench) (x : Held) (l : LocalParts) (r : ReaderParts) (b : Meter) (f : Kept) (c : Closed) (fr : Frame) (j : Noted) (first : fr.side ≡ side.First) (frames : n.frames ≡ record { cut = fr.cut; side = side.Second; seen = fr.seen; whole = fr.whole } ∷ t.frames) where
  second_onward : (qs : List Pending) (last : Begun) → AreShownBy (fr ∷ t.frames) qs → IsWhole c.bound last → Onward (aim k) (state t x l r b f) (state n x l r b f) [] qs last (IsBooked turn.Down n)
  unfolding AreShownBy IsTrueSoFar IsKeptSoFar least_so_far standing_so_far least_in standing_in path_in ArePendingTrue ArePendingKept gone_in
  second_onward [] last shown done = absurd shown
  second_onward (second_open o one ∷ qs) last shown done = absurd (sides_apart (sym first ∙ shown.0.0))
  second_onward (first_open o ∷ qs) last shown done = rw done.is (record {
    pendings = second_open o done.tree ∷ qs;
    begun = nothing;
    so = record { shown = rw frames ((refl, record { cut = shown.0.1.cut; seen = shown.0.1.seen; asked = shown.0.1.asked }), shown.1); last = refl };
    lines = turning_lines (length k.path.now) qs o done.tree ∙ sym (append-nil (book_lines (length k.path.now) (first_open o ∷ qs) (whole done.tree)));
    believed = λ low old. record { alone = old.alone; pending = ((old.pending.0, old.last), old.pending.1); last = tt; known = old.known };
    in_keeping = λ standing old. (record { pending = ((old.pending.0, old.last), old.pending.1); last = tt; stands = old.stands }, refl);
  })

  pub second_records : Records (aim k) (turn.Back fr c) (state t x l r b f) j turn.Down (state n x l r b f) j
  unfolding Records Continues
  second_records = ([], tells_none x x b b j refl refl, λ qs last booked. second_onward qs last booked.shown booked.last)

-- ---- the join
least_min : (z y : ℤ) → y ≤ℤ z → y ≡ int_min z y
least_min z y h = omega (arith, ints, clamps, h)

module _ (k : Task) (t : Bench) (x : Held) (l j : LocalParts) (r s : ReaderParts) (b : Meter) (f : Kept) (c : Closed) (fr : Frame) (can : CanGo (aim k) (turn.Back fr c) (state t x l r b f)) (second : fr.side ≡ side.Second) where
  back_path : t.here ≡ path_of k.path.now t.frames
  unfolding CanGo Stands
  back_path = can.1.place.0.path

  joined_settles : Settled k.model.now t.here c.bound
  unfolding CanGo Stands
  joined_settles = rw can.1.place.1 (back_closed k t x l r b f c fr can second)

  ways_back : r.pass.cache.ways ≡ k.cache.now.ways
  unfolding CanGo Stands
  ways_back = ap (λ (v : CacheFacts). v.ways) can.1.cache

  join_line : ℕ → List Line
  join_line depth = plain (line.Join depth c.bound) ∷ []

  -- what the cache has to do with it
  KeepsStored : Asked → Option StoredAt → Type 0
  KeepsStored asked stored = MayStore asked stored × ((standing : List (Option Bounded)) → IsStanding r standing → Stores standing k.cache.now.ways c.bound asked stored × IsStanding s (standing_with asked stored standing))

  joined_onward : (depth : ℕ) (stored : Option StoredAt) (qs : List Pending) (last : Begun) → depth ≡ length t.here → ((asked : Asked) → AsksFor fr.whole asked → KeepsStored asked stored) → AreShownBy (fr ∷ t.frames) qs → IsWhole c.bound last
      → Onward (aim k) (state t x l r b f) (state t x j s b f) (join_line depth ++ stored_lines stored) qs last (IsBooked (turn.Up (record { bound = c.bound })) t)
  unfolding join_line KeepsStored AreShownBy IsTrueSoFar IsTrue IsKeptSoFar IsKept least_so_far standing_so_far least_after standing_after least_in standing_in path_in ArePendingTrue ArePendingKept gone_in
  joined_onward depth stored [] last deep stores shown done = absurd shown
  joined_onward depth stored (first_open o ∷ qs) last deep stores shown done = absurd (sides_apart (sym shown.0.0 ∙ second))
  joined_onward depth stored (second_open o one ∷ qs) last deep stores shown done =
      let at : path_in k.path.now qs ≡ t.here = here_in k t t.frames qs back_path shown.1 in
      let tree : Tree = join o one done.tree c.bound stored in
      let store = stores o.head.asked shown.0.1.asked in
      rw done.is (record {
        pendings = qs;
        begun = whole tree;
        so = record { shown = shown.1; last = record { tree = tree; is = refl; bound = refl } };
        lines = joining_lines (length k.path.now) qs o one done.tree c.bound stored ∙ rw (deep_in k t t.frames qs back_path shown.1, ← deep) refl;
        believed = λ low old.
            let two : bound_of done.tree ≡ least_after done.tree (least_after one (least_in low qs)) = true_bound k.model.now k.limit (second_side (path_in k.path.now qs) o) (least_after one (least_in low qs)) done.tree old.last in
            let first : bound_of one ≡ least_after one (least_in low qs) = true_bound k.model.now k.limit (first_side (path_in k.path.now qs) o) (least_in low qs) one old.pending.0.1 in
            record {
              alone = old.alone;
              pending = old.pending.1;
              last = (old.pending.0.0, old.pending.0.1, old.last, sym done.bound ∙ least_min (bound_of one) (bound_of done.tree) (rw (two, first) (least_falls done.tree (least_after one (least_in low qs)))), subst (λ (p : List Decision). Settled k.model.now p c.bound) (sym at) joined_settles, store.0);
              known = old.known;
            };
        in_keeping = λ standing old.
            let kept = store.1 (standing_after done.tree (standing_after one (standing_in standing qs))) old.stands in
            (record { pending = old.pending.1; last = (old.pending.0.0, old.pending.0.1, old.last, kept.0); stands = kept.1 }, none_gone (plain (line.Join depth c.bound) ∷ []) (stored_lines stored) joined_gone (gone_stored stored));
      })
    where
      joined_gone : gone_in (plain (line.Join depth c.bound) ∷ []) ≡ 0
      joined_gone = refl

  stores_by : (w : Whole) (answer : Put) (standing : List (Option Bounded)) → IsPutBy standing k.cache.now.ways (record { rest = w.rest; bound = c.bound -ℤ w.offset }) answer → IsStanding s (standing_by answer (record { rest = w.rest; bound = c.bound -ℤ w.offset }) standing)
      → Stores standing k.cache.now.ways c.bound (rest w.offset w.rest) (stored_at answer (c.bound -ℤ w.offset)) × IsStanding s (standing_with (rest w.offset w.rest) (stored_at answer (c.bound -ℤ w.offset)) standing)
  unfolding IsPutBy
  stores_by w (put.Stored place) standing by after = ((refl, by.0, by.1), after)
  stores_by w (put.AlreadyThere place) standing by after = (inr (place, by), after)
  stores_by w put.Refused standing by after = (inl by, after)

  stored_in : (part : Option Whole) (m e : Noted) → StoresIn part c.bound m e r s → (stored : Option StoredAt) × Notes m e (stored_lines stored) × ((asked : Asked) → AsksFor part asked → KeepsStored asked stored)
  unfolding KeepsStored PutsAt
  stored_in None m e done = (None, done.0, λ asked for. rw for.1 (refl, λ standing st. (tt, rw done.1 st)))
  stored_in (Some w) m e done = (
    stored_at done.0 (c.bound -ℤ w.offset),
    done.1,
    λ asked for. rw for (
      tt,
      λ standing st.
          let by = done.2 standing st in
          stores_by w done.0 standing (rw (← ways_back) by.1) by.0,
    ),
  )

  pub join_records : (u : Turn) (i m e : Noted) (depth : ℕ) → u ≡ turn.Up (record { bound = c.bound }) → depth ≡ length t.here → Notes i m (plain (line.Join depth c.bound) ∷ []) → StoresIn fr.whole c.bound m e r s
      → Records (aim k) (turn.Back fr c) (state t x l r b f) i u (state t x j s b f) e
  unfolding Records Continues join_line expands_in
  join_records u i m e depth up deep told done =
      let (stored, notes, stores) = stored_in fr.whole m e done in
      rw up (
        join_line depth ++ stored_lines stored,
        record { notes = notes_then i m e (join_line depth) (stored_lines stored) told notes; expands = join_expands depth stored; known = join_known depth stored },
        λ qs last booked. joined_onward depth stored qs last deep stores booked.shown booked.last,
      )
    where
      join_expands : (depth : ℕ) (stored : Option StoredAt) → x.credits ≡ x.credits + expands_in (join_line depth ++ stored_lines stored)
      join_expands depth None = omega arith
      join_expands depth (Some z) = omega arith

      join_known : (depth : ℕ) (stored : Option StoredAt) → b.least ≡ known_in b.least (join_line depth ++ stored_lines stored)
      join_known depth stored = sym (known_append b.least (join_line depth) (stored_lines stored) ∙ known_stored (known_in b.least (join_line depth)) stored ∙ known_join b.least depth c.bound)

-- ---- from one function to the next
pub if_ok : {T E : Type 0} (P Q : T → Type 0) (r : Result T E) → ((v : T) → P v → Q v) → IfOk r P → IfOk r Q
if_ok P Q (Ok v) f h = f v h
if_ok P Q (Err e) f h = tt

pub if_err : {T E : Type 0} (P Q : E → Type 0) (r : Result T E) → ((e : E) → P e → Q e) → IfErr r P → IfErr r Q
if_err P Q (Ok v) f h = tt
if_err P Q (Err e) f h = f e h

same_self : (x : Held) → SamePass x x
same_self x = record { board = refl; first = refl; out = refl; splits = refl }

-- pass and meter stay
pub still_stops : (a : Aim) (u : Turn) (s z : State) (j : Noted) → z.pass ≡ s.pass → z.meter ≡ s.meter → ((standing : List (Option Bounded)) → IsStanding s.reader standing → IsStanding z.reader standing) → Stops a u s j z j
still_stops a u s z j pass meter keeps = quiet_stops a u s z j (ap (λ (v : Held). v.credits) pass) (ap (λ (v : Held). v.least) pass) (rw pass (same_self s.pass)) (ap (λ (v : Meter). v.least) meter) keeps

pub dry_stops : (k : Task) (t : Bench) (x y : Held) (l : LocalParts) (r s : ReaderParts) (b c : Meter) (f : Kept) (j : Noted) (why : Stop) → IsEmptyHanded why x y b c → ((standing : List (Option Bounded)) → IsStanding r standing → IsStanding s standing) → Stops (aim k) turn.Down (state t x l r b f) j (state t y l s c f) j
dry_stops k t x y l r s b c f j why dry keeps = quiet_stops (aim k) turn.Down (state t x l r b f) (state t y l s c f) j (ap (λ (v : Held). v.credits) dry.pass) (ap (λ (v : Held). v.least) dry.pass) (rw dry.pass (record { board = refl; first = refl; out = refl; splits = refl })) (ap (λ (v : Meter). v.least) dry.meter) keeps

-- a lookup leaves what stands
pub looks_keep : (q : RestParts) (need : ℤ) (answer : Look) (r s : ReaderParts) → LooksAt q need answer r s → (standing : List (Option Bounded)) → IsStanding r standing → IsStanding s standing
unfolding LooksAt
looks_keep q need answer r s looks standing st = (looks standing st).0

pub heard_records : (k : Task) (t : Bench) (x y : Held) (l j : LocalParts) (r : ReaderParts) (b : Meter) (f : Kept) (n : Noted) → Listened x y → Records (aim k) turn.Down (state t x l r b f) n turn.Down (state t y j r b f) n
heard_records k t x y l j r b f n h = quiet_records (aim k) (state t x l r b f) (state t y j r b f) n h.credits h.least h.same refl (λ standing st. st) refl

pub heard_breaks : (k : Task) (t : Bench) (x y : Held) (l j : LocalParts) (r : ReaderParts) (b : Meter) (f : Kept) (n : Noted) → Listened x y → Stops (aim k) turn.Down (state t x l r b f) n (state t y j r b f) n
heard_breaks k t x y l j r b f n h = quiet_stops (aim k) turn.Down (state t x l r b f) (state t y j r b f) n h.credits h.least h.same refl (λ standing st. st)

pub looked_records : (k : Task) (t n : Bench) (x y : Held) (l m : LocalParts) (r : ReaderParts) (b c : Meter) (f g : Kept) (i e : Noted) → StaysAt t n → FindsNone x y b c f g → e ≡ i → Records (aim k) turn.Down (state t x l r b f) i turn.Down (state n y m r c g) e
looked_records k t n x y l m r b c f g i e stays none same = rw same (quiet_records (aim k) (state t x l r b f) (state n y m r c g) i (ap (λ (v : Held). v.credits) none.pass) (ap (λ (v : Held). v.least) none.pass) (rw none.pass (same_self x)) (ap (λ (v : Meter). v.least) none.meter) (λ standing st. st) stays.frames)

pub open_reached : (m : Parts) (t : Bench) (b : ℤ) (d : Decision) → IsReached m t b (node.Open d) → IsPropagated m t.here b t.store.box
unfolding IsReached
open_reached m t b d h = h

pub is_open : (d : Decision) → IsOpenNode (node.Open d)
unfolding IsOpenNode
is_open d = tt
