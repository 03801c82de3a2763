-- What the search of a path notes.
use Rattle.std.proofs.Common.{◌≡◌, ℕ, List, [], ◌∷◌, ◌++◌, length, refl, sym, ap, ◌∙◌, subst, ℤ, arith}
use Rattle.std.specs.Prelude.{⊤, Result, Ok, Err, Some, None}
use Rattle.std.specs.declared.option.Option.{Option}
use Rattle.fzn_model.specs.Parts.{Parts}
use Rattle.incumbent_board.specs.Passes.{Held, SamePass, IsAlone}
use Rattle.entry_slab.specs.Entries.{Bounded}
use Rattle.evictor.specs.Passes.{CacheFacts}
use Rattle.evictor.specs.Readers.{ReaderParts}
use Rattle.evictor.specs.Standings.{IsStanding}
use Rattle.search_core.specs.declared.decision.Decision.{Decision}
use Rattle.search_core.specs.Paths.{Settled}
use Rattle.search_core.specs.Locals.{LocalParts}
use Rattle.run_log.specs.declared.line.LogLine.TheVariants as line
use Rattle.run_log.specs.Texts.{Line, plain}
use Rattle.run_log.specs.Journals.{Noted, Notes}
use Rattle.run_log.proofs.Appending.{notes_none}
use Rattle.explorer.specs.Offers.{Kept}
use Rattle.explorer.specs.Walking.{NoneMeets}
use Rattle.explorer.specs.Trees.{Tree, leaf, Begun, nothing, whole, begun_lines, tree_lines}
use Rattle.explorer.specs.RightLogs.{IsTrue, IsKept, least_after, standing_after, least_so_far, standing_so_far, IsTrueSoFar, IsKeptSoFar}
use Rattle.explorer.specs.Books.{Pending, path_in, least_in, standing_in, pending_lines, book_lines, begun_in, ArePendingTrue, ArePendingKept, AreShownBy}
use Rattle.explorer.specs.Looking.{Listened}
use Rattle.explorer.specs.Recording.{expands_in, gone_in, known_in, IsFresh, IsWhole, IsBooked, IsBelieved, IsInKeeping, Onward, Breaks, Continues, Records, Stops}
use Rattle.explorer.specs.Logged.{IsWholeWhere, Logged}
use Rattle.explorer.specs.Going.{Aim, aim, State, state}
use Rattle.explorer.specs.Ending.{HasLogged, answer_of}
use Rattle.explorer.specs.declared.bench.Bench.{Bench}
use Rattle.explorer.specs.declared.meter.Meter.{Meter}
use Rattle.explorer.specs.declared.task.Task.{Task}
use Rattle.explorer.specs.declared.subtree.Explored.{Explored}
use Rattle.explorer.specs.declared.frame.Closed.{Closed}
use Rattle.explorer.specs.declared.frame.Stop.{Stop}
use Rattle.explorer.specs.declared.frame.Stop.TheVariants as stop
use Rattle.explorer.specs.declared.frame.Turn.TheVariants as turn
use Rattle.explorer.proofs.Books.{book_begun, true_begun, least_begun, kept_begun, standing_begun}
use Rattle.explorer.proofs.Logging.{known_leaf}

-- a search that failed need not have a whole tree
any_begun : (why : Stop) (b : Begun) → IsWholeWhere (answer_of (Err why)) b
any_begun stop.Dry b = tt
any_begun (stop.Told why) b = tt
any_begun stop.NoMemory b = tt

-- nothing was noted
pub quiet_logged : (a : Aim) (s z : State) (j : Noted) (why : Stop) → z.pass.credits ≡ s.pass.credits → z.pass.least ≡ s.pass.least → z.meter.least ≡ s.meter.least → ((standing : List (Option Bounded)) → IsStanding s.reader standing → IsStanding z.reader standing) → HasLogged a (Err why) s j z j
unfolding HasLogged expands_in known_in gone_in begun_lines IsTrueSoFar IsKeptSoFar least_so_far standing_so_far
quiet_logged a s z j why credits low least keeps = record {
  lines = [];
  notes = notes_none j;
  expands = omega (arith, credits);
  known = least;
  begun = nothing;
  shape = refl;
  whole_tree = any_begun why nothing;
  true_nodes = λ alone. tt;
  least = λ alone. low;
  kept = λ standing st. (tt, keeps standing st, refl);
}

-- ---- from the steps of a search
module _ (a : Aim) (s z : State) (j k : Noted) (none : s.bench.frames ≡ []) (own : s.reader.pass.cache ≡ a.cache) where
  first_book : IsBooked turn.Down s.bench [] nothing
  unfolding AreShownBy
  first_book = record { shown = rw none tt; last = refl }

  believed_first : IsAlone s.pass → IsBelieved a s.pass.least s.pass [] nothing
  unfolding ArePendingTrue IsTrueSoFar least_in least_so_far
  believed_first alone = record { alone = alone; pending = tt; last = tt; known = refl }

  kept_first : (standing : List (Option Bounded)) → IsStanding s.reader standing → IsInKeeping a standing s.reader [] nothing
  unfolding ArePendingKept IsKeptSoFar standing_in standing_so_far
  kept_first standing st = record { pending = tt; last = tt; stands = st }

  ways_own : s.reader.pass.cache.ways ≡ a.cache.ways
  ways_own = ap (λ (v : CacheFacts). v.ways) own

  module _ (more : List Line) (P : List Pending → Begun → Type 0) (on : Onward a s z more [] nothing P) where
    all_begun : Begun
    all_begun = begun_in on.pendings on.begun

    all_lines : more ≡ begun_lines (length a.path) all_begun
    unfolding all_begun book_lines pending_lines begun_lines
    all_lines = sym on.lines ∙ book_begun (length a.path) on.pendings on.begun

    all_true : IsAlone s.pass → IsTrueSoFar a.model a.limit a.path s.pass.least all_begun
    unfolding all_begun
    all_true alone = let is = on.believed s.pass.least (believed_first alone) in true_begun a.model a.limit a.path s.pass.least on.pendings on.begun is.pending is.last

    all_known : IsAlone s.pass → z.pass.least ≡ least_so_far all_begun s.pass.least
    unfolding all_begun
    all_known alone = (on.believed s.pass.least (believed_first alone)).known ∙ sym (least_begun s.pass.least on.pendings on.begun)

    all_kept : (standing : List (Option Bounded)) → IsStanding s.reader standing → IsKeptSoFar s.reader.pass.cache.ways standing all_begun × IsStanding z.reader (standing_so_far all_begun standing) × (gone_in more ≡ 0)
    unfolding all_begun
    all_kept standing st =
        let is = on.in_keeping standing (kept_first standing st) in
        (subst (λ (n : ℕ). IsKeptSoFar n standing all_begun) (sym ways_own) (kept_begun a.cache.ways standing on.pendings on.begun is.0.pending is.0.last), rw (standing_begun standing on.pendings on.begun) is.0.stands, is.1)

  pub ends_logged : (why : Stop) → Stops a turn.Down s j z k → HasLogged a (Err why) s j z k
  unfolding HasLogged Stops Breaks all_begun
  ends_logged why (more, tells, breaks) =
      let on = breaks [] nothing first_book in record {
        lines = more;
        notes = tells.notes;
        expands = tells.expands;
        known = tells.known;
        begun = begun_in on.pendings on.begun;
        shape = all_lines more (λ pendings begun. ⊤) on;
        whole_tree = any_begun why (begun_in on.pendings on.begun);
        true_nodes = all_true more (λ pendings begun. ⊤) on;
        least = all_known more (λ pendings begun. ⊤) on;
        kept = all_kept more (λ pendings begun. ⊤) on;
      }

  whole_of : (qs : List Pending) (b : Begun) (w : ℤ) → AreShownBy [] qs → IsWhole w b → IsWhole w (begun_in qs b)
  unfolding AreShownBy begun_in
  whole_of [] b w shown is = is
  whole_of (q ∷ qs) b w shown is = absurd shown

  pub done_logged : (c : Closed) (w : ℤ) → w ≡ c.bound → Records a turn.Down s j (turn.Done c) z k → HasLogged a (Ok w) s j z k
  unfolding HasLogged Records Continues all_begun
  done_logged c w same (more, tells, continues) =
      let on = continues [] nothing first_book in record {
        lines = more;
        notes = tells.notes;
        expands = tells.expands;
        known = tells.known;
        begun = begun_in on.pendings on.begun;
        shape = all_lines more (IsBooked (turn.Done c) z.bench) on;
        whole_tree = rw same (whole_of on.pendings on.begun c.bound on.so.shown on.so.last);
        true_nodes = all_true more (IsBooked (turn.Done c) z.bench) on;
        least = all_known more (IsBooked (turn.Done c) z.bench) on;
        kept = all_kept more (IsBooked (turn.Done c) z.bench) on;
      }

-- a path that no assignment meets
pub empty_logged : (k : Task) (t : Bench) (x y : Held) (l m : LocalParts) (r : ReaderParts) (b : Meter) (f : Kept) (i e : Noted) (depth : ℕ) (w v : ℤ) → NoneMeets k.model.now k.path.now → Listened x y → IsFresh y → y.seen ≡ w → v ≡ w → depth ≡ length k.path.now → Notes i e (plain (line.Leaf depth v) ∷ []) → HasLogged (aim k) (Ok w) (state t x l r b f) i (state t y m r b f) e
unfolding HasLogged NoneMeets Settled expands_in gone_in begun_lines tree_lines IsTrueSoFar IsTrue IsKeptSoFar IsKept least_after least_so_far standing_so_far standing_after
empty_logged k t x y l m r b f i e depth w v none heard fresh is same deep told = record {
  lines = plain (line.Leaf depth v) ∷ [];
  notes = told;
  expands = omega (arith, heard.credits);
  known = sym (known_leaf b.least depth v);
  begun = whole (leaf None w);
  shape = rw (same, deep) refl;
  whole_tree = record { tree = leaf None w; is = refl; bound = refl };
  true_nodes = λ alone. (tt, sym is ∙ fresh (heard.same.first ∙ alone.0, heard.same.out ∙ alone.1) ∙ heard.least, λ θ solves meets. absurd (none θ solves.domains meets));
  least = λ alone. heard.least;
  kept = λ standing st. (tt, st, refl);
}

-- what is noted doesn't rest on the bench
pub moved_logged : (a : Aim) (ended : Result ℤ Stop) (t n o q : Bench) (x y : Held) (l m : LocalParts) (r s : ReaderParts) (b c : Meter) (f g : Kept) (i e : Noted) → HasLogged a ended (state t x l r b f) i (state n y m s c g) e → HasLogged a ended (state o x l r b f) i (state q y m s c g) e
unfolding HasLogged
moved_logged a ended t n o q x y l m r s b c f g i e logged = logged

-- ---- the whole
pub call_logged : (k : Task) (t n : Bench) (x y : Held) (l m : LocalParts) (r s : ReaderParts) (b c d : Meter) (f g : Kept) (i e : Noted) (answer : Explored) (ended : Result ℤ Stop) (count : ℕ) → answer ≡ answer_of ended → HasLogged (aim k) ended (state t x l r b f) i (state n y m s c g) e → d ≡ record c { closed = count }
    → Logged k.model.now k.path.now k.limit answer x y r s b d i e
unfolding HasLogged
call_logged k t n x y l m r s b c d f g i e answer ended count is logged counted = rw (is, counted) (record {
  lines = logged.lines;
  notes = logged.notes;
  expands = logged.expands;
  known = logged.known;
  begun = logged.begun;
  shape = logged.shape;
  whole_tree = logged.whole_tree;
  true_nodes = logged.true_nodes;
  least = logged.least;
  kept = logged.kept;
})
