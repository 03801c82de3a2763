-- What steps one after another add to a log.
use Rattle.std.proofs.Common.{◌≡◌, ◌+◌, cond, List, [], ◌++◌, length, append_assoc, append-nil, refl, sym, ap, ◌∙◌, subst, ℤ, arith}
use Rattle.std.specs.Prelude.{⊤}
use Rattle.std.specs.declared.option.Option.{Option}
use Rattle.std.proofs.lemmas.List.Sums.{fold-append, sum_by-append}
use Rattle.entry_slab.specs.Entries.{Bounded}
use Rattle.incumbent_board.specs.Passes.{Held, SamePass}
use Rattle.evictor.specs.Standings.{IsStanding}
use Rattle.run_log.specs.Texts.{Line}
use Rattle.run_log.specs.Journals.{Noted}
use Rattle.run_log.proofs.Appending.{notes_none, notes_then}
use Rattle.explorer.specs.Offers.{lesser_of}
use Rattle.explorer.specs.Trees.{Begun}
use Rattle.explorer.specs.RightLogs.{standing_so_far}
use Rattle.explorer.specs.Books.{Pending, standing_in, book_lines, AreShownBy}
use Rattle.explorer.specs.Recording.{is_expand, cost_in, is_gone, expands_in, gone_in, known_in, Tells, IsBooked, IsBelieved, IsInKeeping, Onward, Continues, Breaks, Records, Stops}
use Rattle.explorer.specs.Going.{Aim, State}
use Rattle.explorer.specs.declared.meter.Meter.{Meter}
use Rattle.explorer.specs.declared.frame.Frame.{Frame}
use Rattle.explorer.specs.declared.frame.Turn.{Turn}
use Rattle.explorer.specs.declared.frame.Turn.TheVariants as turn

-- ---- counts over lines
pub expands_append : (ls ks : List Line) → expands_in (ls ++ ks) ≡ expands_in ls + expands_in ks
unfolding expands_in
expands_append ls ks = sum_by-append (λ (l : Line). cond (is_expand l.line) 1 0) ls ks

pub known_append : (known : Option ℤ) (ls ks : List Line) → known_in known (ls ++ ks) ≡ known_in (known_in known ls) ks
unfolding known_in
known_append known ls ks = fold-append (λ (b : Option ℤ) (l : Line). lesser_of b (cost_in l.line)) known ls ks

pub none_gone : (ls ks : List Line) → gone_in ls ≡ 0 → gone_in ks ≡ 0 → gone_in (ls ++ ks) ≡ 0
unfolding gone_in
none_gone ls ks one two = sum_by-append (λ (l : Line). cond (is_gone l.line) 1 0) ls ks ∙ omega (arith, one, two)

-- ---- what is noted
pub tells_then : (x y w : Held) (b c d : Meter) (i j k : Noted) (ls ks : List Line) → Tells x y b c i j ls → Tells y w c d j k ks → Tells x w b d i k (ls ++ ks)
tells_then x y w b c d i j k ls ks one two = record {
  notes = notes_then i j k ls ks one.notes two.notes;
  expands = omega (arith, one.expands, two.expands, expands_append ls ks);
  known = two.known ∙ ap (λ (v : Option ℤ). known_in v ks) one.known ∙ sym (known_append b.least ls ks);
}

pub tells_none : (x y : Held) (b c : Meter) (j : Noted) → y.credits ≡ x.credits → c.least ≡ b.least → Tells x y b c j j []
unfolding expands_in known_in
tells_none x y b c j credits least = record {
  notes = notes_none j;
  expands = omega (arith, credits);
  known = least;
}

-- ---- how the log stands
pub onward_then : (a : Aim) (s w z : State) (ls ks : List Line) (qs : List Pending) (b : Begun) (P Q : List Pending → Begun → Type 0) → (first : Onward a s w ls qs b P) → Onward a w z ks first.pendings first.begun Q → Onward a s z (ls ++ ks) qs b Q
onward_then a s w z ls ks qs b P Q first second = record {
  pendings = second.pendings;
  begun = second.begun;
  so = second.so;
  lines = second.lines ∙ ap (λ (ms : List Line). ms ++ ks) first.lines ∙ append_assoc (book_lines (length a.path) qs b) ls ks;
  believed = λ least h. second.believed least (first.believed least h);
  in_keeping = λ standing h.
      let one = first.in_keeping standing h in
      let two = second.in_keeping standing one.0 in
      (two.0, none_gone ls ks one.1 two.1);
}

onward_none : (a : Aim) (s z : State) (qs : List Pending) (b : Begun) (P : List Pending → Begun → Type 0) → P qs b → ((least : ℤ) → IsBelieved a least s.pass qs b → IsBelieved a least z.pass qs b)
    → ((standing : List (Option Bounded)) → IsInKeeping a standing s.reader qs b → IsInKeeping a standing z.reader qs b) → Onward a s z [] qs b P
unfolding gone_in
onward_none a s z qs b P so believed in_keeping = record {
  pendings = qs;
  begun = b;
  so = so;
  lines = sym (append-nil (book_lines (length a.path) qs b));
  believed = believed;
  in_keeping = λ standing h. (in_keeping standing h, refl);
}

-- ---- steps one after another
pub records_none : (a : Aim) (u : Turn) (s : State) (j : Noted) → Records a u s j u s j
unfolding Records Continues
records_none a u s j = ([], tells_none s.pass s.pass s.meter s.meter j refl refl, λ qs b booked. onward_none a s s qs b (IsBooked u s.bench) booked (λ least h. h) (λ standing h. h))

pub records_then : (a : Aim) (u v y : Turn) (s w z : State) (i j k : Noted) → Records a u s i v w j → Records a v w j y z k → Records a u s i y z k
unfolding Records Continues
records_then a u v y s w z i j k one two = (
  one.0 ++ two.0,
  tells_then s.pass w.pass z.pass s.meter w.meter z.meter i j k one.0 two.0 one.1 two.1,
  λ qs b booked. let first = one.2 qs b booked in onward_then a s w z one.0 two.0 qs b (IsBooked v w.bench) (IsBooked y z.bench) first (two.2 first.pendings first.begun first.so),
)

pub records_stop : (a : Aim) (u v : Turn) (s w z : State) (i j k : Noted) → Records a u s i v w j → Stops a v w j z k → Stops a u s i z k
unfolding Records Stops Continues Breaks
records_stop a u v s w z i j k one two = (
  one.0 ++ two.0,
  tells_then s.pass w.pass z.pass s.meter w.meter z.meter i j k one.0 two.0 one.1 two.1,
  λ qs b booked. let first = one.2 qs b booked in onward_then a s w z one.0 two.0 qs b (IsBooked v w.bench) (λ pendings begun. ⊤) first (two.2 first.pendings first.begun first.so),
)

-- ---- steps that note nothing
same_belief : (a : Aim) (least : ℤ) (x y : Held) (qs : List Pending) (b : Begun) → SamePass x y → y.least ≡ x.least → IsBelieved a least x qs b → IsBelieved a least y qs b
same_belief a least x y qs b same e h = record {
  alone = (same.first ∙ h.alone.0, same.out ∙ h.alone.1);
  pending = h.pending;
  last = h.last;
  known = e ∙ h.known;
}

quiet : (a : Aim) (s z : State) (qs : List Pending) (b : Begun) (P : List Pending → Begun → Type 0) → P qs b → z.pass.least ≡ s.pass.least → SamePass s.pass z.pass
    → ((standing : List (Option Bounded)) → IsStanding s.reader standing → IsStanding z.reader standing) → Onward a s z [] qs b P
quiet a s z qs b P so least same stands = onward_none a s z qs b P so (λ low h. same_belief a low s.pass z.pass qs b same least h) (λ standing h. record { pending = h.pending; last = h.last; stands = stands (standing_so_far b (standing_in standing qs)) h.stands })

pub quiet_stops : (a : Aim) (u : Turn) (s z : State) (j : Noted) → z.pass.credits ≡ s.pass.credits → z.pass.least ≡ s.pass.least → SamePass s.pass z.pass → z.meter.least ≡ s.meter.least
    → ((standing : List (Option Bounded)) → IsStanding s.reader standing → IsStanding z.reader standing) → Stops a u s j z j
unfolding Stops Breaks
quiet_stops a u s z j credits least same known stands = ([], tells_none s.pass z.pass s.meter z.meter j credits known, λ qs b booked. quiet a s z qs b (λ pendings begun. ⊤) tt least same stands)

pub quiet_records : (a : Aim) (s z : State) (j : Noted) → z.pass.credits ≡ s.pass.credits → z.pass.least ≡ s.pass.least → SamePass s.pass z.pass → z.meter.least ≡ s.meter.least
    → ((standing : List (Option Bounded)) → IsStanding s.reader standing → IsStanding z.reader standing) → z.bench.frames ≡ s.bench.frames → Records a turn.Down s j turn.Down z j
unfolding Records Continues
quiet_records a s z j credits least same known stands frames = (
  [],
  tells_none s.pass z.pass s.meter z.meter j credits known,
  λ qs b booked. quiet a s z qs b (IsBooked turn.Down z.bench) (record { shown = subst (λ (fs : List Frame). AreShownBy fs qs) (sym frames) booked.shown; last = booked.last }) least same stands,
)
