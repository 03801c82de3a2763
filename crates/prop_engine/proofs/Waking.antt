-- Propagators that wait for a run.
use Rattle.std.proofs.Common.{◌≡◌, ◌≢◌, ℕ, ◌+◌, ◌<◌, ◌≤◌, Bool, true, false, List, [], length, get_or, set, ℤ, refl, sym, ap, subst, ◌∙◌, arith, inl, inr, Option, Some, None}
use Rattle.std.specs.Prelude.{◌⊎◌, All, slice_index, IsTrue}
use Rattle.std.proofs.lemmas.Bool.{false≢true, cases_eq}
use Rattle.std.proofs.lemmas.List.{get_or_default, get_or-set_same, get_or-set_other}
use Rattle.mark_set.specs.Marks.{IsMarked, IsUnmarked, IsClear, Takes, marked_count}
use Rattle.mark_set.proofs.Marking.{takes_fewer}
use Rattle.fzn_model.specs.declared.con.Con.{Con}
use Rattle.fzn_model.specs.declared.term.Term.{Term}
use Rattle.fzn_model.specs.declared.term.Term.TheVariants as term
use Rattle.fzn_model.specs.Boxes.{IsBox}
use Rattle.fzn_model.specs.Meaning.{Holds}
use Rattle.dom_store.specs.declared.entry.Entry.{Entry}
use Rattle.dom_store.specs.Stores.{Stored, box_size, latest}
use Rattle.dom_store.specs.Narrowing.{Loses, Stays, TakesTouched, SameButMarks}
use Rattle.dom_store.specs.Trails.{Names, DiffersFrom, DiffersAt}
use Rattle.dom_store.specs.Strength.{IsStrong}
use Rattle.dom_store.proofs.Laws.{smaller, same_size}
use Rattle.dom_store.specs.declared.propagator.Ran.TheVariants as ran
use Rattle.prop_engine.specs.declared.event.Event.{Event}
use Rattle.prop_engine.specs.declared.event.Event.TheVariants as event
use Rattle.prop_engine.specs.declared.readers.Readers.{Readers}
use Rattle.prop_engine.specs.Events.{con_event, IsMinor, IsUnheard}
use Rattle.prop_engine.specs.Readers.{Reads, ReadsTerm, AreRead, hearing}
use Rattle.prop_engine.specs.Plans.{AreStrongIn}
use Rattle.prop_engine.specs.declared.queue.Turned.TheVariants as turned
use Rattle.prop_engine.specs.Fixing.{Lessens, MeetsEach, PrunesAt, MeansAt}
use Rattle.prop_engine.specs.Queues.{IsIdle, IsStrongIdle, Wakes, WakesReaders, WakesHearing, WakesNamed, IsDone, AreKnown, AreStrong, AreStrongBut, Turns}
use Rattle.prop_engine.proofs.Sweeping.{some_con, meets_at, at_lessens, marks_lessen}
use Rattle.prop_engine.proofs.Frame.{Alike, alike_const, alike_var, frame}
use Rattle.prop_engine.proofs.Hearing.{in_earlier, keeps_unheard}
use Rattle.prop_engine.proofs.Losing.{minor_stirred}

-- ---- strong before, and nothing to hear of since
module _ (before : ℕ) (old new : Stored) (P : List ℤ → Type 0) (stays : Stays old new) (loses : Loses P old.box new.box) (total : before ≡ box_size old.box) (was : IsBox old.box) (is : IsBox new.box) where
  idle_unheard : (e : Event) (t : Term) → IsIdle e before new t → IsUnheard e old.box new.box t
  idle_unheard e (term.Const z) idle = tt
  idle_unheard event.Changed (term.Var k) clear = stays.untouched k clear
  idle_unheard event.Fixed (term.Var k) (inl clear) = inl (stays.untouched k clear)
  idle_unheard event.Fixed (term.Var k) (inr minor) = inr (minor_stirred P old.box new.box loses was is before k total minor)

  pub strong_idle_then : (c : Con) → IsStrong old.box c → IsStrongIdle before new c
  unfolding IsStrongIdle
  strong_idle_then c strong idle = keeps_unheard old.box new.box c was is (record { count = loses.count; within = loses.within }) (λ k d h. idle_unheard (con_event c) _ (idle k d h)) strong

-- what has a mark before another one is made keeps it
unmarked_before : (marks : List Bool) (at j : ℕ) → at < length marks → IsUnmarked (set marks at true) j → IsUnmarked marks j × (j ≢ at)
unmarked_before marks at j h clear = elim (cases_eq j at) [
  | inl same ↦ absurd (false≢true (sym clear ∙ ap (λ i. get_or (set marks at true) i false) same ∙ get_or-set_same marks at true false h))
  | inr apart ↦ (sym (get_or-set_other marks at j true false apart) ∙ clear, apart)
]

pub wakes_all : (but : ℕ) (numbers : List ℕ) (i : ℕ) (old new : List Bool) → length numbers ≤ i → ((j : ℕ) → IsUnmarked new j → IsUnmarked old j × ((k : ℕ) → k < i → slice_index numbers k ≡ j → j ≡ but)) → Wakes but numbers old new
unfolding Wakes
wakes_all but numbers i old new far all j clear =
    let both = all j clear in
    (both.0, λ has. both.1 has.0 (let less = has.1 in omega (arith, less, far)) (sym (get_or_default numbers has.0 j 0 has.1) ∙ has.2))

pub woken_more : (but : ℕ) (numbers : List ℕ) (i at : ℕ) (old now then : List Bool) → at ≡ slice_index numbers i → ((j : ℕ) → IsUnmarked then j → IsUnmarked now j × (at ≡ j → j ≡ but)) → ((j : ℕ) → IsUnmarked now j → IsUnmarked old j × ((k : ℕ) → k < i → slice_index numbers k ≡ j → j ≡ but)) → (j : ℕ) → IsUnmarked then j → IsUnmarked old j × ((k : ℕ) → k < i + 1 → slice_index numbers k ≡ j → j ≡ but)
woken_more but numbers i at old now then is one all j clear =
    let both = one j clear in
    let before = all j both.0 in (
      before.0,
      λ k less e. elim (cases_eq k i) [
        | inl same ↦ both.1 (is ∙ ap (λ m. slice_index numbers m) (sym same) ∙ e)
        | inr apart ↦ before.1 k (omega (arith, less, apart)) e
      ],
    )

pub one_woken : (but at : ℕ) (was waits : List Bool) → at < length was → waits ≡ set was at true → (j : ℕ) → IsUnmarked waits j → IsUnmarked was j × (at ≡ j → j ≡ but)
one_woken but at was waits h is j clear =
    let both = unmarked_before was at j h (subst (λ (ms : List Bool). IsUnmarked ms j) is clear) in
    (both.0, λ same. absurd (both.1 (sym same)))

-- ---- the list is emptied
-- every term of a constraint that doesn't wait after those have to that hear of a variable's change, is another one, or a
-- constant, or its change isn't heard of
module _ (before v j : ℕ) (readers : Readers) (minor : Bool) (old new : Stored) (takes : TakesTouched v old new) (tells : IsTrue minor → IsMinor before new.box v) where
  same_box : new.box ≡ old.box
  same_box = ap (λ (s : Stored). s.box) takes.is

  clear_before : (k : ℕ) → k ≢ v → IsUnmarked new.touched k → IsUnmarked old.touched k
  clear_before k apart clear = sym (get_or-set_other old.touched v k false false apart) ∙ subst (λ (ms : List Bool). IsUnmarked ms k) (ap (λ (s : Stored). s.touched) takes.is) clear

  minor_before : (k : ℕ) → IsMinor before new.box k → IsMinor before old.box k
  minor_before k is = subst (λ (b : List (List ℤ)). IsMinor before b k) same_box is

  other_idle : (e : Event) (k : ℕ) → k ≢ v → IsIdle e before new (term.Var k) → IsIdle e before old (term.Var k)
  other_idle event.Changed k apart clear = clear_before k apart clear
  other_idle event.Fixed k apart (inl clear) = inl (clear_before k apart clear)
  other_idle event.Fixed k apart (inr is) = inr (minor_before k is)

  still_idle : (e : Event) (t : Term) → ReadsTerm (hearing e readers) j t → (Reads (hearing e readers) v j → (e ≡ event.Fixed) × IsTrue minor) → IsIdle e before new t → IsIdle e before old t
  still_idle e (term.Const z) reads unheard idle = tt
  still_idle e (term.Var k) reads unheard idle = elim (cases_eq k v) [
    | inl same ↦ (let both = unheard (subst (λ i. Reads (hearing e readers) i j) same reads) in subst (λ f. IsIdle f before old (term.Var k)) (sym both.0) (inr (subst (IsMinor before old.box) (sym same) (minor_before v (tells both.1)))))
    | inr apart ↦ other_idle e k apart idle
  ]

module _ (before : ℕ) (cs : List Con) (readers : Readers) (read : AreRead cs (length cs) readers) where
  pub known_less : (but v : ℕ) (minor : Bool) (was waits : List Bool) (old new : Stored) → TakesTouched v old new → (IsTrue minor → IsMinor before new.box v) → WakesHearing but readers v minor was waits → IsDone but cs was old.box → AreKnown before cs was old → AreKnown before cs waits new
  unfolding AreKnown WakesHearing IsStrongIdle IsDone
  known_less but v minor was waits old new takes tells wakes done known j d h clear idle =
      let both = wakes j clear in
      let strong : IsStrong old.box (get_or cs j d) = elim (cases_eq j but) [
        | inl here ↦ subst (λ i. IsStrong old.box (get_or cs i d)) (sym here) (done d (subst (λ i. i < length cs) here h) (subst (λ i. IsUnmarked was i) here both.0))
        | inr apart ↦ known j d h both.0 (λ i e g. still_idle before v j readers minor old new takes tells (con_event (get_or cs j d)) _ (read.each j d h i e g) (λ reads. elim (both.1 _ reads) [ inl here ↦ absurd (apart here) | inr unheard ↦ unheard ]) (idle i e g))
      ] in
      subst (λ (b : List (List ℤ)). IsStrong b (get_or cs j d)) (sym (same_box before v j readers minor old new takes tells)) strong

pub done_less : (cs : List Con) (but v : ℕ) (readers : Readers) (minor : Bool) (was waits : List Bool) (old new : Stored) → TakesTouched v old new → WakesHearing but readers v minor was waits → IsDone but cs was old.box → IsDone but cs waits new.box
unfolding WakesHearing IsDone
done_less cs but v readers minor was waits old new takes wakes done d h clear = subst (λ (b : List (List ℤ)). IsStrong b (get_or cs but d)) (sym (ap (λ (s : Stored). s.box) takes.is)) (done d h (wakes but clear).0)

pub done_none : (cs : List Con) (at : ℕ) (waits : List Bool) (box : List (List ℤ)) → at ≡ length cs → IsDone at cs waits box
unfolding IsDone
done_none cs at waits box is d h = absurd (omega (arith, is, h))

pub known_strong : (before : ℕ) (cs : List Con) (waits : List Bool) (s : Stored) → IsClear s.touched → AreKnown before cs waits s → AreStrong cs waits s.box
unfolding AreKnown AreStrong IsStrongIdle
known_strong before cs waits s clear known j d h unmarked = known j d h unmarked (λ i e g. each_idle (con_event (get_or cs j d)) _)
  where
    each_idle : (e : Event) (t : Term) → IsIdle e before s t
    each_idle e (term.Const z) = tt
    each_idle event.Changed (term.Var k) = clear k
    each_idle event.Fixed (term.Var k) = inl (clear k)

pub marks_same : (s : Stored) → SameButMarks s s
marks_same s = record { box = refl; saved = refl; changes = refl; settled = refl }

pub marks_less : (v : ℕ) (a b c : Stored) → SameButMarks a b → TakesTouched v b c → SameButMarks a c
marks_less v a b c same takes = record {
  box = ap (λ (s : Stored). s.box) takes.is ∙ same.box;
  saved = ap (λ (s : Stored). s.saved) takes.is ∙ same.saved;
  changes = ap (λ (s : Stored). s.changes) takes.is ∙ same.changes;
  settled = ap (λ (s : Stored). s.settled) takes.is ∙ same.settled;
}

pub fewer_touched : (v : ℕ) (a b : Stored) → TakesTouched v a b → marked_count b.touched < marked_count a.touched
fewer_touched v a b takes = takes_fewer v a.touched b.touched (record { inside = takes.inside; was = takes.was; is = ap (λ (s : Stored). s.touched) takes.is })

-- ---- one is run
pub but_one : (cs : List Con) (at : ℕ) (was waits : List Bool) (box : List (List ℤ)) → Takes at was waits → AreStrong cs was box → AreStrongBut at cs waits box
unfolding AreStrong AreStrongBut
but_one cs at was waits box takes strong j d h apart clear = strong j d h (sym (get_or-set_other was at j false false apart) ∙ subst (λ (ms : List Bool). IsUnmarked ms j) takes.is clear)

pub all_strong : (cs : List Con) (waits : List Bool) (box : List (List ℤ)) → IsClear waits → AreStrong cs waits box → All (IsStrong box) cs
unfolding AreStrong
all_strong cs waits box clear strong j d h = strong j d h (clear j)

-- after a change all others are known, and it waits again
pub known_then : (before : ℕ) (cs : List Con) (at : ℕ) (was waits : List Bool) (old new : Stored) → before ≡ box_size old.box → IsBox old.box → IsBox new.box → at < length was → waits ≡ set was at true → at < length cs → PrunesAt cs at old new → AreStrongBut at cs was old.box → AreKnown before cs waits new
unfolding AreStrongBut AreKnown PrunesAt
known_then before cs at was waits old new total old_box new_box inside is h runs strong j d g clear =
    let both = unmarked_before was at j inside (subst (λ (ms : List Bool). IsUnmarked ms j) is clear) in
    let run = runs some_con h in
    strong_idle_then before old new (Holds (get_or cs at some_con)) run.stays run.loses total old_box new_box (get_or cs j d) (strong j d g both.1 both.0)

-- where it waits again, nothing is said of it
pub done_far : (cs : List Con) (at : ℕ) (was waits : List Bool) (box : List (List ℤ)) → at < length was → waits ≡ set was at true → IsDone at cs waits box
unfolding IsDone
done_far cs at was waits box h is d g clear = absurd ((unmarked_before was at at h (subst (λ (ms : List Bool). IsUnmarked ms at) is clear)).1 refl)

-- where its strength is reached, all are known
pub done_kept : (cs : List Con) (at : ℕ) (waits : List Bool) (old new : List (List ℤ)) → MeansAt cs at old new ran.Kept → IsDone at cs waits new
unfolding IsDone MeansAt
done_kept cs at waits old new says d h clear = says d h

strong_idle : (before : ℕ) (s : Stored) (c : Con) → IsStrong s.box c → IsStrongIdle before s c
unfolding IsStrongIdle
strong_idle before s c strong idle = strong

pub known_kept : (before : ℕ) (cs : List Con) (at : ℕ) (waits : List Bool) (old new : Stored) → before ≡ box_size old.box → IsBox old.box → IsBox new.box → at < length cs → PrunesAt cs at old new → MeansAt cs at old.box new.box ran.Kept → AreStrongBut at cs waits old.box → AreKnown before cs waits new
unfolding AreStrongBut AreKnown PrunesAt MeansAt
known_kept before cs at waits old new total old_box new_box h runs says strong j d g clear =
    let run = runs some_con h in
    elim (cases_eq j at) [
      | inl here ↦ strong_idle before new (get_or cs j d) (subst (λ i. IsStrong new.box (get_or cs i d)) (sym here) (says d h))
      | inr apart ↦ strong_idle_then before old new (Holds (get_or cs at some_con)) run.stays run.loses total old_box new_box (get_or cs j d) (strong j d g apart clear)
    ]

quiet_box : (cs : List Con) (at : ℕ) (old new : Stored) → at < length cs → PrunesAt cs at old new → box_size new.box ≡ box_size old.box → new.box ≡ old.box
unfolding PrunesAt
quiet_box cs at old new h runs size = same_size (Holds (get_or cs at some_con)) old.box new.box (runs some_con h).loses size

quiet_strong : (cs : List Con) (at : ℕ) (waits : List Bool) (old new : Stored) → at < length cs → new.box ≡ old.box → MeansAt cs at old.box new.box ran.Kept → AreStrongBut at cs waits old.box → AreStrong cs waits new.box
unfolding AreStrong AreStrongBut MeansAt
quiet_strong cs at waits old new h same says strong j d g clear =
    elim (cases_eq j at) [
      | inl here ↦ subst (λ i. IsStrong new.box (get_or cs i d)) (sym here) (says d h)
      | inr apart ↦ subst (λ (b : List (List ℤ)). IsStrong b (get_or cs j d)) (sym same) (strong j d g apart clear)
    ]

pub turned_quiet : (cs : List Con) (at : ℕ) (waits : List Bool) (old new : Stored) → at < length cs → PrunesAt cs at old new → box_size new.box ≡ box_size old.box → MeansAt cs at old.box new.box ran.Kept → AreStrongBut at cs waits old.box → Turns cs waits waits old.box new.box turned.Quiet
unfolding Turns
turned_quiet cs at waits old new h runs size says strong =
    let same = quiet_box cs at old new h runs size in
    (same, refl, quiet_strong cs at waits old new h same says strong)

pub turned_far : (cs : List Con) (at : ℕ) (was waits : List Bool) (old mid new : Stored) → at < length cs → MeansAt cs at old.box mid.box ran.EarlyStop → SameButMarks mid new → AreStrong cs waits new.box → Turns cs was waits old.box new.box turned.Fell
unfolding Turns MeansAt
turned_far cs at was waits old mid new h far same strong =
    let less = far some_con h in
    let size : box_size new.box ≡ box_size mid.box = ap box_size same.box in
    (omega (arith, less, size), strong)

pub turned_fell : (cs : List Con) (at : ℕ) (was waits : List Bool) (old mid new : Stored) → at < length cs → PrunesAt cs at old mid → (box_size mid.box ≡ box_size old.box → ⊥) → SameButMarks mid new → AreStrong cs waits new.box → Turns cs was waits old.box new.box turned.Fell
unfolding Turns PrunesAt
turned_fell cs at was waits old mid new h runs differs same strong =
    let most = smaller (Holds (get_or cs at some_con)) old.box mid.box (runs some_con h).loses in
    let size : box_size new.box ≡ box_size mid.box = ap box_size same.box in
    (omega (arith, most, differs, size), strong)

pub turned_empty : (cs : List Con) (at : ℕ) (was waits : List Bool) (old new : Stored) → at < length cs → MeansAt cs at old.box new.box ran.Empty → Turns cs was waits old.box new.box turned.Empty
unfolding Turns MeansAt
turned_empty cs at was waits old new h says θ lies meets = says some_con h θ lies (meets_at cs at some_con θ h meets)

pub turn_lessens : (cs : List Con) (at : ℕ) (old new : Stored) → at < length cs → PrunesAt cs at old new → Lessens (MeetsEach cs) old new
turn_lessens cs at old new h runs = at_lessens cs at some_con old new h runs

pub lessens_marks : (cs : List Con) (a b c : Stored) → Lessens (MeetsEach cs) a b → SameButMarks b c → Lessens (MeetsEach cs) a c
lessens_marks cs a b c lessens same = marks_lessen (MeetsEach cs) a b c lessens same

-- ---- before the first run
pub strong_all : (cs : List Con) (waits : List Bool) (box : List (List ℤ)) → ((j : ℕ) → j < length waits → IsMarked waits j) → length waits ≡ length cs → AreStrong cs waits box
unfolding AreStrong
strong_all cs waits box all room j d h clear = absurd (false≢true (sym clear ∙ all j (omega (arith, h, room))))

named_alike : (entries : List Entry) (box earlier : List (List ℤ)) → DiffersFrom entries box earlier → (t : Term) (readers : List (List ℕ)) (j : ℕ) → ReadsTerm readers j t
    → ((k : ℕ) → Names k entries → Reads readers k j → ⊥) → Alike earlier box t
named_alike entries box earlier differs (term.Const z) readers j reads none = alike_const earlier box z
named_alike entries box earlier differs (term.Var k) readers j reads none = alike_var earlier box k (differs.same k (λ named. none k named reads))

strong_from : (cs : List Con) (readers : Readers) (but : ℕ) (entries : List Entry) (was waits : List Bool) (earlier : Option (List (List ℤ))) (box : List (List ℤ)) → AreRead cs (length cs) readers → but ≡ length cs
    → WakesNamed but readers entries was waits → DiffersAt entries earlier box → AreStrongIn cs earlier → AreStrong cs waits box
unfolding AreStrong WakesNamed DiffersAt AreStrongIn
strong_from cs readers but entries was waits None box read is wakes differs ready j d h clear = absurd differs
strong_from cs readers but entries was waits (Some earlier) box read is wakes differs ready j d h clear =
    let heard = hearing (con_event (get_or cs j d)) readers in
    let woken = (wakes j clear).1 (con_event (get_or cs j d)) in
    let none : (k : ℕ) → Names k entries → Reads heard k j → ⊥ = λ k named reads. (let same = woken k named reads in omega (arith, same, is, h)) in
    frame earlier box (get_or cs j d) (λ θ. in_earlier earlier box θ differs.inside)
    (λ i e g. named_alike entries box earlier differs _ heard j (read.each j d h i e g) none) (ready j d h)

pub strong_named : (cs : List Con) (readers : Readers) (but : ℕ) (entries : List Entry) (was waits : List Bool) (s : Stored) → AreRead cs (length cs) readers → but ≡ length cs
    → WakesNamed but readers entries was waits → DiffersAt entries (latest s.settled) s.box → AreStrongIn cs (latest s.settled) → AreStrong cs waits s.box
strong_named cs readers but entries was waits s read is wakes differs ready = strong_from cs readers but entries was waits (latest s.settled) s.box read is wakes differs ready

-- the entries one after another
unfoldable pub WakesTo : ℕ → Readers → List Entry → ℕ → List Bool → List Bool → Type 0
WakesTo but readers entries i old new = (j : ℕ) → IsUnmarked new j → IsUnmarked old j × ((e : Event) (k : ℕ) (d : Entry) → k < i → Reads (hearing e readers) (get_or entries k d).var j → j ≡ but)

pub names_none : (but : ℕ) (readers : Readers) (entries : List Entry) (waits : List Bool) → WakesTo but readers entries 0 waits waits
unfolding WakesTo
names_none but readers entries waits j clear = (clear, λ e k d h. absurd (omega (arith, h)))

pub names_more : (but : ℕ) (readers : Readers) (entries : List Entry) (i : ℕ) (old now then : List Bool) (f : Entry) → i < length entries → get_or entries i f ≡ f
    → WakesTo but readers entries i old now → WakesReaders but readers f.var now then → WakesTo but readers entries (i + 1) old then
unfolding WakesTo WakesReaders
names_more but readers entries i old now then f inside is before wakes j clear =
    let both = wakes j clear in
    let earlier = before j both.0 in (
      earlier.0,
      λ e k d h reads. elim (cases_eq k i) [
        | inl same ↦ both.1 e (subst (λ v. Reads (hearing e readers) v j) (ap (λ (g : Entry). g.var) (ap (λ m. get_or entries m d) same ∙ get_or_default entries i d f inside ∙ is)) reads)
        | inr apart ↦ earlier.1 e k d (omega (arith, h, apart)) reads
      ],
    )

pub names_all : (but : ℕ) (readers : Readers) (entries : List Entry) (i : ℕ) (old new : List Bool) → length entries ≤ i → WakesTo but readers entries i old new → WakesNamed but readers entries old new
unfolding WakesTo WakesNamed
names_all but readers entries i old new far all j clear =
    let both = all j clear in
    (both.0, λ e k named reads. both.1 e named.0 named.1 (let less = named.2 in omega (arith, less, far)) (subst (λ v. Reads (hearing e readers) v j) (sym (ap (λ (f : Entry). f.var) named.3 ∙ named.4)) reads))

-- ---- the readers of one variable
pub wakes_both : (but : ℕ) (readers : Readers) (k : ℕ) (old mid new : List Bool) → Wakes but (get_or readers.changed k []) old mid → Wakes but (get_or readers.fixed k []) mid new → WakesReaders but readers k old new
unfolding Wakes WakesReaders
wakes_both but readers k old mid new first then j clear =
    let last = then j clear in
    let earlier = first j last.0 in
    (earlier.0, each earlier.1 last.1)
  where
    each : (Reads readers.changed k j → j ≡ but) → (Reads readers.fixed k j → j ≡ but) → (e : Event) → Reads (hearing e readers) k j → j ≡ but
    each changed fixed event.Changed reads = changed reads
    each changed fixed event.Fixed reads = fixed reads

pub wakes_minor : (but : ℕ) (readers : Readers) (k : ℕ) (minor : Bool) (old new : List Bool) → IsTrue minor → Wakes but (get_or readers.changed k []) old new → WakesHearing but readers k minor old new
unfolding Wakes WakesHearing
wakes_minor but readers k minor old new is wakes j clear = ((wakes j clear).0, each (wakes j clear).1)
  where
    each : (Reads readers.changed k j → j ≡ but) → (e : Event) → Reads (hearing e readers) k j → (j ≡ but) ⊎ ((e ≡ event.Fixed) × IsTrue minor)
    each changed event.Changed reads = inl (changed reads)
    each changed event.Fixed reads = inr (refl, is)

pub wakes_major : (but : ℕ) (readers : Readers) (k : ℕ) (minor : Bool) (old new : List Bool) → WakesReaders but readers k old new → WakesHearing but readers k minor old new
unfolding WakesReaders WakesHearing
wakes_major but readers k minor old new wakes j clear = ((wakes j clear).0, λ e reads. inl ((wakes j clear).1 e reads))
