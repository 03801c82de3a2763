-- What the type of a store keeps: a narrowing, a level up, a level down, a settling.
use Rattle.std.proofs.Common.{◌≡◌, ℕ, ◌+◌, ◌<◌, ◌≤◌, Bool, List, [], ◌∷◌, ◌++◌, length, take, drop, set, map, refl, sym, ap, subst, ◌∙◌, arith, Option, Some, None, true, false, inl, inr, get_or, length-set, get_or-set_other, replicate}
use Rattle.std.specs.Prelude.{ℤ, reverse, All, Contains, IfSome}
use Rattle.std.proofs.lemmas.List.{reverse-append, drop_all, set-get_or, length-replicate, length-reverse, length-map}
use Rattle.std.proofs.lemmas.Bool.{cases_eq}
use Rattle.std.proofs.lemmas.List.Elements.{All-head, All-tail, All-cons}
use Rattle.fzn_model.specs.Boxes.{IsBox, IsDomain, domain_at}
use Rattle.dom_store.specs.declared.entry.Entry.{Entry}
use Rattle.dom_store.specs.declared.level.Level.{Level}
use Rattle.dom_store.specs.Stores.{Stored, IsStore, IsStoreBox, IsInside, AreInside, latest}
use Rattle.mark_set.specs.Marks.{IsMarked, IsUnmarked}
use Rattle.int_domain.specs.declared.narrow.Narrow.{Narrow}
use Rattle.int_domain.specs.declared.narrow.Narrow.TheVariants.{Same, Changed, Empty}
use Rattle.dom_store.specs.declared.domain.Cut.{Cut}
use Rattle.dom_store.specs.Kept.{Does, Leaves}
use Rattle.dom_store.specs.Narrowing.{AltersOnly, changes_by, touched_by}
use Rattle.dom_store.specs.Trails.{undone, box_at, box_at_some, IsEarlier, AreEarlier, saved_boxes, settled_boxes, TrailParts, IsTrail, Renews, TakesBack, Saves, stored_of, IsStoreOf, DiffersAt}
use Rattle.dom_store.specs.Views.{box_of, box_count, first_store}
use Rattle.dom_store.proofs.Cutting.{does_keeps}
use Rattle.dom_store.proofs.Undoing.{named_undone, names_more, taken_back, undone_elsewhere}

abbrev Box : Type 0
Box = List (List ℤ)

pub latest_first : (levels rest : List Level) (top : Level) → levels ≡ rest ++ top ∷ [] → reverse levels ≡ top ∷ reverse rest
latest_first levels rest top is = ap reverse is ∙ reverse-append rest (top ∷ [])

-- ---- boxes that are the same where they are looked at
abbrev pub SameTo : ℕ → List Entry → Box → List Entry → Box → Type 0
SameTo bound es box fs new = (count : ℕ) → count ≤ bound → box_at fs new count ≡ box_at es box count

some_same : (bound : ℕ) (es fs : List Entry) (box new : Box) (settled : Option ℕ) → SameTo bound es box fs new → IsEarlier settled bound → box_at_some fs new settled ≡ box_at_some es box settled
unfolding IsEarlier
some_same bound es fs box new None same before = refl
some_same bound es fs box new (Some p) same before = ap Some (same p before)

pub saved_same : (n room bound : ℕ) (es fs : List Entry) (box new : Box) (ls : List Level) (settled : Option ℕ) → SameTo bound es box fs new → AreEarlier n room ls settled bound
    → saved_boxes fs new ls ≡ saved_boxes es box ls
unfolding saved_boxes AreEarlier
saved_same n room bound es fs box new [] settled same before = refl
saved_same n room bound es fs box new (l ∷ ls) settled same (at, start, fits, rest) =
    ap (λ b. b ∷ map (λ (k : Level). box_at fs new k.start) ls) (same l.start start)
    ∙ ap (λ bs. box_at es box l.start ∷ bs) (saved_same n room l.start es fs box new ls l.settled (λ count few. same count (omega (arith, few, start))) rest)

pub settled_same : (n room bound : ℕ) (es fs : List Entry) (box new : Box) (ls : List Level) (settled : Option ℕ) → SameTo bound es box fs new → AreEarlier n room ls settled bound
    → settled_boxes fs new settled ls ≡ settled_boxes es box settled ls
unfolding settled_boxes AreEarlier
settled_same n room bound es fs box new [] settled same before = ap (λ o. o ∷ []) (some_same bound es fs box new settled same before)
settled_same n room bound es fs box new (l ∷ ls) settled same (at, start, fits, rest) =
    ap (λ o. o ∷ map (λ (k : Level). box_at_some fs new k.settled) (l ∷ ls)) (some_same bound es fs box new settled same at)
    ∙ ap (λ os. box_at_some es box settled ∷ os) (settled_same n room l.start es fs box new ls l.settled (λ count few. same count (omega (arith, few, start))) rest)

-- ---- later, and with more room
some_on : (settled : Option ℕ) (bound after : ℕ) → bound ≤ after → IsEarlier settled bound → IsEarlier settled after
unfolding IsEarlier
some_on None bound after later at = tt
some_on (Some p) bound after later at = omega (arith, at)

first_earlier : (n room bound : ℕ) (ls : List Level) (settled : Option ℕ) → AreEarlier n room ls settled bound → IsEarlier settled bound
unfolding AreEarlier
first_earlier n room bound [] settled at = at
first_earlier n room bound (l ∷ ls) settled all = all.0

pub earlier_on : (n room more bound after : ℕ) (ls : List Level) (settled : Option ℕ) → bound ≤ after → room ≤ more → AreEarlier n room ls settled bound → AreEarlier n more ls settled after
unfolding AreEarlier
earlier_on n room more bound after [] settled later wider at = some_on settled bound after later at
earlier_on n room more bound after (l ∷ ls) settled later wider (at, start, fits, rest) =
    (some_on settled bound after later at, omega (arith, start), omega (arith, fits), earlier_on n room more l.start l.start ls l.settled (omega arith) wider rest)

pub pushed_earlier : (n room more bound after : ℕ) (ls : List Level) (top : Level) (settled : Option ℕ) → bound ≤ after → top.start ≤ after → top.start + n ≤ more → room ≤ more → top.settled ≡ settled → bound ≤ top.start
    → AreEarlier n room ls settled bound → AreEarlier n more (top ∷ ls) settled after
unfolding AreEarlier
pushed_earlier n room more bound after ls top settled later start fits wider settled_is begins before = (
  some_on settled bound after later (first_earlier n room bound ls settled before),
  start,
  fits,
  subst (λ o. AreEarlier n more ls o top.start) (sym settled_is) (earlier_on n room more bound top.start ls settled begins wider before),
)

pub settled_earlier : (n room more bound after : ℕ) (ls : List Level) (settled : Option ℕ) (place : ℕ) → bound ≤ after → place ≤ after → room ≤ more → AreEarlier n room ls settled bound → AreEarlier n more ls (Some place) after
unfolding AreEarlier IsEarlier
settled_earlier n room more bound after [] settled place later here wider before = here
settled_earlier n room more bound after (l ∷ ls) settled place later here wider (at, start, fits, rest) =
    (here, omega (arith, start), omega (arith, fits), earlier_on n room more l.start l.start ls l.settled (omega arith) wider rest)

-- ---- what a store keeps, in its own words
inside_refl : (b : Box) → IsInside b b
inside_refl b = record { count = refl; within = λ k z has. has }

inside_trans : (a b c : Box) → IsInside a b → IsInside b c → IsInside a c
inside_trans a b c first then = record { count = then.count ∙ first.count; within = λ k z has. first.within k z (then.within k z has) }

some_inside : (o : Option Box) (b c : Box) → IsInside b c → IfSome o (λ a. IsInside a b) → IfSome o (λ a. IsInside a c)
some_inside None b c then first = tt
some_inside (Some a) b c then first = inside_trans a b c first then

inside_first : (os : List (Option Box)) (b c : Box) (bs : List Box) → IsInside b c → AreInside os (b ∷ bs) → AreInside os (c ∷ bs)
unfolding AreInside
inside_first [] b c bs then all = absurd all
inside_first (o ∷ os) b c bs then all = (some_inside o b c then all.0, all.1)

store_narrowed : (old new : Stored) → IsStore old → IsBox new.box → IsInside old.box new.box → new.saved ≡ old.saved → new.settled ≡ old.settled → length new.touched ≡ length old.touched → IsStore new
store_narrowed old new s box inside saved settled touched = record {
  few = omega (arith, s.few, inside.count);
  box = box;
  saved = subst (λ n. All (IsStoreBox n) new.saved) (sym inside.count) (subst (All (IsStoreBox (length old.box))) (sym saved) s.saved);
  settled = subst (λ (bs : List Box). AreInside new.settled (new.box ∷ bs)) (sym saved)
      (subst (λ (os : List (Option Box)). AreInside os (new.box ∷ old.saved)) (sym settled) (inside_first old.settled old.box new.box old.saved inside s.settled));
  touched = touched ∙ s.touched ∙ sym inside.count;
}

first_again : (os : List (Option Box)) (b : Box) (bs : List Box) → AreInside os (b ∷ bs) → AreInside (latest os ∷ os) (b ∷ b ∷ bs)
unfolding AreInside
first_again [] b bs all = absurd all
first_again (o ∷ os) b bs all = (all.0, all)

store_pushed : (s : Stored) → IsStore s → IsStore (record s { saved = s.box ∷ s.saved; settled = latest s.settled ∷ s.settled })
store_pushed s kept = record {
  few = kept.few;
  box = kept.box;
  saved = All-cons (IsStoreBox (length s.box)) s.box s.saved (record { domains = kept.box; same = refl }) kept.saved;
  settled = first_again s.settled s.box s.saved kept.settled;
  touched = kept.touched;
}

all_but_first : (os : List (Option Box)) (b c : Box) (bs : List Box) → AreInside os (b ∷ c ∷ bs) → AreInside (drop 1 os) (c ∷ bs)
unfolding AreInside
all_but_first [] b c bs all = absurd all
all_but_first (o ∷ os) b c bs all = all.1

store_popped : (s new : Stored) (top : Box) (rest : List Box) → IsStore s → s.saved ≡ top ∷ rest → new.box ≡ top → new.saved ≡ rest → new.settled ≡ drop 1 s.settled → new.touched ≡ s.touched → IsStore new
store_popped s new top rest kept saved box_is saved_is settled_is touched_is =
    let all : All (IsStoreBox (length s.box)) (top ∷ rest) = subst (All (IsStoreBox (length s.box))) saved kept.saved in
    let first : IsStoreBox (length s.box) top = All-head (IsStoreBox (length s.box)) top rest all in
    let inside : AreInside s.settled (s.box ∷ top ∷ rest) = subst (λ (bs : List Box). AreInside s.settled (s.box ∷ bs)) saved kept.settled in
    let long : length new.box ≡ length s.box = ap length box_is ∙ first.same in
    record {
      few = omega (arith, kept.few, long);
      box = subst (λ b. IsBox b) (sym box_is) first.domains;
      saved = subst (λ n. All (IsStoreBox n) new.saved) (sym long) (subst (All (IsStoreBox (length s.box))) (sym saved_is) (All-tail (IsStoreBox (length s.box)) top rest all));
      settled = rw (box_is, saved_is, settled_is) (all_but_first s.settled s.box top rest inside);
      touched = ap length touched_is ∙ kept.touched ∙ sym long;
    }

settled_again : (os : List (Option Box)) (b : Box) (bs : List Box) → AreInside os (b ∷ bs) → AreInside (Some b ∷ drop 1 os) (b ∷ bs)
unfolding AreInside
settled_again [] b bs all = absurd all
settled_again (o ∷ os) b bs all = (inside_refl b, all.1)

store_settled : (s : Stored) → IsStore s → IsStore (record s { settled = Some s.box ∷ drop 1 s.settled })
store_settled s kept = record { few = kept.few; box = kept.box; saved = kept.saved; settled = settled_again s.settled s.box s.saved kept.settled; touched = kept.touched }

-- ---- a narrowing
replaced_inside : (box new : Box) (var : ℕ) → new ≡ set box var (domain_at new var) → ((z : ℤ) → Contains (domain_at new var) z → Contains (domain_at box var) z) → IsInside box new
replaced_inside box new var is within = record {
  count = ap length is ∙ length-set box var (domain_at new var);
  within = λ k z. elim (cases_eq k var) [
    | inl same ↦ subst (λ j. Contains (domain_at new j) z → Contains (domain_at box j) z) (sym same) (within z)
    | inr apart ↦ subst (λ xs. Contains xs z) (ap (λ b. domain_at b k) is ∙ get_or-set_other box var k (domain_at new var) [] apart)
  ];
}

touched_count : (answer : Narrow) (var : ℕ) (touched : List Bool) → length (touched_by answer var touched) ≡ length touched
touched_count Same var touched = refl
touched_count Changed var touched = length-set touched var true
touched_count Empty var touched = refl

by_mark : (marks : List Bool) (var : ℕ) (P : Type 0) → (IsMarked marks var → P) → (IsUnmarked marks var → P) → P
by_mark marks var P marked unmarked = of (get_or marks var false) refl
  where
    of : (b : Bool) → get_or marks var false ≡ b → P
    of true is = marked is
    of false is = unmarked is

-- the boxes that the trail gives are as they were
pub narrow_same : (box new : Box) (t saved : TrailParts) (var : ℕ) (c : Cut) (answer : Narrow) → IsTrail t → IsTrail saved → Saves box t saved
    → (IsUnmarked saved.marks var → Leaves c (domain_at box var)) → Does c (domain_at box var) (domain_at new var) answer → IsDomain (domain_at new var) → new ≡ set box var (domain_at new var)
    → SameTo t.since t.entries box saved.entries new
unfolding Leaves
narrow_same box new t saved var c answer before kept saves leaves does domain is count few =
    by_mark saved.marks var (box_at saved.entries new count ≡ box_at t.entries box count)
    (λ marked.
    let names = names_more saved.entries count saved.since var (omega (arith, few, saves.since)) kept.since (kept.named var marked) in
    ap (λ b. box_at saved.entries b count) is ∙ named_undone (drop count saved.entries) box var (domain_at new var) names ∙ saves.boxes count (omega (arith, few, before.since)))
    (λ unmarked.
    let same : new ≡ box = is ∙ ap (set box var) (leaves unmarked (domain_at new var) answer domain does) ∙ set-get_or box var [] in
    ap (λ b. box_at saved.entries b count) same ∙ saves.boxes count (omega (arith, few, before.since)))

pub narrow_alters : (box new : Box) (t saved : TrailParts) (ls : List Level) (settled : Option ℕ) (touched after : List Bool) (changes more var : ℕ) (c : Cut) (answer : Narrow)
    → IsStoreOf box t ls settled touched changes → IsTrail saved → Saves box t saved → var < length box
    → (IsUnmarked saved.marks var → Leaves c (domain_at box var)) → Does c (domain_at box var) (domain_at new var) answer → IsBox new → new ≡ set box var (domain_at new var)
    → after ≡ touched_by answer var touched → more ≡ changes_by answer changes
    → AltersOnly var answer (stored_of box t ls settled touched changes) (stored_of new saved ls settled after more)
narrow_alters box new t saved ls settled touched after changes more var c answer s kept saves inside leaves does well_formed is touched_is changes_is =
    let long : length new ≡ length box = ap length is ∙ length-set box var (domain_at new var) in
    let same : SameTo t.since t.entries box saved.entries new = narrow_same box new t saved var c answer s.kept kept saves leaves does (well_formed var [] (omega (arith, long, inside))) is in
    record {
      box = is;
      saved = saved_same (length box) t.room t.since t.entries saved.entries box new (reverse ls) settled same s.earlier;
      settled = settled_same (length box) t.room t.since t.entries saved.entries box new (reverse ls) settled same s.earlier;
      changes = changes_is;
      touched = touched_is;
      room = omega (arith, inside, s.stored.touched);
    }

pub narrow_keeps : (box new : Box) (t saved : TrailParts) (ls : List Level) (settled : Option ℕ) (touched after : List Bool) (changes more var : ℕ) (c : Cut) (answer : Narrow)
    → IsStoreOf box t ls settled touched changes → IsTrail saved → Saves box t saved → var < length box
    → (IsUnmarked saved.marks var → Leaves c (domain_at box var)) → Does c (domain_at box var) (domain_at new var) answer → IsBox new → new ≡ set box var (domain_at new var)
    → after ≡ touched_by answer var touched → more ≡ changes_by answer changes
    → IsStoreOf new saved ls settled after more
narrow_keeps box new t saved ls settled touched after changes more var c answer s kept saves inside leaves does well_formed is touched_is changes_is =
    let alters = narrow_alters box new t saved ls settled touched after changes more var c answer s kept saves inside leaves does well_formed is touched_is changes_is in
    let long : length new ≡ length box = ap length is ∙ length-set box var (domain_at new var) in
    let keeps = does_keeps c (domain_at box var) (domain_at new var) answer does in
    record {
      stored = store_narrowed (stored_of box t ls settled touched changes) (stored_of new saved ls settled after more) s.stored well_formed (replaced_inside box new var is keeps.within) alters.saved alters.settled
          (ap length touched_is ∙ touched_count answer var touched);
      kept = kept;
      marks = saves.count ∙ s.marks ∙ sym long;
      earlier = subst (λ n. AreEarlier n saved.room (reverse ls) settled saved.since) (sym long)
          (earlier_on (length box) t.room saved.room t.since saved.since (reverse ls) settled (omega (arith, saves.since)) (omega (arith, saves.room)) s.earlier);
    }

-- ---- a level up
box_now : (es : List Entry) (box : Box) (count : ℕ) → count ≡ length es → box_at es box count ≡ box
unfolding undone
box_now es box count is = ap (λ l. undone l box) (drop_all count es (omega (arith, is)))

pub pushed_view : (box : Box) (t new : TrailParts) (ls more : List Level) (top : Level) (settled : Option ℕ) (touched : List Bool) (changes : ℕ) → new.entries ≡ t.entries
    → more ≡ ls ++ top ∷ [] → top.start ≡ length t.entries → top.settled ≡ settled
    → stored_of box new more settled touched changes ≡ (let s : Stored = stored_of box t ls settled touched changes in record s { saved = s.box ∷ s.saved; settled = latest s.settled ∷ s.settled })
unfolding saved_boxes settled_boxes
pushed_view box t new ls more top settled touched changes entries more_is start settled_is =
    rw (entries, latest_first more ls top more_is, settled_is, box_now t.entries box top.start start) refl

pub pushed_keeps : (box : Box) (t new : TrailParts) (ls more : List Level) (top : Level) (settled : Option ℕ) (touched : List Bool) (changes : ℕ)
    → IsStoreOf box t ls settled touched changes → IsTrail new → Renews t new → more ≡ ls ++ top ∷ [] → top.start ≡ length t.entries → top.settled ≡ settled
    → IsStoreOf box new more settled touched changes
pushed_keeps box t new ls more top settled touched changes s kept renews more_is start settled_is = record {
  stored = subst IsStore (sym (pushed_view box t new ls more top settled touched changes renews.entries more_is start settled_is)) (store_pushed (stored_of box t ls settled touched changes) s.stored);
  kept = kept;
  marks = renews.count ∙ s.marks;
  earlier = subst (λ (ks : List Level). AreEarlier (length box) new.room ks settled new.since) (sym (latest_first more ls top more_is)) (one_more s.earlier);
}
  where
    one_more : AreEarlier (length box) t.room (reverse ls) settled t.since → AreEarlier (length box) new.room (top ∷ reverse ls) settled new.since
    one_more before = pushed_earlier (length box) t.room new.room t.since new.since (reverse ls) top settled (omega (arith, s.kept.since, renews.since)) (omega (arith, start, renews.since)) (omega (arith, start, renews.room, s.marks)) renews.grows settled_is (omega (arith, start, s.kept.since)) before

-- ---- a settling
pub settled_view : (box : Box) (t new : TrailParts) (ls : List Level) (settled at : Option ℕ) (place : ℕ) (touched : List Bool) (changes : ℕ) → new.entries ≡ t.entries → at ≡ Some place → place ≡ length t.entries
    → stored_of box new ls at touched changes ≡ (let s : Stored = stored_of box t ls settled touched changes in record s { settled = Some s.box ∷ drop 1 s.settled })
unfolding saved_boxes settled_boxes
settled_view box t new ls settled at place touched changes entries at_is place_is =
    rw (entries, at_is, box_now t.entries box place place_is) refl

pub settled_keeps : (box : Box) (t new : TrailParts) (ls : List Level) (settled at : Option ℕ) (place : ℕ) (touched : List Bool) (changes : ℕ)
    → IsStoreOf box t ls settled touched changes → IsTrail new → Renews t new → at ≡ Some place → place ≡ length t.entries → IsStoreOf box new ls at touched changes
settled_keeps box t new ls settled at place touched changes s kept renews at_is place_is = record {
  stored = subst IsStore (sym (settled_view box t new ls settled at place touched changes renews.entries at_is place_is)) (store_settled (stored_of box t ls settled touched changes) s.stored);
  kept = kept;
  marks = renews.count ∙ s.marks;
  earlier = subst (λ o. AreEarlier (length box) new.room (reverse ls) o new.since) (sym at_is)
      (settled_earlier (length box) t.room new.room t.since new.since (reverse ls) settled place (omega (arith, s.kept.since, renews.since)) (omega (arith, place_is, renews.since)) renews.grows s.earlier);
}

-- ---- the way back
back_same : (box now : Box) (t new : TrailParts) (start : ℕ) → start ≤ length t.entries → new.entries ≡ take start t.entries → now ≡ undone (drop start t.entries) box
    → SameTo start t.entries box new.entries now
back_same box now t new start inside entries is count few =
    ap (λ (es : List Entry). box_at es now count) entries ∙ ap (λ b. box_at (take start t.entries) b count) is ∙ taken_back t.entries box count start few inside

-- the levels below that which ends
below : (n room bound : ℕ) (ls : List Level) (top : Level) (settled : Option ℕ) → AreEarlier n room (top ∷ ls) settled bound → (top.start ≤ bound) × (top.start + n ≤ room) × AreEarlier n room ls top.settled top.start
unfolding AreEarlier
below n room bound ls top settled (at, start, fits, rest) = (start, fits, rest)

pub popped_starts : (box : Box) (t : TrailParts) (ls rest : List Level) (top : Level) (settled : Option ℕ) (touched : List Bool) (changes : ℕ) → IsStoreOf box t ls settled touched changes → ls ≡ rest ++ top ∷ []
    → (top.start ≤ length t.entries) × (top.start + length t.marks ≤ t.room)
popped_starts box t ls rest top settled touched changes s is =
    let all = below (length box) t.room t.since (reverse rest) top settled (subst (λ (ks : List Level). AreEarlier (length box) t.room ks settled t.since) (latest_first ls rest top is) s.earlier) in
    (omega (arith, all.0, s.kept.since), omega (arith, all.1, s.marks))

pub popped_views : (box now : Box) (t new : TrailParts) (ls rest : List Level) (top : Level) (settled : Option ℕ) (touched : List Bool) (changes : ℕ)
    → IsStoreOf box t ls settled touched changes → ls ≡ rest ++ top ∷ [] → TakesBack top.start t new → now ≡ undone (drop top.start t.entries) box
    → (saved_boxes t.entries box (reverse ls) ≡ now ∷ saved_boxes new.entries now (reverse rest)) × (settled_boxes new.entries now top.settled (reverse rest) ≡ drop 1 (settled_boxes t.entries box settled (reverse ls)))
unfolding saved_boxes settled_boxes
popped_views box now t new ls rest top settled touched changes s is back now_is =
    let starts = popped_starts box t ls rest top settled touched changes s is in
    let all = below (length box) t.room t.since (reverse rest) top settled (subst (λ (ks : List Level). AreEarlier (length box) t.room ks settled t.since) (latest_first ls rest top is) s.earlier) in
    let same : SameTo top.start t.entries box new.entries now = back_same box now t new top.start starts.0 back.entries now_is in
    let saved : saved_boxes new.entries now (reverse rest) ≡ saved_boxes t.entries box (reverse rest) = saved_same (length box) t.room top.start t.entries new.entries box now (reverse rest) top.settled same all.2 in
    let settlings : settled_boxes new.entries now top.settled (reverse rest) ≡ settled_boxes t.entries box top.settled (reverse rest) = settled_same (length box) t.room top.start t.entries new.entries box now (reverse rest) top.settled same all.2 in (
      ap (saved_boxes t.entries box) (latest_first ls rest top is) ∙ ap (λ b. b ∷ saved_boxes t.entries box (reverse rest)) (sym now_is) ∙ ap (λ bs. now ∷ bs) (sym saved),
      settlings ∙ sym (ap (λ (ks : List Level). drop 1 (settled_boxes t.entries box settled ks)) (latest_first ls rest top is)),
    )

pub popped_keeps : (box now : Box) (t new : TrailParts) (ls rest : List Level) (top : Level) (settled : Option ℕ) (touched : List Bool) (changes : ℕ)
    → IsStoreOf box t ls settled touched changes → IsTrail new → ls ≡ rest ++ top ∷ [] → TakesBack top.start t new → now ≡ undone (drop top.start t.entries) box → length now ≡ length box
    → IsStoreOf now new rest top.settled touched changes
popped_keeps box now t new ls rest top settled touched changes s kept is back now_is long =
    let views = popped_views box now t new ls rest top settled touched changes s is back now_is in
    let all = below (length box) t.room t.since (reverse rest) top settled (subst (λ (ks : List Level). AreEarlier (length box) t.room ks settled t.since) (latest_first ls rest top is) s.earlier) in
    record {
      stored = store_popped (stored_of box t ls settled touched changes) (stored_of now new rest top.settled touched changes) now (saved_boxes new.entries now (reverse rest)) s.stored views.0 refl refl views.1 refl;
      kept = kept;
      marks = back.count ∙ s.marks ∙ sym long;
      earlier = subst (λ n. AreEarlier n new.room (reverse rest) top.settled new.since) (sym long)
          (earlier_on (length box) t.room new.room top.start new.since (reverse rest) top.settled (omega (arith, back.since)) (omega (arith, back.room)) all.2);
    }

-- ---- what differs from the latest settling
pub differs : (box : Box) (t : TrailParts) (ls : List Level) (settled : Option ℕ) (at : ℕ) (touched : List Bool) (changes : ℕ) → IsStoreOf box t ls settled touched changes → settled ≡ Some at
    → DiffersAt (drop at t.entries) (latest (stored_of box t ls settled touched changes).settled) box
unfolding DiffersAt settled_boxes AreInside
differs box t ls settled at touched changes s is =
    let all : AreInside (settled_boxes t.entries box settled (reverse ls)) (box ∷ saved_boxes t.entries box (reverse ls)) = s.stored.settled in
    let here : AreInside (Some (box_at t.entries box at) ∷ map (λ (k : Level). box_at_some t.entries box k.settled) (reverse ls)) (box ∷ saved_boxes t.entries box (reverse ls)) =
    subst (λ o. AreInside (box_at_some t.entries box o ∷ map (λ (k : Level). box_at_some t.entries box k.settled) (reverse ls)) (box ∷ saved_boxes t.entries box (reverse ls))) is all in
    subst (λ o. DiffersAt (drop at t.entries) (box_at_some t.entries box o) box) (sym is)
    (record { inside = here.0; same = λ k none. sym (undone_elsewhere (drop at t.entries) box k none) })

pub settled_inside : (box : Box) (t : TrailParts) (ls : List Level) (settled : Option ℕ) (at : ℕ) (touched : List Bool) (changes : ℕ) → IsStoreOf box t ls settled touched changes → settled ≡ Some at → at ≤ length t.entries
unfolding IsEarlier
settled_inside box t ls settled at touched changes s is =
    let first : IsEarlier (Some at) t.since = subst (λ o. IsEarlier o t.since) is (first_earlier (length box) t.room t.since (reverse ls) settled s.earlier) in
    omega (arith, first, s.kept.since)

-- ---- a new store
pub new_keeps : (box : Box) (t : TrailParts) (ls : List Level) (touched : List Bool) (n : ℕ) → IsBox box → length box ≤ 100000 → IsTrail t → t.marks ≡ replicate n false → touched ≡ replicate n false → n ≡ length box → ls ≡ []
    → IsStoreOf box t ls None touched 0
unfolding AreEarlier IsEarlier AreInside saved_boxes settled_boxes
new_keeps box t ls touched n well_formed few kept marks touched_is is none = record {
  stored = record {
    few = few;
    box = well_formed;
    saved = rw (none) (λ k d h. absurd (omega (arith, h)));
    settled = rw (none) (tt, tt);
    touched = ap length touched_is ∙ length-replicate n false ∙ is;
  };
  kept = kept;
  marks = ap length marks ∙ length-replicate n false ∙ is;
  earlier = rw (none) tt;
}

pub new_view : (box : Box) (doms : List (List (ℤ × ℤ))) (t : TrailParts) (ls : List Level) (touched : List Bool) (n : ℕ) → box ≡ box_of doms → ls ≡ [] → touched ≡ replicate n false → n ≡ length box
    → stored_of box t ls None touched 0 ≡ first_store doms
unfolding saved_boxes settled_boxes
new_view box doms t ls touched n box_is none touched_is count =
    let same : n ≡ length doms = count ∙ ap length box_is ∙ box_count doms in
    rw (none, touched_is, same, box_is) refl

-- a level that was pushed
map_count : (es : List Entry) (box : Box) (ls : List Level) → length (saved_boxes es box ls) ≡ length ls
unfolding saved_boxes
map_count es box ls = length-map ls (λ (l : Level). box_at es box l.start)

pub level_count : (es : List Entry) (box : Box) (ls : List Level) → length (saved_boxes es box (reverse ls)) ≡ length ls
level_count es box ls = map_count es box (reverse ls) ∙ length-reverse ls

pub pushed_some : (es : List Entry) (box : Box) (ls : List Level) → 0 < length (saved_boxes es box (reverse ls)) → 0 < length ls
pushed_some es box ls some = omega (arith, some, level_count es box ls)

pub none_settled : (es : List Entry) (box : Box) (settled : Option ℕ) (ls : List Level) → settled ≡ None → latest (settled_boxes es box settled (reverse ls)) ≡ None
unfolding settled_boxes
none_settled es box settled ls is = ap (box_at_some es box) is
