-- What a lookup and a publication say of what stands.
use Rattle.std.proofs.Common.{◌≡◌, ◌≢◌, ℕ, zero, suc, ◌+◌, ◌-◌, ◌<◌, ◌⊎◌, inl, inr, Bool, true, false, if◌then◌else◌, List, [], ◌∷◌, length, set, slice_index, slice_index_or, Some, None, refl, sym, ap, subst, ◌∙◌, arith, ℤ, ◌≤ℤ◌, ◌<ℤ◌}
use Rattle.std.specs.Prelude.{◌≤◌, not, ◌==◌, All, Contains, IfSome, Ok, Err}
use Rattle.std.specs.List.{count_by, position, position_or_len}
use Rattle.std.specs.declared.option.Option.{Option}
use Rattle.std.proofs.lemmas.Bool.{cases_eq}
use Rattle.std.proofs.lemmas.Int.{ints}
use Rattle.std.proofs.lemmas.Grind.{common_steps}
use Rattle.std.proofs.lemmas.List.{get_or-set_same, get_or-set_other, length-set}
use Rattle.std.proofs.lemmas.List.Elements.{All-contains}
use Rattle.std.proofs.lemmas.List.Quantifiers.{position-Some}
use Rattle.std.proofs.lemmas.List.Sums.{count_by-le-length, fails_before_first, sum_by-cons}
use Rattle.fzn_model.specs.Rests.{RestParts}
use Rattle.rest_key.specs.Dominance.{Dominates}
use Rattle.entry_slab.specs.Entries.{Bounded, near_digest, far_digest}
use Rattle.entry_slab.specs.Contents.{Contents, entry_under, WhereTold, Puts, Removes}
use Rattle.entry_slab.specs.Readings.{IsReading}
use Rattle.entry_slab.specs.declared.shelf.NotKept.{NotKept}
use Rattle.evictor.specs.declared.report.Report.{Report}
use Rattle.evictor.specs.declared.report.Report.TheVariants as report
use Rattle.evictor.specs.declared.look.Look.{Look}
use Rattle.evictor.specs.declared.look.Look.TheVariants as look
use Rattle.evictor.specs.declared.put.Put.{Put}
use Rattle.evictor.specs.declared.put.Put.TheVariants as put
use Rattle.evictor.specs.Passes.{PassWords, word_at}
use Rattle.evictor.specs.Places.{places_of, place_by_turn}
use Rattle.evictor.specs.Reports.{IsReport, IsServed, AreReports, FindsOne, is_weak, is_free, is_gone, gone_count, no_cache}
use Rattle.evictor.specs.Readers.{ReaderParts}
use Rattle.evictor.specs.Looks.{IsLook}
use Rattle.evictor.specs.Puts.{IsStored, FindsNone, IsThere, IsPut, Stores, place_or, place_taken, place_for}
use Rattle.evictor.specs.Tables.{entry_at, IsTidy, ChangesTable, KeepsTable, Serves, table_after}
use Rattle.evictor.specs.Standings.{standing_at, put_in, StandsOver, ServesAt, NoneServes, IsFirstWith, NoneWith, HasWeaker, HasNoEntry, IsPlaceFor, IsPutBy, standing_by, IsLookBy, IsStanding, LooksAt, PutsAt}
use Rattle.evictor.proofs.Tidying.{some_none, some_of, by_equal, by_other}
use Rattle.evictor.proofs.Scans.{counts}
use Rattle.evictor.proofs.Serving.{under, none_at, none_serves, one_serves, some_same, contents_same}

yes_no : (b : Bool) → b ≡ true → b ≡ false → ⊥
yes_no b is isnt = absurd (cc)

pub inside_index : (ps : List ℕ) (k d : ℕ) → k < length ps → slice_index_or ps k d ≡ slice_index ps k
inside_index [] k d below = absurd (omega (arith, below))
inside_index (p ∷ ps) zero d below = refl
inside_index (p ∷ ps) (suc k) d below = inside_index ps k d (omega (arith, below))

-- the report on the word of a place
report_at : (told : Option Contents) (words : List ℕ) (r : RestParts) (need : ℤ) (places : List ℕ) (reports : List Report) (k : ℕ) → AreReports told words r need places reports → k < length places → IsReport told r need (word_at words (slice_index_or places k 0)) (slice_index_or reports k report.Empty)
unfolding AreReports
report_at told words r need [] reports k are below = absurd (omega (arith, below))
report_at told words r need (p ∷ ps) [] k are below = absurd are
report_at told words r need (p ∷ ps) (q ∷ qs) zero are below = are.0
report_at told words r need (p ∷ ps) (q ∷ qs) (suc k) are below = report_at told words r need ps qs k are.1 (omega (arith, below))

position_none : (p : Report → Bool) (qs : List Report) (k : ℕ) → position p qs ≡ None → k < length qs → p (slice_index_or qs k report.Empty) ≡ false
position_none p qs k none below = let far : length qs ≤ position_or_len p qs = grind (arith, common_steps) in fails_before_first p qs k report.Empty (omega (arith, far, below))

-- ---- the words of what stands
module _ (s : ReaderParts) (standing : List (Option Bounded)) (st : IsStanding s standing) where
  -- the entry of a word that isn't 0 is there
  there : (place : ℕ) → place < s.pass.cache.ways → word_at s.pass.words place ≢ 0 → (e : Bounded) × (entry_under st.contents.entries (word_at s.pass.words place - 1) ≡ Some e)
  there place below some = some_of _ (st.tidy.there place (rw st.words below) some)

  stands_under : (place : ℕ) → place < s.pass.cache.ways → word_at s.pass.words place ≢ 0 → standing_at standing place ≡ entry_under st.contents.entries (word_at s.pass.words place - 1)
  stands_under place below some = st.each place below ∙ under s.pass.words st.contents.entries place some

  stands_none : (place : ℕ) → place < s.pass.cache.ways → word_at s.pass.words place ≡ 0 → standing_at standing place ≡ None
  stands_none place below zeroed = st.each place below ∙ none_at s.pass.words st.contents.entries place zeroed

  -- ---- what a report says of what stands
  not_gone : (r : RestParts) (need : ℤ) (place : ℕ) (q : Report) → place < s.pass.cache.ways → IsReport (Some st.contents) r need (word_at s.pass.words place) q → is_gone q ≡ false
  unfolding IsReport IsReading
  not_gone r need place report.Empty below is = refl
  not_gone r need place report.Unlike below is = refl
  not_gone r need place (report.Weak b) below is = refl
  not_gone r need place report.NoCache below is = refl
  not_gone r need place report.Gone below is =
      let (e, stands) = there place below is.0 in
      elim is.1 [
        | inl none ↦ absurd (some_none e _ stands none)
        | inr loses ↦ absurd (yes_no st.contents.loses loses st.keeps)
      ]

  weak_has : (r : RestParts) (need : ℤ) (place : ℕ) (q : Report) → place < s.pass.cache.ways → IsReport (Some st.contents) r need (word_at s.pass.words place) q → is_weak q ≡ true → HasWeaker standing r need place
  unfolding IsReport IsReading HasWeaker
  weak_has r need place report.Empty below is so = absurd (cc)
  weak_has r need place report.Unlike below is so = absurd (cc)
  weak_has r need place report.NoCache below is so = absurd (cc)
  weak_has r need place report.Gone below is so = absurd (cc)
  weak_has r need place (report.Weak b) below is so =
      let (e, read, likes) = is.1 in
      (e, stands_under place below is.0 ∙ read.place, likes.0, omega (arith, ints, likes.1, likes.2))

  has_weak : (r : RestParts) (need : ℤ) (place : ℕ) (q : Report) → place < s.pass.cache.ways → IsReport (Some st.contents) r need (word_at s.pass.words place) q → is_weak q ≡ false → HasWeaker standing r need place → ⊥
  unfolding IsReport IsReading HasWeaker
  has_weak r need place report.Empty below is isnt (e, stands, dominates, lesser) = some_none e _ stands (stands_none place below is)
  has_weak r need place report.Unlike below is isnt (e, stands, dominates, lesser) =
      let (e', read, unlike) = is.1 in
      let same = some_same e e' (sym stands ∙ stands_under place below is.0 ∙ read.place) in
      unlike (subst (λ (x : Bounded). Dominates x.rest r) same dominates)
  has_weak r need place report.NoCache below is isnt has = is
  has_weak r need place report.Gone below is isnt has = yes_no true refl (not_gone r need place report.Gone below is)
  has_weak r need place (report.Weak b) below is isnt has = absurd (cc)

  free_has : (r : RestParts) (need : ℤ) (place : ℕ) (q : Report) → place < s.pass.cache.ways → IsReport (Some st.contents) r need (word_at s.pass.words place) q → is_free q ≡ true → HasNoEntry standing place
  unfolding IsReport IsReading HasNoEntry
  free_has r need place report.Empty below is so = stands_none place below is
  free_has r need place report.Unlike below is so = absurd (cc)
  free_has r need place report.NoCache below is so = absurd (cc)
  free_has r need place report.Gone below is so = absurd (yes_no true refl (not_gone r need place report.Gone below is))
  free_has r need place (report.Weak b) below is so = absurd (cc)

  has_free : (r : RestParts) (need : ℤ) (place : ℕ) (q : Report) → place < s.pass.cache.ways → IsReport (Some st.contents) r need (word_at s.pass.words place) q → is_free q ≡ false → HasNoEntry standing place → ⊥
  unfolding IsReport IsReading HasNoEntry
  has_free r need place report.Empty below is isnt none = absurd (cc)
  has_free r need place report.Unlike below is isnt none =
      let (e', read, unlike) = is.1 in
      some_none e' _ (stands_under place below is.0 ∙ read.place) none
  has_free r need place report.NoCache below is isnt none = is
  has_free r need place report.Gone below is isnt none = absurd (cc)
  has_free r need place (report.Weak b) below is isnt none =
      let (e', read, likes) = is.1 in
      some_none e' _ (stands_under place below is.0 ∙ read.place) none

  -- ---- what the reports say
  no_gone : (r : RestParts) (need : ℤ) (places : List ℕ) (reports : List Report) → AreReports (Some st.contents) s.pass.words r need places reports → All (λ place. place < s.pass.cache.ways) places → gone_count reports ≡ 0
  unfolding AreReports gone_count
  no_gone r need [] [] are below = refl
  no_gone r need (p ∷ ps) [] are below = absurd are
  no_gone r need [] (q ∷ qs) are below = absurd are
  no_gone r need (p ∷ ps) (q ∷ qs) are below =
      let none = not_gone r need p q (below 0 p (omega arith)) are.0 in
      let rest = no_gone r need ps qs are.1 (λ k d inside. below (suc k) d (omega (arith, inside))) in
      let more = sum_by-cons (λ (x : Report). if is_gone x then 1 else 0) q qs in
      more ∙ rw none (omega (arith, rest))

  module _ (r : RestParts) (need : ℤ) (places : List ℕ) (reports : List Report) (are : AreReports (Some st.contents) s.pass.words r need places reports) (below : All (λ place. place < s.pass.cache.ways) places) where
    at : (k : ℕ) → k < length places → (slice_index_or places k 0 < s.pass.cache.ways) × IsReport (Some st.contents) r need (word_at s.pass.words (slice_index_or places k 0)) (slice_index_or reports k report.Empty)
    at k inside = (below k 0 inside, report_at (Some st.contents) s.pass.words r need places reports k are inside)

    count : length reports ≡ length places
    count = counts (Some st.contents) s.pass.words r need places reports are

    first_weaker : (number : ℕ) → position is_weak reports ≡ Some number → IsFirstWith (HasWeaker standing r need) places (slice_index places number)
    first_weaker number is =
        let (inside, so, before) = position-Some is_weak reports number report.Empty is in
        let within : number < length places = rw (sym count) inside in
        let (low, says) = at number within in
        record {
          number = number;
          inside = within;
          is = sym (inside_index places number 0 within);
          so = subst (HasWeaker standing r need) (inside_index places number 0 within) (weak_has r need (slice_index_or places number 0) _ low says so);
          before = λ k less has. let (low', says') = at k (omega (arith, less, within)) in has_weak r need (slice_index_or places k 0) _ low' says' (before k less) has;
        }

    none_weaker : position is_weak reports ≡ None → NoneWith (HasWeaker standing r need) places
    unfolding NoneWith
    none_weaker none k inside has = let (low, says) = at k inside in has_weak r need (slice_index_or places k 0) _ low says (position_none is_weak reports k none (rw count inside)) has

    first_free : (number : ℕ) → position is_free reports ≡ Some number → IsFirstWith (HasNoEntry standing) places (slice_index places number)
    first_free number is =
        let (inside, so, before) = position-Some is_free reports number report.Empty is in
        let within : number < length places = rw (sym count) inside in
        let (low, says) = at number within in
        record {
          number = number;
          inside = within;
          is = sym (inside_index places number 0 within);
          so = subst (HasNoEntry standing) (inside_index places number 0 within) (free_has r need (slice_index_or places number 0) _ low says so);
          before = λ k less has. let (low', says') = at k (omega (arith, less, within)) in has_free r need (slice_index_or places k 0) _ low' says' (before k less) has;
        }

    none_free : position is_free reports ≡ None → NoneWith (HasNoEntry standing) places
    unfolding NoneWith
    none_free none k inside has = let (low, says) = at k inside in has_free r need (slice_index_or places k 0) _ low says (position_none is_free reports k none (rw count inside)) has

  -- ---- what serves
  serving : (r : RestParts) (need : ℤ) (place : ℕ) → All (λ p. p < s.pass.cache.ways) (places_of s.pass.cache.ways r) → ServesAt standing s.pass.cache.ways r need place → Serves s.pass.words st.contents.entries s.pass.cache.ways r need place
  serving r need place below serves = record {
    entry = serves.entry;
    in_groups = serves.over.in_groups;
    stands = sym (st.each place (All-contains (λ p. p < s.pass.cache.ways) (places_of s.pass.cache.ways r) place below serves.over.in_groups)) ∙ serves.over.stands;
    dominates = serves.over.dominates;
    bound = serves.bound;
  }

  serves : (r : RestParts) (need : ℤ) (place : ℕ) → All (λ p. p < s.pass.cache.ways) (places_of s.pass.cache.ways r) → Serves s.pass.words st.contents.entries s.pass.cache.ways r need place → ServesAt standing s.pass.cache.ways r need place
  serves r need place below is = record {
    entry = is.entry;
    over = record {
      in_groups = is.in_groups;
      stands = st.each place (All-contains (λ p. p < s.pass.cache.ways) (places_of s.pass.cache.ways r) place below is.in_groups) ∙ is.stands;
      dominates = is.dominates;
    };
    bound = is.bound;
  }

  none_at_all : (r : RestParts) (need : ℤ) → s.pass.cache.ways ≡ 0 → NoneServes standing s.pass.cache.ways r need
  none_at_all r need none place serves = some_none serves.entry _ serves.over.stands (empty standing (st.count ∙ none))
    where
      empty : (all : List (Option Bounded)) → length all ≡ 0 → standing_at all place ≡ None
      empty [] zeroed = refl
      empty (x ∷ xs) zeroed = absurd (omega (arith, zeroed))

  served : (r : RestParts) (need : ℤ) (reports : List Report) → All (λ p. p < s.pass.cache.ways) (places_of s.pass.cache.ways r) → AreReports (Some st.contents) s.pass.words r need (places_of s.pass.cache.ways r) reports → NoneServes standing s.pass.cache.ways r need
  served r need reports below are place is = none_serves st.contents s.pass.words s.pass.cache.ways r need reports place st.keeps are (serving r need place below is)

same_standing : (old new : ReaderParts) (standing : List (Option Bounded)) → new.pass ≡ old.pass → new.contents ≡ old.contents → IsStanding old standing → IsStanding new standing
same_standing old new standing pass contents st = record {
  contents = st.contents;
  told = contents ∙ st.told;
  keeps = st.keeps;
  room = rw pass st.room;
  words = rw pass st.words;
  tidy = rw pass st.tidy;
  count = rw pass st.count;
  each = rw pass st.each;
}

-- the places of a problem, in a cache that has some
abbrev pub PlacesInside : ℕ → RestParts → Type 0
PlacesInside ways r = ways ≢ 0 → All (λ place. place < ways) (places_of ways r)

pub inside_of : (ways own : ℕ) (r : RestParts) (places : List ℕ) → ways ≡ own → places ≡ places_of ways r → All (λ place. place < own) places → All (λ place. place < ways) (places_of ways r)
inside_of ways own r places is are below = subst (λ ps. All (λ place. place < ways) ps) are (subst (λ n. All (λ place. place < n) places) (sym is) below)

-- ---- a lookup
pub look_stands : (r : RestParts) (need : ℤ) (answer : Look) (old new : ReaderParts) → PlacesInside old.pass.cache.ways r → IsLook r need answer old new → LooksAt r need answer old new
unfolding IsLook LooksAt IsLookBy IsServed IsReading gone_count
look_stands r need (look.Hit bound place) old new inside is standing st =
    let below = inside is.some_ways in
    let finds : FindsOne (Some st.contents) old.pass.words r need (places_of old.pass.cache.ways r) is.before bound place = rw st.told at is.finds in
    let (some, reading) = finds.serves in
    let (e, read, likes) = reading in
    let serving = serves old standing st r need place below (one_serves st.contents old.pass.words old.pass.cache.ways r need bound is.before place finds) in
    let within : place < old.pass.cache.ways = All-contains (λ p. p < old.pass.cache.ways) (places_of old.pass.cache.ways r) place below serving.over.in_groups in (
      same_standing old new standing is.looked.pass is.looked.contents st,
      (
        e,
        record {
          in_groups = serving.over.in_groups;
          stands = stands_under old standing st place within some ∙ read.place;
          dominates = likes.0;
        },
        likes.1,
        likes.2,
      ),
    )
look_stands r need (look.Miss missed) old new inside is standing st = elim (cases_eq old.pass.cache.ways 0) [
  | inl none ↦
      let (reports, places, same) = is.no_words none in
      (subst (λ x. IsStanding x standing) (sym same) st, (none_at_all old standing st r need none, ap gone_count reports ∙ no_cache_gone))
  | inr some ↦
      let looked = is.looked some in
      let are : AreReports (Some st.contents) old.pass.words r need (places_of old.pass.cache.ways r) missed.reports = rw st.told at (is.each some) in
      (same_standing old new standing looked.pass looked.contents st, (served old standing st r need missed.reports (inside some) are, no_gone old standing st r need (places_of old.pass.cache.ways r) missed.reports are (inside some)))
]
  where
    no_cache_gone : gone_count no_cache ≡ 0
    no_cache_gone = refl

-- ---- a publication
-- where the entry goes
place_is_for : (s : ReaderParts) (standing : List (Option Bounded)) (st : IsStanding s standing) (e : Bounded) (reports : List Report) → AreReports (Some st.contents) s.pass.words e.rest e.bound (places_of s.pass.cache.ways e.rest) reports → All (λ p. p < s.pass.cache.ways) (places_of s.pass.cache.ways e.rest) → IsPlaceFor standing s.pass.cache.ways e (place_for s e reports)
unfolding IsPlaceFor place_taken
place_is_for s standing st e reports are below = by_weak (position is_weak reports) refl
  where
    places : List ℕ
    places = places_of s.pass.cache.ways e.rest

    turn : ℕ
    turn = place_by_turn s.pass.cache.ways (near_digest e.rest) (far_digest e.rest)

    by_free : (free : Option ℕ) → position is_free reports ≡ free → NoneWith (HasWeaker standing e.rest e.bound) places → IsPlaceFor standing s.pass.cache.ways e (place_or places turn free)
    by_free (Some n) is none = inr (inl (none, first_free s standing st e.rest e.bound places reports are below n is))
    by_free None is none = inr (inr (none, none_free s standing st e.rest e.bound places reports are below is, refl))

    by_weak : (weak : Option ℕ) → position is_weak reports ≡ weak → IsPlaceFor standing s.pass.cache.ways e (place_or places (place_or places turn (position is_free reports)) weak)
    by_weak (Some n) is = inl (first_weaker s standing st e.rest e.bound places reports are below n is)
    by_weak None is = by_free (position is_free reports) refl (none_weaker s standing st e.rest e.bound places reports are below is)

-- what the shelf tells once an entry is put
told_after : (e : Bounded) (word key : ℕ) (c : Contents) (middle told : Option Contents) → WhereTold (Puts e (Ok key)) (Some c) middle → (word ≢ 0 → WhereTold (Removes (word - 1)) middle told) → (word ≡ 0 → told ≡ middle) → (c' : Contents) × (told ≡ Some c') × (c'.room ≡ c.room) × (c'.loses ≡ c.loses)
told_after e word key c None told puts removed kept = absurd puts
told_after e word key c (Some m) told puts removed kept = elim (cases_eq word 0) [
  | inl zeroed ↦ (m, kept zeroed, puts.2.room, puts.2.loses)
  | inr some ↦ taken told (removed some)
]
  where
    taken : (told : Option Contents) → WhereTold (Removes (word - 1)) (Some m) told → (c' : Contents) × (told ≡ Some c') × (c'.room ≡ c.room) × (c'.loses ≡ c.loses)
    taken None takes = absurd takes
    taken (Some c') takes = (c', refl, takes.1.room ∙ puts.2.room, takes.1.loses ∙ puts.2.loses)

standing_after : (standing : List (Option Bounded)) (e : Bounded) (place k : ℕ) → place < length standing → standing_at (put_in standing place e) k ≡ table_after (put.Stored place) e k (standing_at standing k)
standing_after standing e place k below = elim (cases_eq k place) [
  | inl same ↦ ap (λ n. standing_at (put_in standing place e) n) same ∙ get_or-set_same standing place (Some e) None below ∙ rw (by_equal k place same) refl
  | inr other ↦ get_or-set_other standing place k (Some e) None other ∙ rw (by_other k place other) refl
]

-- the table of what stands, as the clause on the table says it
changes : (answer : Put) (e : Bounded) (old new : ReaderParts) (c c' : Contents) → KeepsTable answer e old new → old.contents ≡ Some c → new.contents ≡ Some c' → IsTidy old.pass.words c.entries → ChangesTable answer e old.pass.words new.pass.words c.entries c'.entries
changes answer e old new c c' keeps told told' tidy = given (rw told at keeps)
  where
    given : IfSome new.contents (λ c'. IsTidy old.pass.words c.entries → ChangesTable answer e old.pass.words new.pass.words c.entries c'.entries) → ChangesTable answer e old.pass.words new.pass.words c.entries c'.entries
    given keeps = (rw told' at keeps) tidy

stored_stands : (e : Bounded) (place : ℕ) (old looked new : ReaderParts) (standing : List (Option Bounded)) → IsStanding old standing → place < old.pass.cache.ways → looked.pass ≡ old.pass → looked.contents ≡ old.contents → Stores place e looked new → KeepsTable (put.Stored place) e old new → IsStanding new (put_in standing place e)
stored_stands e place old looked new standing st below pass contents stores keeps =
    let (c', told, room, loses) = told_after e (word_at looked.pass.words place) stores.key st.contents stores.middle new.contents (rw (contents ∙ st.told) at stores.put) stores.removed stores.kept in
    let table = changes (put.Stored place) e old new st.contents c' keeps st.told told st.tidy in
    let ways : new.pass.cache.ways ≡ old.pass.cache.ways = ap (λ (p : PassWords). p.cache.ways) stores.words ∙ ap (λ (p : PassWords). p.cache.ways) pass in
    let words : length new.pass.words ≡ length old.pass.words = ap (λ (p : PassWords). length p.words) stores.words ∙ length-set looked.pass.words place (stores.key + 1) ∙ ap (λ (p : PassWords). length p.words) pass in
    record {
      contents = c';
      told = told;
      keeps = loses ∙ st.keeps;
      room = omega (arith, ways, room, st.room);
      words = words ∙ st.words ∙ sym ways;
      tidy = table.tidy;
      count = length-set standing place (Some e) ∙ st.count ∙ sym ways;
      each = λ k inside.
          let within : k < old.pass.cache.ways = rw (sym ways) inside in
          standing_after standing e place k (rw st.count below) ∙ ap (λ o. table_after (put.Stored place) e k o) (st.each k within) ∙ sym (table.table k (rw st.words within));
    }

-- the shelf has room, since it has no more entries than there are places
never_full : (e : Bounded) (s : ReaderParts) (standing : List (Option Bounded)) (st : IsStanding s standing) (fault : NotKept) (told : Option Contents) → WhereTold (Puts e (Err fault)) (Some st.contents) told → ⊥
never_full e s standing st fault None puts = puts
never_full e s standing st fault (Some c) puts =
    let few = count_by-le-length (λ w. not (w == 0)) s.pass.words in
    absurd (omega (arith, few, st.tidy.count, st.words, st.room, puts.0))

pub put_stands : (e : Bounded) (answer : Put) (old new : ReaderParts) → PlacesInside old.pass.cache.ways e.rest → ((place : ℕ) → answer ≡ put.Stored place → place < old.pass.cache.ways) → IsPut e old answer new → KeepsTable answer e old new → PutsAt e answer old new
unfolding IsPut PutsAt IsPutBy IsStored
put_stands e (put.AlreadyThere place) old new inside within is keeps standing st =
    let below = inside is.some_ways in (
      same_standing old new standing is.looked.pass is.looked.contents st,
      serves old standing st e.rest e.bound place below (one_serves st.contents old.pass.words old.pass.cache.ways e.rest e.bound is.bound is.before place (rw st.told at is.finds)),
    )
put_stands e put.Refused old new inside within (inl none) keeps standing st = (subst (λ x. IsStanding x standing) (sym none.1) st, none.0)
put_stands e put.Refused old new inside within (inr (reports, looked, none, refuses)) keeps standing st =
    absurd (never_full e old standing st refuses.fault new.contents (rw (none.looked.contents ∙ st.told) at refuses.put))
put_stands e (put.Stored place) old new inside within (reports, looked, none, stored) keeps standing st =
    let below = inside none.some_ways in
    let are : AreReports (Some st.contents) old.pass.words e.rest e.bound (places_of old.pass.cache.ways e.rest) reports = rw st.told at none.each in
    let stores : Stores place e looked new = subst (λ n. Stores n e looked new) (sym stored.0) stored.1 in (
      stored_stands e place old looked new standing st (within place refl) none.looked.pass none.looked.contents stores keeps,
      (
        served old standing st e.rest e.bound reports below are,
        subst (IsPlaceFor standing old.pass.cache.ways e) (sym stored.0) (place_is_for old standing st e reports are below),
        within place refl,
      ),
    )
