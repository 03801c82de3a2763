-- Which entries of the table serve, by what was read; and the table after each answer of a publication.
use Rattle.std.proofs.Common.{◌≡◌, ◌≢◌, ℕ, zero, suc, ◌+◌, ◌-◌, ◌<◌, inl, inr, Bool, true, false, List, [], ◌∷◌, length, set, slice_index, slice_index_or, Some, None, refl, sym, ap, subst, ◌∙◌, arith, ℤ, ◌≤ℤ◌}
use Rattle.std.specs.Prelude.{◌↔◌, IfSome, Ok, Err}
use Rattle.std.specs.declared.option.Option.{Option}
use Rattle.std.proofs.lemmas.Int.{ints}
use Rattle.std.proofs.lemmas.Bool.{cases_eq}
use Rattle.fzn_model.specs.Rests.{RestParts}
use Rattle.rest_key.specs.Dominance.{Dominates}
use Rattle.entry_slab.specs.Entries.{Bounded}
use Rattle.entry_slab.specs.Contents.{Contents, entry_under, Adds, TakesOut, WhereTold, Puts, Removes}
use Rattle.entry_slab.specs.Readings.{IsReading}
use Rattle.entry_slab.specs.declared.shelf.NotKept.{NotKept}
use Rattle.evictor.specs.declared.report.Report.{Report}
use Rattle.evictor.specs.declared.report.Report.TheVariants as report
use Rattle.evictor.specs.declared.put.Put.{Put}
use Rattle.evictor.specs.declared.put.Put.TheVariants as put
use Rattle.evictor.specs.Passes.{PassWords, word_at}
use Rattle.evictor.specs.Places.{places_of}
use Rattle.evictor.specs.Reports.{IsReport, IsServed, AreReports, FindsOne}
use Rattle.evictor.specs.Readers.{ReaderParts}
use Rattle.evictor.specs.Puts.{IsStored, FindsNone, IsThere, IsPut}
use Rattle.evictor.specs.Tables.{entry_at, IsTidy, ChangesTable, KeepsTable, table_after, Serves, IsThereAt, FindsExactly}
use Rattle.evictor.proofs.Tidying.{Swaps, some_none, some_of, where_zero, where_some, swapped}

-- ---- what serves
pub some_same : (x y : Bounded) → Some x ≡ Some y → x ≡ y
some_same x y is = ap (λ (o : Option Bounded). get x o) is
  where
    get : Bounded → Option Bounded → Bounded
    get d (Some z) = z
    get d None = d

-- the entry of a word that isn't 0
pub under : (words : List ℕ) (entries : List (ℕ × Bounded)) (place : ℕ) → word_at words place ≢ 0 → entry_at words entries place ≡ entry_under entries (word_at words place - 1)
unfolding entry_at
under words entries place some = where_some (word_at words place) None (entry_under entries (word_at words place - 1)) some

pub none_at : (words : List ℕ) (entries : List (ℕ × Bounded)) (place : ℕ) → word_at words place ≡ 0 → entry_at words entries place ≡ None
unfolding entry_at
none_at words entries place zeroed = where_zero (word_at words place) None (entry_under entries (word_at words place - 1)) zeroed

yes_no : (b : Bool) → b ≡ true → b ≡ false → ⊥
yes_no b is isnt = absurd (cc)

-- a report on the word at a place excludes that its entry serves
excludes : (c : Contents) (words : List ℕ) (r : RestParts) (need : ℤ) (place : ℕ) (q : Report) (e : Bounded) → c.loses ≡ false → IsReport (Some c) r need (word_at words place) q → entry_at words c.entries place ≡ Some e → Dominates e.rest r → need ≤ℤ e.bound → ⊥
unfolding IsReport IsReading
excludes c words r need place report.Empty e keeps is stands dominates bound = some_none e _ stands (none_at words c.entries place is)
excludes c words r need place report.Gone e keeps is stands dominates bound =
    elim is.1 [
      | inl none ↦ some_none e _ (sym (under words c.entries place is.0) ∙ stands) none
      | inr loses ↦ yes_no c.loses loses keeps
    ]
excludes c words r need place report.Unlike e keeps is stands dominates bound =
    let (e', read, unlike) = is.1 in
    let same = some_same e e' (sym stands ∙ under words c.entries place is.0 ∙ read.place) in
    unlike (subst (λ (x : Bounded). Dominates x.rest r) same dominates)
excludes c words r need place (report.Weak b) e keeps is stands dominates bound =
    let (e', read, likes) = is.1 in
    let same = some_same e e' (sym stands ∙ under words c.entries place is.0 ∙ read.place) in
    let equal = ap (λ (x : Bounded). x.bound) same in
    omega (arith, ints, bound, equal, likes.1, likes.2)
excludes c words r need place report.NoCache e keeps is stands dominates bound = is

report_on : (told : Option Contents) (words : List ℕ) (r : RestParts) (need : ℤ) (places : List ℕ) (reports : List Report) (k : ℕ) (d : ℕ) → AreReports told words r need places reports → k < length places → (q : Report) × IsReport told r need (word_at words (slice_index_or places k d)) q
unfolding AreReports
report_on told words r need [] reports k d are below = absurd (omega (arith, below))
report_on told words r need (p ∷ ps) [] k d are below = absurd are
report_on told words r need (p ∷ ps) (q ∷ qs) zero d are below = (q, are.0)
report_on told words r need (p ∷ ps) (q ∷ qs) (suc k) d are below = report_on told words r need ps qs k d are.1 (omega (arith, below))

pub none_serves : (c : Contents) (words : List ℕ) (ways : ℕ) (r : RestParts) (need : ℤ) (reports : List Report) (place : ℕ) → c.loses ≡ false → AreReports (Some c) words r need (places_of ways r) reports → Serves words c.entries ways r need place → ⊥
none_serves c words ways r need reports place keeps are serves =
    let (k, below, is) = serves.in_groups in
    let (q, report) = report_on (Some c) words r need (places_of ways r) reports k place are below in
    excludes c words r need place q serves.entry keeps (subst (λ n. IsReport (Some c) r need (word_at words n) q) is report) serves.stands serves.dominates serves.bound

pub one_serves : (c : Contents) (words : List ℕ) (ways : ℕ) (r : RestParts) (need bound : ℤ) (before : List Report) (place : ℕ) → FindsOne (Some c) words r need (places_of ways r) before bound place → Serves words c.entries ways r need place
unfolding IsServed IsReading
one_serves c words ways r need bound before place finds =
    let some = finds.serves.0 in
    let (e, read, likes) = finds.serves.1 in
    record {
      entry = e;
      in_groups = (length before, finds.few, within (places_of ways r) (length before) place finds.few ∙ sym finds.«at»);
      stands = under words c.entries place some ∙ read.place;
      dominates = likes.0;
      bound = omega (arith, ints, likes.1, likes.2);
    }
  where
    within : (ps : List ℕ) (k d : ℕ) → k < length ps → slice_index_or ps k d ≡ slice_index ps k
    within [] k d below = absurd (omega (arith, below))
    within (p ∷ ps) zero d below = refl
    within (p ∷ ps) (suc k) d below = within ps k d (omega (arith, below))

pub there_exactly : (e : Bounded) (s new : ReaderParts) (place : ℕ) → IsThere e place s new → FindsExactly e s (put.AlreadyThere place)
there_exactly e s new place is = by_told s.contents refl
  where
    by_told : (told : Option Contents) → s.contents ≡ told → IfSome s.contents (λ c. c.loses ≡ false → s.pass.cache.ways ≢ 0 → IsThereAt (put.AlreadyThere place) ↔ ((place : ℕ) × Serves s.pass.words c.entries s.pass.cache.ways e.rest e.bound place))
    by_told None told = rw told tt
    by_told (Some c) told = rw told (λ keeps some. ((λ _. (place, one_serves c s.pass.words s.pass.cache.ways e.rest e.bound is.bound is.before place (rw told at is.finds))), λ _. (place, refl)))

not_there : (answer : Put) → ((place : ℕ) → answer ≡ put.AlreadyThere place → ⊥) → IsThereAt answer → ⊥
not_there answer other (place, is) = other place is

pub none_exactly : (e : Bounded) (s new : ReaderParts) (answer : Put) (reports : List Report) → FindsNone e reports s new → ((place : ℕ) → answer ≡ put.AlreadyThere place → ⊥) → FindsExactly e s answer
none_exactly e s new answer reports is other = by_told s.contents refl
  where
    by_told : (told : Option Contents) → s.contents ≡ told → FindsExactly e s answer
    by_told None told = rw told tt
    by_told (Some c) told = rw told (λ keeps some. ((λ there. absurd (not_there answer other there)), λ found. absurd (none_serves c s.pass.words s.pass.cache.ways e.rest e.bound reports found.0 keeps (rw told at is.each) found.1)))

pub no_ways_exactly : (e : Bounded) (s : ReaderParts) → s.pass.cache.ways ≡ 0 → FindsExactly e s put.Refused
no_ways_exactly e s none = by_told s.contents refl
  where
    by_told : (told : Option Contents) → s.contents ≡ told → FindsExactly e s put.Refused
    by_told None told = rw told tt
    by_told (Some c) told = rw told (λ keeps some. absurd (some none))

-- ---- the table
abbrev KeepsGiven : Put → Bounded → List ℕ → List ℕ → Option Contents → Option Contents → Type 0
KeepsGiven answer e words words' told told' = IfSome told (λ c. IfSome told' (λ c'. IsTidy words c.entries → ChangesTable answer e words words' c.entries c'.entries))

same_after : (answer : Put) (e : Bounded) (place : ℕ) (before : Option Bounded) → ((at : ℕ) → answer ≡ put.Stored at → ⊥) → before ≡ table_after answer e place before
same_after (put.Stored at) e place before other = absurd (other at refl)
same_after (put.AlreadyThere at) e place before other = refl
same_after put.Refused e place before other = refl

same_given : (answer : Put) (e : Bounded) (words : List ℕ) (told : Option Contents) → ((at : ℕ) → answer ≡ put.Stored at → ⊥) → KeepsGiven answer e words words told told
same_given answer e words None other = tt
same_given answer e words (Some c) other = λ tidy. record { tidy = tidy; table = λ place below. same_after answer e place (entry_at words c.entries place) other }

-- nothing changed but counts
same_table : (answer : Put) (e : Bounded) (old new : ReaderParts) → ((at : ℕ) → answer ≡ put.Stored at → ⊥) → new.pass ≡ old.pass → new.contents ≡ old.contents → KeepsTable answer e old new
same_table answer e old new other pass contents =
    subst (λ (p : PassWords). KeepsGiven answer e old.pass.words p.words old.contents new.contents) (sym pass)
    (subst (λ (t : Option Contents). KeepsGiven answer e old.pass.words old.pass.words old.contents t) (sym contents)
    (same_given answer e old.pass.words old.contents other))

-- an entry was put where no other stood
put_alone : (words : List ℕ) (place key : ℕ) (e : Bounded) (old new : List (ℕ × Bounded)) → place < length words → word_at words place ≡ 0 → Adds key e old new → Swaps words place key e old new
put_alone words place key e old new inside zeroed adds = record {
  inside = inside;
  absent = adds.absent;
  there = adds.there;
  gone = λ some. absurd (some zeroed);
  others = λ k other _. adds.others k other;
  more = λ _. adds.count;
  as_many = λ some. absurd (some zeroed);
}

-- an entry was put, and the one that stood at the place was taken out
put_over : (words : List ℕ) (place key : ℕ) (e : Bounded) (old middle new : List (ℕ × Bounded)) → place < length words → word_at words place ≢ 0 → IsTidy words old → Adds key e old middle → TakesOut (word_at words place - 1) middle new → Swaps words place key e old new
put_over words place key e old middle new inside some tidy adds takes =
    let apart : word_at words place - 1 ≢ key = λ same. tidy.there place inside some (ap (λ n. entry_under old n) same ∙ adds.absent) in
    let (before, stood) = some_of (entry_under old (word_at words place - 1)) (tidy.there place inside some) in
    let fewer = takes.one before (adds.others (word_at words place - 1) apart ∙ stood) in
    record {
      inside = inside;
      absent = adds.absent;
      there = takes.others key (λ same. apart (sym same)) ∙ adds.there;
      gone = λ _. takes.gone;
      others = λ k other kept. takes.others k (λ same. kept (omega (arith, some, same))) ∙ adds.others k other;
      more = λ zeroed. absurd (some zeroed);
      as_many = λ _. omega (arith, fewer, adds.count);
    }

pub contents_same : (c c' : Contents) → Some c ≡ Some c' → c ≡ c'
contents_same c c' is = ap (λ (o : Option Contents). get c o) is
  where
    get : Contents → Option Contents → Contents
    get d (Some z) = z
    get d None = d

none_isnt : (c : Contents) → None ≡ Some c → ⊥
none_isnt c is = absurd (cc)

stored_given : (e : Bounded) (words : List ℕ) (place key : ℕ) (told middle told' : Option Contents) → place < length words → WhereTold (Puts e (Ok key)) told middle → (word_at words place ≢ 0 → WhereTold (Removes (word_at words place - 1)) middle told') → (word_at words place ≡ 0 → told' ≡ middle) → KeepsGiven (put.Stored place) e words (set words place (key + 1)) told told'
stored_given e words place key None middle told' inside puts removed kept = tt
stored_given e words place key (Some c) None told' inside puts removed kept = absurd puts
stored_given e words place key (Some c) (Some m) None inside puts removed kept = tt
stored_given e words place key (Some c) (Some m) (Some c') inside puts removed kept =
    λ tidy. elim (cases_eq (word_at words place) 0) [
      | inl zeroed ↦ swapped words place key e c.entries c'.entries tidy
          (subst (λ (x : Contents). Swaps words place key e c.entries x.entries) (sym (contents_same c' m (kept zeroed))) (put_alone words place key e c.entries m.entries inside zeroed puts.1))
      | inr some ↦ swapped words place key e c.entries c'.entries tidy (put_over words place key e c.entries m.entries c'.entries inside some tidy puts.1 (removed some).0)
    ]

refused_same : (e : Bounded) (n : NotKept) (told told' : Option Contents) → WhereTold (Puts e (Err n)) told told' → told' ≡ told
refused_same e n None None puts = refl
refused_same e n None (Some c) puts = absurd puts
refused_same e n (Some c) None puts = absurd puts
refused_same e n (Some c) (Some c') puts = ap (λ x. Some x) puts.1

pub put_table : (e : Bounded) (old : ReaderParts) (answer : Put) (new : ReaderParts) → ((at : ℕ) → answer ≡ put.Stored at → at < length old.pass.words) → IsPut e old answer new → KeepsTable answer e old new
unfolding IsPut IsStored
put_table e old (put.AlreadyThere place) new inside is =
    same_table (put.AlreadyThere place) e old new (λ at same. absurd (cc)) (is.looked.pass) (is.looked.contents)
put_table e old put.Refused new inside (inl none) =
    same_table put.Refused e old new (λ at same. absurd (cc)) (ap (λ (s : ReaderParts). s.pass) none.1) (ap (λ (s : ReaderParts). s.contents) none.1)
put_table e old put.Refused new inside (inr (reports, looked, none, refuses)) =
    same_table put.Refused e old new (λ at same. absurd (cc))
    (refuses.pass ∙ none.looked.pass)
    (refused_same e refuses.fault looked.contents new.contents refuses.put ∙ none.looked.contents)
put_table e old (put.Stored place) new inside (reports, looked, none, stored) =
    let here = stored.0 in
    let stores = stored.1 in
    let pass = none.looked.pass in
    let words : looked.pass.words ≡ old.pass.words = ap (λ (p : PassWords). p.words) pass in
    let contents = none.looked.contents in
    let given = stored_given e looked.pass.words place stores.key looked.contents stores.middle new.contents
    (rw words (inside place refl)) stores.put
    (λ some. subst (λ n. WhereTold (Removes (word_at looked.pass.words n - 1)) stores.middle new.contents) (sym here) (stores.removed (λ zeroed. some (ap (λ n. word_at looked.pass.words n) here ∙ zeroed))))
    (λ zeroed. stores.kept (ap (λ n. word_at looked.pass.words n) (sym here) ∙ zeroed)) in
    let after : new.pass.words ≡ set looked.pass.words place (stores.key + 1) = ap (λ (p : PassWords). p.words) stores.words ∙ ap (λ n. set looked.pass.words n (stores.key + 1)) (sym here) in
    subst (λ (ws : List ℕ). KeepsGiven (put.Stored place) e old.pass.words ws old.contents new.contents) (sym after)
    (subst (λ (ws : List ℕ). KeepsGiven (put.Stored place) e ws (set looked.pass.words place (stores.key + 1)) old.contents new.contents) words
    (subst (λ (t : Option Contents). KeepsGiven (put.Stored place) e looked.pass.words (set looked.pass.words place (stores.key + 1)) t new.contents) contents given))
