-- What a scan tells a lookup and a publication.
use Rattle.std.proofs.Common.{◌≡◌, ◌≢◌, inr, ℕ, suc, ◌<◌, List, [], ◌∷◌, length, slice_index, take, refl, sym, ap, subst, ◌∙◌, arith, ℤ}
use Rattle.std.specs.declared.option.Option.{Option}
use Rattle.std.proofs.lemmas.List.{length-take}
use Rattle.fzn_model.specs.Rests.{RestParts}
use Rattle.entry_slab.specs.Entries.{Bounded, counted}
use Rattle.entry_slab.specs.Contents.{Contents}
use Rattle.evictor.specs.declared.report.Report.{Report}
use Rattle.evictor.specs.declared.scan.Scanned.TheVariants as scanned
use Rattle.evictor.specs.Places.{places_of}
use Rattle.evictor.specs.Reports.{AreReports, FindsOne, IsScan, gone_count}
use Rattle.evictor.specs.Readers.{ReaderParts, CountsAbsences, Looked}
use Rattle.evictor.specs.Looks.{IsHit}
use Rattle.evictor.specs.declared.put.Put.{Put}
use Rattle.evictor.specs.declared.put.Put.TheVariants as put
use Rattle.evictor.specs.Puts.{IsThere, FindsNone, IsStored, Stores, place_for, IsPut}

-- as many reports as places
pub counts : (told : Option Contents) (words : List ℕ) (r : RestParts) (need : ℤ) (places : List ℕ) (reports : List Report) → AreReports told words r need places reports → length reports ≡ length places
unfolding AreReports
counts told words r need [] [] are = refl
counts told words r need [] (q ∷ qs) are = absurd are
counts told words r need (p ∷ ps) [] are = absurd are
counts told words r need (p ∷ ps) (q ∷ qs) are = ap suc (counts told words r need ps qs are.1)

finds_one : (told : Option Contents) (words : List ℕ) (r : RestParts) (need : ℤ) (places : List ℕ) (bound : ℤ) (at : ℕ) (reports : List Report) → IsScan told words r need places (scanned.Served bound at reports) → FindsOne told words r need places (take at reports) bound (slice_index places at)
unfolding IsScan
finds_one told words r need places bound at reports (below, are, serves) =
    let count : length (take at reports) ≡ at = omega (arith, counts told words r need (take at places) (take at reports) are, length-take at places, below) in
    record {
      few = rw count below;
      reports = subst (λ n. AreReports told words r need (take n places) (take at reports)) (sym count) are;
      «at» = ap (λ n. slice_index places n) (sym count);
      serves = serves;
    }

pub hits : (old looked new : ReaderParts) (r : RestParts) (need bound : ℤ) (at : ℕ) (reports : List Report) (places : List ℕ) → places ≡ places_of old.pass.cache.ways r → old.pass.cache.ways ≢ 0 → IsScan old.contents old.pass.words r need places (scanned.Served bound at reports) → Looked (gone_count (take at reports)) old looked → looked.hits ≡ old.hits → new ≡ record looked { hits = counted looked.hits } → IsHit r need bound (slice_index places at) old new
hits old looked new r need bound at reports places are some scan is same counts_it = record {
  some_ways = some;
  before = take at reports;
  finds = subst (λ ps. FindsOne old.contents old.pass.words r need ps (take at reports) bound (slice_index places at)) are (finds_one old.contents old.pass.words r need places bound at reports scan);
  looked = record {
    pass = ap (λ (s : ReaderParts). s.pass) counts_it ∙ is.pass;
    contents = ap (λ (s : ReaderParts). s.contents) counts_it ∙ is.contents;
    refusals = ap (λ (s : ReaderParts). s.refusals) counts_it ∙ is.refusals;
    absences = subst (λ n. CountsAbsences (gone_count (take at reports)) old.absences n) (sym (ap (λ (s : ReaderParts). s.absences) counts_it)) is.absences;
    stores = ap (λ (s : ReaderParts). s.stores) counts_it ∙ is.stores;
    gone = ap (λ (s : ReaderParts). s.gone) counts_it ∙ is.gone;
  };
  hits = ap (λ (s : ReaderParts). s.hits) counts_it ∙ ap counted same;
}

pub is_there : (old new : ReaderParts) (e : Bounded) (r : RestParts) (need bound : ℤ) (at : ℕ) (reports : List Report) (places : List ℕ) → r ≡ e.rest → need ≡ e.bound → places ≡ places_of old.pass.cache.ways e.rest → old.pass.cache.ways ≢ 0 → IsScan old.contents old.pass.words r need places (scanned.Served bound at reports) → Looked (gone_count (take at reports)) old new → new.hits ≡ old.hits → IsThere e (slice_index places at) old new
is_there old new e r need bound at reports places rest least are some scan is same = record {
  some_ways = some;
  before = take at reports;
  bound = bound;
  finds = subst (λ ps. FindsOne old.contents old.pass.words e.rest e.bound ps (take at reports) bound (slice_index places at)) are (subst (λ x. FindsOne old.contents old.pass.words x e.bound places (take at reports) bound (slice_index places at)) rest (subst (λ n. FindsOne old.contents old.pass.words r n places (take at reports) bound (slice_index places at)) least (finds_one old.contents old.pass.words r need places bound at reports scan)));
  looked = is;
  hits = same;
}

pub finds_none : (old new : ReaderParts) (e : Bounded) (r : RestParts) (need : ℤ) (reports : List Report) (places : List ℕ) → r ≡ e.rest → need ≡ e.bound → places ≡ places_of old.pass.cache.ways e.rest → old.pass.cache.ways ≢ 0 → IsScan old.contents old.pass.words r need places (scanned.Unserved reports) → Looked (gone_count reports) old new → new.hits ≡ old.hits → FindsNone e reports old new
unfolding IsScan
finds_none old new e r need reports places rest least are some scan is same = record {
  some_ways = some;
  each = subst (λ ps. AreReports old.contents old.pass.words e.rest e.bound ps reports) are (subst (λ x. AreReports old.contents old.pass.words x e.bound places reports) rest (subst (λ n. AreReports old.contents old.pass.words r n places reports) least scan));
  looked = is;
  hits = same;
}

pub stored_put : (e : Bounded) (old looked : ReaderParts) (answer : Put) (new : ReaderParts) (reports : List Report) (place : ℕ) → FindsNone e reports old looked → place ≡ place_for old e reports → IsStored place e looked answer new → IsPut e old answer new
unfolding IsPut IsStored
stored_put e old looked (put.AlreadyThere at) new reports place none here stored = absurd stored
stored_put e old looked put.Refused new reports place none here stored = inr (reports, looked, none, stored)
stored_put e old looked (put.Stored at) new reports place none here stored = (reports, looked, none, (stored.0 ∙ here, subst (λ n. Stores n e looked new) here stored.1))

pub stored_inside : (e : Bounded) (looked : ReaderParts) (answer : Put) (new : ReaderParts) (place n : ℕ) → IsStored place e looked answer new → place < n → (at : ℕ) → answer ≡ put.Stored at → at < n
unfolding IsStored
stored_inside e looked (put.AlreadyThere at') new place n stored below at same = absurd stored
stored_inside e looked put.Refused new place n stored below at same = absurd (cc)
stored_inside e looked (put.Stored at') new place n stored below at same = omega (arith, ap stored_at same, stored.0, below)
  where
    stored_at : Put → ℕ
    stored_at (put.Stored k) = k
    stored_at (put.AlreadyThere k) = 0
    stored_at put.Refused = 0

pub stored_elsewhere : (e : Bounded) (looked : ReaderParts) (answer : Put) (new : ReaderParts) (place : ℕ) → IsStored place e looked answer new → (at : ℕ) → answer ≡ put.AlreadyThere at → ⊥
unfolding IsStored
stored_elsewhere e looked (put.AlreadyThere at') new place stored at same = stored
stored_elsewhere e looked put.Refused new place stored at same = absurd (cc)
stored_elsewhere e looked (put.Stored at') new place stored at same = absurd (cc)

-- what is stored, or refused, leaves the cache
pub stored_cache : (place : ℕ) (e : Bounded) (old new : ReaderParts) (answer : Put) → IsStored place e old answer new → new.pass.cache ≡ old.pass.cache
unfolding IsStored
stored_cache place e old new (put.Stored at) (is, stores) = ap (λ p. p.cache) stores.words
stored_cache place e old new put.Refused refuses = ap (λ p. p.cache) refuses.pass
stored_cache place e old new (put.AlreadyThere at) none = absurd none
