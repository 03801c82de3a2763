-- What the readings of the words of a cache say of a residual problem and of the bound that it needs. It is this project's
-- own.
use Rattle.std.specs.Prelude.{◌≡◌, ◌≢◌, ℕ, ◌-◌, ◌<◌, Bool, true, false, if◌then◌else◌, List, [], ◌∷◌, length, slice_index, take, ℤ, ⊤}
use Rattle.std.specs.List.{count_by}
use Rattle.std.specs.declared.option.Option.{Option}
use Rattle.fzn_model.specs.Rests.{RestParts}
use Rattle.entry_slab.specs.Contents.{Contents}
use Rattle.entry_slab.specs.Readings.{IsReading}
use Rattle.entry_slab.specs.declared.reading.Reading.TheVariants as reading
use Rattle.evictor.specs.declared.report.Report.{Report}
use Rattle.evictor.specs.declared.report.Report.TheVariants as report
use Rattle.evictor.specs.declared.found.Found.{Found}
use Rattle.evictor.specs.declared.found.Found.TheVariants as found
use Rattle.evictor.specs.declared.scan.Scanned.{Scanned}
use Rattle.evictor.specs.declared.scan.Scanned.TheVariants as scanned
use Rattle.evictor.specs.Passes.{word_at}

-- the word led to no entry that serves, and this is why: it is 0, or the reading of its key said so
unfoldable pub IsReport : Option Contents → RestParts → ℤ → ℕ → Report → Type 0
IsReport told r need word report.Empty = word ≡ 0
IsReport told r need word report.Gone = (word ≢ 0) × IsReading told (word - 1) r need reading.Gone
IsReport told r need word report.Unlike = (word ≢ 0) × IsReading told (word - 1) r need reading.Unlike
IsReport told r need word (report.Weak b) = (word ≢ 0) × IsReading told (word - 1) r need (reading.Weak b)
IsReport told r need word report.NoCache = ⊥

-- the word led to an entry that serves: it dominates the problem, and its bound is at least the one needed
unfoldable pub IsServed : Option Contents → RestParts → ℤ → ℕ → ℤ → Type 0
IsServed told r need word b = (word ≢ 0) × IsReading told (word - 1) r need (reading.Hit b)

abbrev pub IsFound : Option Contents → RestParts → ℤ → ℕ → Found → Type 0
IsFound told r need word (found.Serves b) = IsServed told r need word b
IsFound told r need word (found.Not q) = IsReport told r need word q

-- one report for each of the places, in order
unfoldable pub AreReports : Option Contents → List ℕ → RestParts → ℤ → List ℕ → List Report → Type 0
AreReports told words r need [] [] = ⊤
AreReports told words r need (place ∷ places) [] = ⊥
AreReports told words r need [] (q ∷ qs) = ⊥
AreReports told words r need (place ∷ places) (q ∷ qs) = IsReport told r need (word_at words place) q × AreReports told words r need places qs

-- The places were read in order up to one of them, which is the first whose entry serves.
pub record FindsOne (told : Option Contents) (words : List ℕ) (r : RestParts) (need : ℤ) (places : List ℕ) (before : List Report) (bound : ℤ) (place : ℕ) : Type 0 where
  pub few : length before < length places
  pub reports : AreReports told words r need (take (length before) places) before
  pub «at» : place ≡ slice_index places (length before)
  pub serves : IsServed told r need (word_at words place) bound

abbrev pub is_weak : Report → Bool
is_weak (report.Weak b) = true
is_weak report.Empty = false
is_weak report.Gone = false
is_weak report.Unlike = false
is_weak report.NoCache = false

abbrev pub is_free : Report → Bool
is_free report.Empty = true
is_free report.Gone = true
is_free (report.Weak b) = false
is_free report.Unlike = false
is_free report.NoCache = false

abbrev pub is_gone : Report → Bool
is_gone report.Gone = true
is_gone report.Empty = false
is_gone (report.Weak b) = false
is_gone report.Unlike = false
is_gone report.NoCache = false

-- how many readings found nothing
unfoldable pub gone_count : List Report → ℕ
gone_count reports = count_by is_gone reports

-- whether one reading found nothing
abbrev pub gone_by : Found → ℕ
gone_by (found.Serves b) = 0
gone_by (found.Not q) = if is_gone q then 1 else 0

-- how many of the readings of a scan found nothing
abbrev pub gone_in : Scanned → ℕ
gone_in (scanned.Served bound at reports) = gone_count (take at reports)
gone_in (scanned.Unserved reports) = gone_count reports

-- the place that serves is one of the eight
abbrev pub IsOneOfEight : Scanned → Type 0
IsOneOfEight (scanned.Served bound at reports) = at < 8
IsOneOfEight (scanned.Unserved reports) = ⊤

-- what a scan of some places says: one serves, and the reports are on those before it; or none does, and they are on all
unfoldable pub IsScan : Option Contents → List ℕ → RestParts → ℤ → List ℕ → Scanned → Type 0
IsScan told words r need places (scanned.Served bound at reports) =
    (at < length places) × AreReports told words r need (take at places) (take at reports) × IsServed told r need (word_at words (slice_index places at)) bound
IsScan told words r need places (scanned.Unserved reports) = AreReports told words r need places reports

abbrev pub no_cache : List Report
no_cache = report.NoCache ∷ report.NoCache ∷ report.NoCache ∷ report.NoCache ∷ report.NoCache ∷ report.NoCache ∷ report.NoCache ∷ report.NoCache ∷ []

abbrev pub no_places : List ℕ
no_places = 0 ∷ 0 ∷ 0 ∷ 0 ∷ 0 ∷ 0 ∷ 0 ∷ 0 ∷ []
