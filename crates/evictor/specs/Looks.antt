-- What a lookup answers. It is this project's own.
use Rattle.std.specs.Prelude.{◌≡◌, ◌≢◌, ℕ, List, ℤ}
use Rattle.fzn_model.specs.Rests.{RestParts}
use Rattle.entry_slab.specs.Entries.{counted}
use Rattle.evictor.specs.declared.report.Report.{Report}
use Rattle.evictor.specs.Misses.{MissedParts}
use Rattle.evictor.specs.declared.look.Look.{Look}
use Rattle.evictor.specs.declared.look.Look.TheVariants as look
use Rattle.evictor.specs.Places.{places_of}
use Rattle.evictor.specs.Reports.{AreReports, FindsOne, gone_count, no_cache, no_places}
use Rattle.evictor.specs.Readers.{ReaderParts, Looked}

-- an entry serves, the first in the order of the eight places
pub record IsHit (r : RestParts) (need bound : ℤ) (place : ℕ) (old new : ReaderParts) : Type 0 where
  pub some_ways : old.pass.cache.ways ≢ 0
  pub before : List Report
  pub finds : FindsOne old.contents old.pass.words r need (places_of old.pass.cache.ways r) before bound place
  pub looked : Looked (gone_count before) old new
  pub hits : new.hits ≡ counted old.hits

-- none of the eight serves, and the reports say why; or the cache has no words
pub record IsMiss (r : RestParts) (need : ℤ) (missed : MissedParts) (old new : ReaderParts) : Type 0 where
  pub named : missed.rest ≡ r
  pub needed : missed.need ≡ need
  pub hits : new.hits ≡ old.hits
  pub looked : old.pass.cache.ways ≢ 0 → Looked (gone_count missed.reports) old new
  pub each : old.pass.cache.ways ≢ 0 → AreReports old.contents old.pass.words r need (places_of old.pass.cache.ways r) missed.reports
  pub places : old.pass.cache.ways ≢ 0 → missed.places ≡ places_of old.pass.cache.ways r
  pub no_words : old.pass.cache.ways ≡ 0 → (missed.reports ≡ no_cache) × (missed.places ≡ no_places) × (new ≡ old)

-- What each answer of a lookup says.
unfoldable pub IsLook : RestParts → ℤ → Look → ReaderParts → ReaderParts → Type 0
IsLook r need (look.Hit bound place) old new = IsHit r need bound place old new
IsLook r need (look.Miss missed) old new = IsMiss r need missed old new
