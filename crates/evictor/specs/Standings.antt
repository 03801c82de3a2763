-- Which entry stands at each place of a cache, and what a lookup and a publication make of it, where the shelf tells its
-- contents, loses none, and has room for one entry more than there are places. It is this project's own.
use Rattle.std.specs.Prelude.{◌≡◌, ◌≢◌, ℕ, ◌<◌, ◌⊎◌, false, List, length, set, slice_index_or, ℤ, ◌<ℤ◌, ◌≤ℤ◌, Some, None, Contains}
use Rattle.std.specs.declared.option.Option.{Option}
use Rattle.fzn_model.specs.Rests.{RestParts}
use Rattle.rest_key.specs.Dominance.{Dominates}
use Rattle.entry_slab.specs.Entries.{Bounded, near_digest, far_digest}
use Rattle.entry_slab.specs.Contents.{Contents}
use Rattle.evictor.specs.declared.look.Look.{Look}
use Rattle.evictor.specs.declared.look.Look.TheVariants as look
use Rattle.evictor.specs.declared.put.Put.{Put}
use Rattle.evictor.specs.declared.put.Put.TheVariants as put
use Rattle.evictor.specs.Places.{places_of, place_by_turn}
use Rattle.evictor.specs.Reports.{gone_count}
use Rattle.evictor.specs.Readers.{ReaderParts}
use Rattle.evictor.specs.Tables.{entry_at, IsTidy}

-- the entry that stands at a place, or none; a list has one for each place
abbrev pub standing_at : List (Option Bounded) → ℕ → Option Bounded
standing_at standing place = slice_index_or standing place None

-- the entry is put in a place, whatever stood there
abbrev pub put_in : List (Option Bounded) → ℕ → Bounded → List (Option Bounded)
put_in standing place e = set standing place (Some e)

-- an entry that stands at one of a residual problem's eight places dominates it
pub record StandsOver (standing : List (Option Bounded)) (ways : ℕ) (r : RestParts) (place : ℕ) (e : Bounded) : Type 0 where
  pub in_groups : Contains (places_of ways r) place
  pub stands : standing_at standing place ≡ Some e
  pub dominates : Dominates e.rest r

-- so it does with at least the bound that is needed
pub record ServesAt (standing : List (Option Bounded)) (ways : ℕ) (r : RestParts) (need : ℤ) (place : ℕ) : Type 0 where
  pub entry : Bounded
  pub over : StandsOver standing ways r place entry
  pub bound : need ≤ℤ entry.bound

abbrev pub NoneServes : List (Option Bounded) → ℕ → RestParts → ℤ → Type 0
NoneServes standing ways r need = (place : ℕ) → ServesAt standing ways r need place → ⊥

-- the first of some places that is so
pub record IsFirstWith (P : ℕ → Type 0) (places : List ℕ) (place : ℕ) : Type 0 where
  pub number : ℕ
  pub inside : number < length places
  pub is : place ≡ slice_index_or places number 0
  pub so : P place
  pub before : (k : ℕ) → k < number → P (slice_index_or places k 0) → ⊥

-- none of some places is so
unfoldable pub NoneWith : (ℕ → Type 0) → List ℕ → Type 0
NoneWith P places = (k : ℕ) → k < length places → P (slice_index_or places k 0) → ⊥

-- the entry at the place dominates the residual problem with a lesser bound
unfoldable pub HasWeaker : List (Option Bounded) → RestParts → ℤ → ℕ → Type 0
HasWeaker standing r bound place = (e : Bounded) × (standing_at standing place ≡ Some e) × Dominates e.rest r × (e.bound <ℤ bound)

unfoldable pub HasNoEntry : List (Option Bounded) → ℕ → Type 0
HasNoEntry standing place = standing_at standing place ≡ None

-- where an entry goes: to the first of its problem's eight places whose entry dominates the problem with a lesser bound; where
-- there is none, to the first without an entry; where there is none of these either, to the one whose turn it is
unfoldable pub IsPlaceFor : List (Option Bounded) → ℕ → Bounded → ℕ → Type 0
IsPlaceFor standing ways e place =
    IsFirstWith (HasWeaker standing e.rest e.bound) (places_of ways e.rest) place ⊎
    (NoneWith (HasWeaker standing e.rest e.bound) (places_of ways e.rest) × IsFirstWith (HasNoEntry standing) (places_of ways e.rest) place) ⊎
    (NoneWith (HasWeaker standing e.rest e.bound) (places_of ways e.rest) × NoneWith (HasNoEntry standing) (places_of ways e.rest) × (place ≡ place_by_turn ways (near_digest e.rest) (far_digest e.rest)))

-- What an answer of a publication means: the entry is put where it belongs, unless one that stands there serves as well, or
-- the cache has no places.
unfoldable pub IsPutBy : List (Option Bounded) → ℕ → Bounded → Put → Type 0
IsPutBy standing ways e (put.Stored place) = NoneServes standing ways e.rest e.bound × IsPlaceFor standing ways e place × (place < ways)
IsPutBy standing ways e (put.AlreadyThere place) = ServesAt standing ways e.rest e.bound place
IsPutBy standing ways e put.Refused = ways ≡ 0

-- what stands after it
abbrev pub standing_by : Put → Bounded → List (Option Bounded) → List (Option Bounded)
standing_by (put.Stored place) e standing = put_in standing place e
standing_by (put.AlreadyThere place) e standing = standing
standing_by put.Refused e standing = standing

-- What an answer of a lookup means: the entry at the place serves; or none does, and no reading found nothing.
unfoldable pub IsLookBy : List (Option Bounded) → ℕ → RestParts → ℤ → Look → Type 0
IsLookBy standing ways r need (look.Hit bound place) = (e : Bounded) × StandsOver standing ways r place e × (e.bound ≡ bound) × (need ≤ℤ bound)
IsLookBy standing ways r need (look.Miss missed) = NoneServes standing ways r need × (gone_count missed.reports ≡ 0)

-- The shelf tells its contents, loses none, and has room for an entry more than there are places; words and shelf fit
-- together; and this is what stands.
pub record IsStanding (s : ReaderParts) (standing : List (Option Bounded)) : Type 0 where
  pub contents : Contents
  pub told : s.contents ≡ Some contents
  pub keeps : contents.loses ≡ false
  pub room : s.pass.cache.ways < contents.room
  pub words : length s.pass.words ≡ s.pass.cache.ways
  pub tidy : IsTidy s.pass.words contents.entries
  pub count : length standing ≡ s.pass.cache.ways
  pub each : (place : ℕ) → place < s.pass.cache.ways → standing_at standing place ≡ entry_at s.pass.words contents.entries place

-- a lookup leaves what stands, and answers by it
unfoldable pub LooksAt : RestParts → ℤ → Look → ReaderParts → ReaderParts → Type 0
LooksAt r need answer old new = (standing : List (Option Bounded)) → IsStanding old standing → IsStanding new standing × IsLookBy standing old.pass.cache.ways r need answer

-- a publication answers by what stands, and changes it by its answer alone
unfoldable pub PutsAt : Bounded → Put → ReaderParts → ReaderParts → Type 0
PutsAt e answer old new = (standing : List (Option Bounded)) → IsStanding old standing → IsStanding new (standing_by answer e standing) × IsPutBy standing old.pass.cache.ways e answer
