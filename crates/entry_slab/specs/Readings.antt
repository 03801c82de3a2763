-- What a reading of a shelf says. It is this project's own.
use Rattle.std.specs.Prelude.{◌≡◌, ℕ, ℤ, ◌<ℤ◌, ◌≤ℤ◌, ◌⊎◌, true, Some, None, IfSome}
use Rattle.std.specs.declared.option.Option.{Option}
use Rattle.fzn_model.specs.Rests.{RestParts, IsTrueEntry}
use Rattle.rest_key.specs.Dominance.{Dominates}
use Rattle.entry_slab.specs.Entries.{Bounded, Rose}
use Rattle.entry_slab.specs.Contents.{Contents, entry_under}
use Rattle.entry_slab.specs.declared.reading.Reading.{Reading}
use Rattle.entry_slab.specs.declared.reading.Reading.TheVariants as reading

-- the entry that was read under a key: it is true, and where the contents are told it is the one there
pub record IsRead (told : Option Contents) (key : ℕ) (e : Bounded) : Type 0 where
  pub truth : IsTrueEntry e.rest e.bound
  pub place : IfSome told (λ c. entry_under c.entries key ≡ Some e)

-- what the entry that was read says of a residual problem and of the bound that it needs
abbrev pub Says : RestParts → ℤ → Bounded → Reading → Type 0
Says rest need e (reading.Hit b) = Dominates e.rest rest × (e.bound ≡ b) × (need ≤ℤ b)
Says rest need e (reading.Weak b) = Dominates e.rest rest × (e.bound ≡ b) × (b <ℤ need)
Says rest need e reading.Unlike = ¬ (Dominates e.rest rest)
Says rest need e reading.Gone = ⊥

-- a reading found nothing: where the contents are told, no entry is there or the shelf loses calls
abbrev pub MayBeGone : Option Contents → ℕ → Type 0
MayBeGone told key = IfSome told (λ c. (entry_under c.entries key ≡ None) ⊎ (c.loses ≡ true))

-- A reading speaks of one entry that was read under the key, or it found nothing.
unfoldable pub IsReading : Option Contents → ℕ → RestParts → ℤ → Reading → Type 0
IsReading told key rest need (reading.Hit b) = (e : Bounded) × IsRead told key e × Says rest need e (reading.Hit b)
IsReading told key rest need (reading.Weak b) = (e : Bounded) × IsRead told key e × Says rest need e (reading.Weak b)
IsReading told key rest need reading.Unlike = (e : Bounded) × IsRead told key e × Says rest need e reading.Unlike
IsReading told key rest need reading.Gone = MayBeGone told key

-- absences rise where a reading found nothing, and only there
unfoldable pub CountsAbsence : Reading → ℕ → ℕ → Type 0
CountsAbsence (reading.Hit b) before now = now ≡ before
CountsAbsence (reading.Weak b) before now = now ≡ before
CountsAbsence reading.Unlike before now = now ≡ before
CountsAbsence reading.Gone before now = Rose before now
