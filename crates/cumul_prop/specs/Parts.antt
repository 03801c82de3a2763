-- Cumulative tasks over a box: their compulsory parts, and what is used at the moments where parts begin and end.
use Rattle.std.specs.Prelude.{◌≡◌, ℕ, ◌<◌, ◌≤◌, ◌*◌, ◌^◌, ◌⊎◌, [], ◌∷◌, ◌++◌, List, map, length, slice_index_or, ℤ, pos, ◌≤ℤ◌, unsigned_abs, All, Any, Contains}
use Rattle.fzn_model.specs.declared.term.Term.{Term}
use Rattle.fzn_model.specs.declared.cumulative.CumTask.{CumTask}
use Rattle.fzn_model.specs.declared.cumulative.Used.{Used}
use Rattle.fzn_model.specs.Limits.{TermIn, TasksInLimits, UsedInLimits, IsNear, of_call}
use Rattle.fzn_model.specs.Meaning.{amount_at}
use Rattle.fzn_model.specs.Boxes.{IsBox}
use Rattle.fzn_model.specs.Bounds.{term_low}
use Rattle.dom_store.specs.Strength.{part_of, IsMoment}

-- a box with the variables of the constraint
pub record IsReady (box : List (List ℤ)) (ks : List CumTask) (us : List Used) (b : Term) : Type 0 where
  pub well_formed : IsBox box
  pub tasks : TasksInLimits (length box) ks
  pub used : UsedInLimits of_call us
  pub capacity : TermIn (length box) b

-- the length and the use of a task aren't negative
pub record IsSigned (box : List (List ℤ)) (k : CumTask) : Type 0 where
  pub duration : pos 0 ≤ℤ term_low box k.d
  pub usage : pos 0 ≤ℤ term_low box k.r

-- those of the first tasks aren't
unfoldable pub AreSignedTo : List CumTask → ℕ → List (List ℤ) → Type 0
AreSignedTo ks n box = (k : ℕ) (d : CumTask) → k < n → IsSigned box (slice_index_or ks k d)

-- the used amounts and the compulsory parts, one behind the other
abbrev pub all_parts : List (List ℤ) → List CumTask → List Used → List Used
all_parts box ks us = us ++ map (part_of box) ks

-- an amount that isn't negative, and moments near the values
pub record IsPart (u : Used) : Type 0 where
  pub amount : pos 0 ≤ℤ u.amount
  pub small : unsigned_abs u.amount ≤ 2 ^ 100
  pub from : IsNear u.from
  pub to : IsNear u.to

pub record AreParts (us : List Used) : Type 0 where
  pub count : length us ≤ 10000000
  pub each : All IsPart us

-- a moment is among those of a profile
abbrev pub HasMoment : List (ℤ × ℤ) → ℤ → Type 0
HasMoment profile t = Any (λ p. p.0 ≡ t) profile

-- so much may be used at a moment
abbrev pub IsLoad : ℤ → Type 0
IsLoad x = (pos 0 ≤ℤ x) × (x ≤ℤ pos (10000000 * 2 ^ 100))

-- what is used at a moment
unfoldable pub IsUseAt : List Used → ℤ × ℤ → Type 0
IsUseAt all p = (p.1 ≡ amount_at all p.0) × IsNear p.0 × IsLoad p.1

-- what is used where the first n amounts begin, and where the first m end
pub record IsProfileTo (all : List Used) (n m : ℕ) (profile : List (ℤ × ℤ)) : Type 0 where
  pub each : All (IsUseAt all) profile
  pub from : (k : ℕ) (d : Used) → k < n → HasMoment profile (slice_index_or all k d).from
  pub to : (k : ℕ) (d : Used) → k < m → HasMoment profile (slice_index_or all k d).to

-- an amount is added to others, or is never used
abbrev pub IsGathered : Used → List Used → List Used → Type 0
IsGathered u old new = (new ≡ old ++ u ∷ []) ⊎ ((u.to ≤ℤ u.from) × (new ≡ old))

-- The used amounts in front, and of all amounts those that are used at some moment.
pub record IsKept (us all kept : List Used) : Type 0 where
  pub amounts : (t : ℤ) → amount_at kept t ≡ amount_at all t
  pub room : length us ≤ length kept
  pub few : length kept ≤ length all
  pub front : (k : ℕ) (d : Used) → k < length us → slice_index_or kept k d ≡ slice_index_or us k d
  pub each : (k : ℕ) (d : Used) → k < length all → Contains kept (slice_index_or all k d) ⊎ ((slice_index_or all k d).to ≤ℤ (slice_index_or all k d).from)

-- the amounts of a box, and what is used at its moments
pub record IsProfile (box : List (List ℤ)) (ks : List CumTask) (us all : List Used) (profile : List (ℤ × ℤ)) : Type 0 where
  pub parts : AreParts all
  pub kept : IsKept us (all_parts box ks us) all
  pub each : All (IsUseAt all) profile
  pub moments : (t : ℤ) → IsMoment box ks us t → HasMoment profile t

-- at each of the moments at most so much is used
unfoldable pub AreWithin : ℤ → List (ℤ × ℤ) → Type 0
AreWithin most profile = All (λ p. p.1 ≤ℤ most) profile
