-- Where a task fits, and what its start can be.
use Rattle.std.specs.Prelude.{◌≡◌, ℕ, ◌<◌, ◌⊎◌, List, length, slice_index_or, ℤ, pos, ◌+ℤ◌, ◌-ℤ◌, ◌≤ℤ◌, ◌<ℤ◌, true, false, Option, Some, None}
use Rattle.fzn_model.specs.declared.term.Term.{Term}
use Rattle.fzn_model.specs.declared.cumulative.CumTask.{CumTask}
use Rattle.fzn_model.specs.declared.cumulative.Used.{Used}
use Rattle.fzn_model.specs.declared.con.Con.TheVariants as con
use Rattle.fzn_model.specs.Meaning.{val, amount_at, Holds}
use Rattle.fzn_model.specs.Boxes.{InBox}
use Rattle.fzn_model.specs.Bounds.{term_low, term_high}
use Rattle.fzn_model.specs.Limits.{IsValue, IsNear}
use Rattle.fzn_model.proofs.Moments.{part, active}
use Rattle.dom_store.specs.Strength.{FitsAt, part_of}
use Rattle.cumul_prop.specs.declared.fits.Place.{Place}
use Rattle.cumul_prop.specs.Parts.{IsPart}

-- a task whose length and use are positive
pub record IsPlace (p : Place) : Type 0 where
  pub own : IsPart p.own
  pub duration : (pos 0 <ℤ p.duration) × IsValue p.duration
  pub usage : (pos 0 <ℤ p.usage) × IsValue p.usage
  pub most : IsValue p.most

-- the place of a task in a box
pub record IsPlaceOf (box : List (List ℤ)) (b : Term) (k : CumTask) (p : Place) : Type 0 where
  pub own : p.own ≡ part_of box k
  pub duration : p.duration ≡ term_low box k.d
  pub usage : p.usage ≡ term_low box k.r
  pub most : p.most ≡ term_high box b

-- a task has a length and a use for sure
unfoldable pub NeedsPlace : List (List ℤ) → CumTask → Type 0
NeedsPlace box k = (pos 0 <ℤ term_low box k.d) × (pos 0 <ℤ term_low box k.r)

-- at a moment the task, and all but its own part, use more than what is there
unfoldable pub Clashes : List Used → Place → ℤ → Type 0
Clashes all p t = p.most <ℤ (p.usage +ℤ (amount_at all t -ℤ part p.own t))

-- a moment that the task covers from a start
unfoldable pub Covers : Place → ℤ → ℤ → Type 0
Covers p start t = (start ≤ℤ t) × (t <ℤ (start +ℤ p.duration))

-- the task clashes at no moment of a list that it covers from a start
unfoldable pub FitsThere : List Used → List (ℤ × ℤ) → Place → ℤ → Type 0
FitsThere all profile p start = (k : ℕ) (d : ℤ × ℤ) → k < length profile → Covers p start (slice_index_or profile k d).0 → Clashes all p (slice_index_or profile k d).0 → ⊥

-- nor at the start
pub record FitsFrom (all : List Used) (profile : List (ℤ × ℤ)) (p : Place) (start : ℤ) : Type 0 where
  pub here : Clashes all p start → ⊥
  pub there : FitsThere all profile p start

-- a moment that the task covers from a start, where it clashes
pub record IsClash (all : List Used) (p : Place) (start t : ℤ) : Type 0 where
  pub covered : Covers p start t
  pub clashes : Clashes all p t
  pub near : IsNear t

-- none of the first amounts is used at a moment
unfoldable pub NoneUsed : List Used → ℤ → ℕ → Type 0
NoneUsed all t n = (j : ℕ) (d : Used) → j < n → active (slice_index_or all j d) t ≡ false

-- that in a place is, and ends first of those of the first amounts that are
pub record IsFirstEnd (all : List Used) (t : ℤ) (n k : ℕ) : Type 0 where
  pub inside : k < length all
  pub used : (d : Used) → active (slice_index_or all k d) t ≡ true
  pub first : (j : ℕ) (d e : Used) → j < n → active (slice_index_or all j d) t ≡ true → (slice_index_or all k e).to ≤ℤ (slice_index_or all j d).to

abbrev pub EndsFirst : List Used → ℤ → ℕ → Option ℕ → Type 0
EndsFirst all t n None = NoneUsed all t n
EndsFirst all t n (Some k) = IsFirstEnd all t n k

-- a later moment, up to which each amount is used no less than at a moment
pub record IsNext (all : List Used) (t next : ℤ) : Type 0 where
  pub later : t <ℤ next
  pub used : (s : ℤ) → t ≤ℤ s → s <ℤ next → (j : ℕ) (d : Used) → j < length all → part (slice_index_or all j d) t ≤ℤ part (slice_index_or all j d) s

-- where a task fits at its least start, that; else a moment before which it clashes
unfoldable pub IsLeast : List Used → List (ℤ × ℤ) → Place → ℤ → ℤ → Type 0
IsLeast all profile p low limit = ((limit ≡ low) × FitsFrom all profile p low) ⊎ ((t : ℤ) × IsClash all p low t × IsNext all t limit)

-- where a task fits at its greatest start, that; else the last start from which it ends before one where it clashes
unfoldable pub IsGreatest : List Used → List (ℤ × ℤ) → Place → ℤ → ℤ → Type 0
IsGreatest all profile p high limit = ((limit ≡ high) × FitsFrom all profile p high) ⊎ ((t : ℤ) × IsClash all p high t × (limit ≡ t -ℤ p.duration))

-- What the start of a task can be: no assignment of the box with the constraint has it outside; and where its bounds lie
-- within, the task fits at them.
pub record IsLimit (box : List (List ℤ)) (ks : List CumTask) (us : List Used) (b : Term) (j : ℕ) (k : CumTask) (limit : ℤ × ℤ) : Type 0 where
  pub least : (θ : List ℤ) → InBox box θ → Holds (con.CumulUsed ks us b) θ → limit.0 ≤ℤ val k.s θ
  pub greatest : (θ : List ℤ) → InBox box θ → Holds (con.CumulUsed ks us b) θ → val k.s θ ≤ℤ limit.1
  pub low : pos 0 <ℤ term_low box k.d → pos 0 <ℤ term_low box k.r → limit.0 ≤ℤ term_low box k.s → FitsAt box ks us b j k (term_low box k.s)
  pub high : pos 0 <ℤ term_low box k.d → pos 0 <ℤ term_low box k.r → term_high box k.s ≤ℤ limit.1 → FitsAt box ks us b j k (term_high box k.s)

-- the limits of the first tasks
pub record AreLimits (box : List (List ℤ)) (ks : List CumTask) (us : List Used) (b : Term) (n : ℕ) (limits : List (ℤ × ℤ)) : Type 0 where
  pub count : length limits ≡ n
  pub each : (j : ℕ) (d : CumTask) (e : ℤ × ℤ) → j < n → IsLimit box ks us b j (slice_index_or ks j d) (slice_index_or limits j e)
