-- What each part of a pass reaches.
use Rattle.std.specs.Prelude.{◌≡◌, ℕ, ◌<◌, List, length, slice_index_or, ℤ, pos, ◌≤ℤ◌, ◌<ℤ◌}
use Rattle.fzn_model.specs.declared.term.Term.{Term}
use Rattle.fzn_model.specs.declared.cumulative.CumTask.{CumTask}
use Rattle.fzn_model.specs.declared.cumulative.Used.{Used}
use Rattle.fzn_model.specs.declared.con.Con.TheVariants as con
use Rattle.fzn_model.specs.Meaning.{val, Holds}
use Rattle.fzn_model.specs.Boxes.{InBox}
use Rattle.fzn_model.specs.Bounds.{term_low, term_high}
use Rattle.dom_store.specs.Strength.{IsMoment, use_at, FitsAt}
use Rattle.cumul_prop.specs.Parts.{IsSigned, AreSignedTo}

-- ---- lengths and uses aren't negative
unfoldable pub SignedAt : List CumTask → ℕ → List (List ℤ) → Type 0
SignedAt ks at box = (d : CumTask) → IsSigned box (slice_index_or ks at d)

-- nor is the capacity
pub record IsSignedAll (ks : List CumTask) (b : Term) (box : List (List ℤ)) : Type 0 where
  pub tasks : AreSignedTo ks (length ks) box
  pub capacity : pos 0 ≤ℤ term_low box b

-- ---- starts within limits
-- each assignment of the box with the constraint has the start of a task within its limits
unfoldable pub Bounded : List CumTask → List Used → Term → List (ℤ × ℤ) → ℕ → List (List ℤ) → Type 0
Bounded ks us b limits at box = (d : CumTask) (e : ℤ × ℤ) (θ : List ℤ) → InBox box θ → Holds (con.CumulUsed ks us b) θ
    → ((slice_index_or limits at e).0 ≤ℤ val (slice_index_or ks at d).s θ) × (val (slice_index_or ks at d).s θ ≤ℤ (slice_index_or limits at e).1)

unfoldable pub AllBounded : List CumTask → List Used → Term → List (ℤ × ℤ) → List (List ℤ) → Type 0
AllBounded ks us b limits box = (at : ℕ) → at < length ks → Bounded ks us b limits at box

-- the box has it so
unfoldable pub LimitedAt : List CumTask → List (ℤ × ℤ) → ℕ → List (List ℤ) → Type 0
LimitedAt ks limits at box = (d : CumTask) (e : ℤ × ℤ) → ((slice_index_or limits at e).0 ≤ℤ term_low box (slice_index_or ks at d).s) × (term_high box (slice_index_or ks at d).s ≤ℤ (slice_index_or limits at e).1)

unfoldable pub LimitedTo : List CumTask → List (ℤ × ℤ) → ℕ → List (List ℤ) → Type 0
LimitedTo ks limits n box = (at : ℕ) → at < n → LimitedAt ks limits at box

-- ---- what is used fits
pub record IsFitted (ks : List CumTask) (us : List Used) (b : Term) (box : List (List ℤ)) : Type 0 where
  pub parts : (t : ℤ) → IsMoment box ks us t → use_at box ks us t ≤ℤ term_high box b
  pub starts : (j : ℕ) (k : CumTask) → j < length ks → k ≡ slice_index_or ks j k → pos 0 <ℤ term_low box k.d → pos 0 <ℤ term_low box k.r → FitsAt box ks us b j k (term_low box k.s) × FitsAt box ks us b j k (term_high box k.s)
