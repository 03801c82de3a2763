-- What the bounds show of a base, and what becomes of the term.
use Rattle.std.specs.Prelude.{ℕ, ◌<◌, List, length, slice_index_or, Bool, true, false, ℤ, All, Any}
use Rattle.fzn_model.specs.declared.term.Term.{Term}
use Rattle.fzn_model.specs.declared.base.Base.{Base}
use Rattle.fzn_model.specs.Named.{base_terms}
use Rattle.fzn_model.specs.Bounds.{IsFixed, IsAt}
use Rattle.dom_store.specs.Strength.{BaseIsShown, BaseIsRefuted, DeniedIsOwed}
use Rattle.reif_prop.specs.declared.verdict.Verdict.{Verdict}
use Rattle.reif_prop.specs.declared.verdict.Verdict.TheVariants as verdict

-- that it holds, that it fails, or neither
unfoldable pub IsJudged : List (List ℤ) → Base → Verdict → Type 0
IsJudged box b verdict.Shown = BaseIsShown box b
IsJudged box b verdict.Refuted = BaseIsRefuted box b
IsJudged box b verdict.Unknown = (BaseIsShown box b → ⊥) × (BaseIsRefuted box b → ⊥)

-- what is shown of the opposite of a base
abbrev pub opposite : Verdict → Verdict
opposite verdict.Shown = verdict.Refuted
opposite verdict.Refuted = verdict.Shown
opposite verdict.Unknown = verdict.Unknown

-- that a term of a list has the value alone, that all have the other, or neither
unfoldable pub ListIsJudged : List (List ℤ) → List Term → ℤ → ℤ → Verdict → Type 0
ListIsJudged box ts v w verdict.Shown = Any (λ t. IsAt box t v) ts
ListIsJudged box ts v w verdict.Refuted = (Any (λ t. IsAt box t v) ts → ⊥) × All (λ t. IsAt box t w) ts
ListIsJudged box ts v w verdict.Unknown = (Any (λ t. IsAt box t v) ts → ⊥) × (All (λ t. IsAt box t w) ts → ⊥)

-- none of the first terms has the value alone
unfoldable pub NoneAt : List (List ℤ) → List Term → ℤ → ℕ → Type 0
NoneAt box ts v n = (k : ℕ) (d : Term) → k < n → IsAt box (slice_index_or ts k d) v → ⊥

-- all of the first have it, or some term doesn't
unfoldable pub AllAtBy : List (List ℤ) → List Term → ℤ → ℕ → Bool → Type 0
AllAtBy box ts v n false = (k : ℕ) (d : Term) → k < n → IsAt box (slice_index_or ts k d) v
AllAtBy box ts v n true = (k : ℕ) × (k < length ts) × ((d : Term) → IsAt box (slice_index_or ts k d) v → ⊥)

-- The bounds don't show that a base fails; where all its terms are fixed, they show that it holds.
pub record CanHold (b : Base) (box : List (List ℤ)) : Type 0 where
  pub possible : BaseIsRefuted box b → ⊥
  pub fixed : All (IsFixed box) (base_terms b) → BaseIsShown box b

-- a test of a base that has to hold, by whether it can't
unfoldable pub IsTested : List (List ℤ) → Base → Bool → Type 0
IsTested box b true = BaseIsRefuted box b
IsTested box b false = CanHold b box

-- What is owed of a base that has to fail stands, and the bounds don't show that it holds; where all its terms are fixed,
-- they show that it fails.
pub record HasFailed (b : Base) (box : List (List ℤ)) : Type 0 where
  pub owed : DeniedIsOwed box b
  pub possible : BaseIsShown box b → ⊥
  pub fixed : All (IsFixed box) (base_terms b) → BaseIsRefuted box b
