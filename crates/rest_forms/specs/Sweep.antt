-- Runs of used amounts in the making: the changes of what is used, and what a sweep over them keeps.
use Rattle.std.specs.Prelude.{◌≡◌, ◌≤◌, ◌^◌, cond, if◌then◌else◌, ◌&&◌, List, [], ◌∷◌, length, ℤ, pos, neg_ℤ, ◌+ℤ◌, ◌≤ℤ◌, ◌<ℤ◌, int_lt, int_le, All, unsigned_abs}
use Rattle.std.specs.List.{flat_map}
use Rattle.fzn_model.specs.declared.cumulative.Used.{Used}
use Rattle.fzn_model.specs.Meaning.{amount_at}
use Rattle.fzn_model.specs.Limits.{IsNear}
use Rattle.rest_forms.specs.Forms.{AreUsedRuns}
use Rattle.rest_forms.specs.declared.used_runs.Change.{Change}
use Rattle.rest_forms.specs.declared.used_runs.Sweep.{Sweep}

-- a used amount within the limits of a call
pub record IsAmount (u : Used) : Type 0 where
  pub from : IsNear u.from
  pub to : IsNear u.to
  pub some : pos 0 ≤ℤ u.amount
  pub small : unsigned_abs u.amount ≤ 2 ^ 100

-- as many used amounts as a call is given, and as many fixed tasks besides
pub record AreAmounts (us : List Used) : Type 0 where
  pub count : length us ≤ 10000000
  pub each : All IsAmount us

-- what is used of an amount at a moment
abbrev pub part_at : Used → ℤ → ℤ
part_at u t = cond (int_le u.from t && int_lt t u.to) u.amount (pos 0)

-- ---- changes
-- more is used from the first moment on, and less from the last
abbrev pub changes_of_part : Used → List Change
changes_of_part u = if int_lt u.from u.to then (record { moment = u.from; amount = u.amount }) ∷ (record { moment = u.to; amount = neg_ℤ u.amount }) ∷ [] else []

unfoldable pub changes_of : List Used → List Change
changes_of us = flat_map changes_of_part us

-- the sum of the changes up to a moment
abbrev pub changed_by : List Change → ℤ → ℤ
changed_by [] t = pos 0
changed_by (c ∷ cs) t = (cond (int_le c.moment t) c.amount (pos 0)) +ℤ changed_by cs t

-- none comes before a moment, nor before the one in front of it
abbrev pub AreFrom : ℤ → List Change → Type 0
AreFrom m [] = Unit {0}
AreFrom m (c ∷ cs) = (m ≤ℤ c.moment) × AreFrom c.moment cs

-- changes in order whose sum up to each moment is what is used there
pub record AreChanges (us : List Used) (cs : List Change) : Type 0 where
  pub count : length cs ≤ 20000000
  pub small : All (λ c. unsigned_abs c.amount ≤ 2 ^ 100) cs
  pub order : AreFrom (neg_ℤ (pos (2 ^ 63))) cs
  pub same : (t : ℤ) → changed_by cs t ≡ amount_at us t

-- ---- one part more
-- the part comes after some runs
pub record CanJoin (part : Used) (us : List Used) : Type 0 where
  pub runs : AreUsedRuns us
  pub ends : All (λ u. u.to ≤ℤ part.from) us
  pub wide : part.from <ℤ part.to
  pub some : pos 0 <ℤ part.amount

-- the runs with that part
pub record IsJoined (part : Used) (us vs : List Used) : Type 0 where
  pub runs : AreUsedRuns vs
  pub ends : All (λ u. u.to ≤ℤ part.to) vs
  pub same : (t : ℤ) → amount_at vs t ≡ amount_at us t +ℤ part_at part t

-- ---- the sweep
-- the change comes next
pub record CanStep (c : Change) (s : Sweep) : Type 0 where
  pub runs : AreUsedRuns s.runs.items
  pub ends : All (λ u. u.to ≤ℤ s.last) s.runs.items
  pub order : s.last ≤ℤ c.moment
  pub positive : s.last <ℤ c.moment → pos 0 ≤ℤ s.amount
  pub small : unsigned_abs s.amount ≤ 2 ^ 125
  pub small_change : unsigned_abs c.amount ≤ 2 ^ 100

-- the runs up to the change, and the amount from there on
pub record IsStep (c : Change) (s r : Sweep) : Type 0 where
  pub runs : AreUsedRuns r.runs.items
  pub ends : All (λ u. u.to ≤ℤ c.moment) r.runs.items
  pub last : r.last ≡ c.moment
  pub amount : r.amount ≡ s.amount +ℤ c.amount
  pub same : (t : ℤ) → amount_at r.runs.items t ≡ amount_at s.runs.items t +ℤ cond (int_le s.last t && int_lt t c.moment) s.amount (pos 0)

-- The runs use what the amounts do up to the last moment, and with what is left of the changes, so does the amount from
-- there on.
pub record Swept (us : List Used) (left : List Change) (s : Sweep) : Type 0 where
  pub runs : AreUsedRuns s.runs.items
  pub ends : All (λ u. u.to ≤ℤ s.last) s.runs.items
  pub order : AreFrom s.last left
  pub same : (t : ℤ) → t <ℤ s.last → amount_at s.runs.items t ≡ amount_at us t
  pub later : (t : ℤ) → s.last ≤ℤ t → s.amount +ℤ changed_by left t ≡ amount_at us t
