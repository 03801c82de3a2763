-- What fixing a store promises.
use Rattle.std.specs.Prelude.{◌≡◌, ℕ, ◌<◌, ◌≤◌, List, length, slice_index_or, ℤ, ◌<ℤ◌, All}
use Rattle.fzn_model.specs.declared.con.Con.{Con}
use Rattle.fzn_model.specs.Meaning.{Holds}
use Rattle.dom_store.specs.declared.propagator.Ran.{Ran}
use Rattle.dom_store.specs.declared.propagator.Ran.TheVariants as ran
use Rattle.dom_store.specs.Stores.{Stored}
use Rattle.dom_store.specs.Narrowing.{Loses, HasNone, Prunes}
use Rattle.dom_store.specs.Propagation.{FallsFar}
use Rattle.dom_store.specs.Strength.{IsStrong}
use Rattle.prop_engine.specs.declared.fixed.Fixed.{Fixed}
use Rattle.prop_engine.specs.declared.fixed.Fixed.TheVariants as fixed
use Rattle.prop_engine.specs.Goals.{IsCheaper, greatest_cost}
use Rattle.prop_engine.specs.Plans.{Plan}

-- a solution of the plan that costs less than the bound
abbrev pub Cheaper : Plan → ℤ → List ℤ → Type 0
Cheaper plan below θ = IsCheaper plan.cons plan.goal below θ

-- Only values go that no assignment with P has; the boxes of levels and settlings stay.
pub record Lessens (P : List ℤ → Type 0) (old new : Stored) : Type 0 where
  pub loses : Loses P old.box new.box
  pub saved : new.saved ≡ old.saved
  pub settled : new.settled ≡ old.settled
  pub changes : old.changes ≤ new.changes

-- Only values go that no solution cheaper than the bound has; the boxes of levels stay.
pub record Fixes (plan : Plan) (below : ℤ) (old new : Stored) : Type 0 where
  pub loses : Loses (Cheaper plan below) old.box new.box
  pub saved : new.saved ≡ old.saved
  pub changes : old.changes ≤ new.changes

-- each constraint has its strength, and no cost that the goal's domain allows reaches the bound
pub record IsFixpoint (plan : Plan) (below : ℤ) (box : List (List ℤ)) : Type 0 where
  pub strong : All (IsStrong box) plan.cons
  pub cut : greatest_cost box plan.goal <ℤ below

-- what an answer says
abbrev pub FixedMeans : Plan → ℤ → List (List ℤ) → List (List ℤ) → Fixed → Type 0
FixedMeans plan below old new fixed.Kept = IsFixpoint plan below new
FixedMeans plan below old new fixed.Empty = HasNone (Cheaper plan below) old
FixedMeans plan below old new fixed.EarlyStop = FallsFar old new

-- what a run of the parts of a reified base means: where nothing went, it has its strength
abbrev pub PartsMean : Con → List (List ℤ) → List (List ℤ) → Ran → Type 0
PartsMean c old new ran.Kept = new ≡ old → IsStrong new c
PartsMean c old new ran.Empty = HasNone (Holds c) old
PartsMean c old new ran.EarlyStop = FallsFar old new

-- what a run for one constraint means: it has its strength
abbrev pub WholeMeans : Con → List (List ℤ) → List (List ℤ) → Ran → Type 0
WholeMeans c old new ran.Kept = IsStrong new c
WholeMeans c old new ran.Empty = HasNone (Holds c) old
WholeMeans c old new ran.EarlyStop = FallsFar old new

-- all constraints hold
unfoldable pub MeetsEach : List Con → List ℤ → Type 0
MeetsEach cs θ = All (λ c. Holds c θ) cs

-- the run of the propagator in one place
unfoldable pub PrunesAt : List Con → ℕ → Stored → Stored → Type 0
PrunesAt cs at old new = (d : Con) → at < length cs → Prunes (Holds (slice_index_or cs at d)) old new

unfoldable pub MeansAt : List Con → ℕ → List (List ℤ) → List (List ℤ) → Ran → Type 0
MeansAt cs at old new answer = (d : Con) → at < length cs → WholeMeans (slice_index_or cs at d) old new answer
