-- What an engine holds: the constraints of a model and its goal.
use Rattle.std.specs.Prelude.{◌≤◌, List, ℤ, length, unsigned_abs, All, ⊤, Option, Some, None}
use Rattle.fzn_model.specs.declared.base.Base.{Base}
use Rattle.fzn_model.specs.declared.base.Base.TheVariants as base
use Rattle.fzn_model.specs.declared.con.Con.{Con}
use Rattle.fzn_model.specs.declared.con.Con.TheVariants as con
use Rattle.fzn_model.specs.declared.goal.Goal.{Goal}
use Rattle.fzn_model.specs.Parts.{Parts}
use Rattle.fzn_model.specs.Values.{largest}
use Rattle.fzn_model.specs.Limits.{IsValue, GoalInLimits}
use Rattle.fzn_model.specs.Booleans.{FitsBox}
use Rattle.dom_store.specs.Stores.{Stored}
use Rattle.dom_store.specs.Strength.{IsStrong}

pub record Plan : Type 0 where
  pub cons : List Con
  pub goal : Goal

-- the plan of a model
abbrev pub plan_of : Parts → Plan
plan_of m = record { cons = m.cons; goal = m.goal }

-- a base whose opposite has numbers within the limits too
abbrev pub CanTurn : Base → Type 0
CanTurn (base.Lin l) = All (λ p. IsValue p.0) l.terms × (unsigned_abs l.r ≤ largest)
CanTurn b = ⊤

-- A constraint that an engine holds: a reified base can be turned round. Each constraint of a model is one.
abbrev pub CanHold : Con → Type 0
CanHold (con.Reif b r f) = CanTurn b
CanHold c = ⊤

-- the constraints and the goal are over the variables of the box, as where both are of one model
pub record IsFor (box : List (List ℤ)) (plan : Plan) : Type 0 where
  pub cons : All (FitsBox box) plan.cons
  pub goal : GoalInLimits (length box) plan.goal

-- each constraint has its strength in a settled box
unfoldable pub AreStrongIn : List Con → Option (List (List ℤ)) → Type 0
AreStrongIn cs None = ⊤
AreStrongIn cs (Some box) = All (IsStrong box) cs

-- so it is in the box of each settling that the store keeps, as where the engine of the plan alone settles it
unfoldable pub IsReady : Stored → Plan → Type 0
IsReady s plan = All (AreStrongIn plan.cons) s.settled
