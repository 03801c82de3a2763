-- The settlings that a store keeps, along its changes.
use Rattle.std.proofs.Common.{◌≡◌, List, [], ◌∷◌, drop, ℤ, sym, subst, Option, None}
use Rattle.std.specs.Prelude.{All}
use Rattle.std.proofs.lemmas.List.Elements.{All-nil, All-head, All-cons, All-drop}
use Rattle.fzn_model.specs.declared.con.Con.{Con}
use Rattle.dom_store.specs.Stores.{Stored, latest}
use Rattle.dom_store.specs.Views.{first_store}
use Rattle.prop_engine.specs.Plans.{Plan, AreStrongIn, IsReady}

-- each constraint has its strength in the box of the latest settling
pub latest_strong : (cs : List Con) (settled : List (Option (List (List ℤ)))) → All (AreStrongIn cs) settled → AreStrongIn cs (latest settled)
unfolding AreStrongIn
latest_strong cs [] all = tt
latest_strong cs (o ∷ os) all = All-head (AreStrongIn cs) o os all

pub ready_same : (plan : Plan) (old new : Stored) → new.settled ≡ old.settled → IsReady old plan → IsReady new plan
unfolding IsReady
ready_same plan old new same ready = subst (All (AreStrongIn plan.cons)) (sym same) ready

-- after the model's domains were put into a store
pub ready_first : (plan : Plan) (doms : List (List (ℤ × ℤ))) (new : Stored) → new ≡ first_store doms → IsReady new plan
unfolding IsReady AreStrongIn
ready_first plan doms new is = subst (λ (s : Stored). All (AreStrongIn plan.cons) s.settled) (sym is) (All-cons (AreStrongIn plan.cons) None [] tt (All-nil (AreStrongIn plan.cons)))

-- a level more
pub ready_pushed : (plan : Plan) (old new : Stored) → new.settled ≡ latest old.settled ∷ old.settled → IsReady old plan → IsReady new plan
unfolding IsReady
ready_pushed plan old new is ready = subst (All (AreStrongIn plan.cons)) (sym is) (All-cons (AreStrongIn plan.cons) (latest old.settled) old.settled (latest_strong plan.cons old.settled ready) ready)

-- a level less
pub ready_popped : (plan : Plan) (old new : Stored) → new.settled ≡ drop 1 old.settled → IsReady old plan → IsReady new plan
unfolding IsReady
ready_popped plan old new is ready = subst (All (AreStrongIn plan.cons)) (sym is) (All-drop (AreStrongIn plan.cons) 1 old.settled ready)
