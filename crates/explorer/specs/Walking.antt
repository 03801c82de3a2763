-- How a search goes down into a side and back. It is this project's own.
use Rattle.std.specs.Prelude.{◌≡◌, ℕ, ◌++◌, List, [], ◌∷◌, length, ℤ, Contains, true}
use Rattle.fzn_model.specs.Parts.{Parts}
use Rattle.fzn_model.specs.Solutions.{InDomains}
use Rattle.fzn_model.specs.Boxes.{IsBox, InBox, domain_at}
use Rattle.search_core.specs.declared.decision.Decision.{Decision}
use Rattle.search_core.specs.Paths.{obeys, Meets}
use Rattle.explorer.specs.Nodes.{IsNode}
use Rattle.explorer.specs.declared.bench.Bench.{Bench}
use Rattle.explorer.specs.declared.frame.Frame.{Frame}

-- exactly the assignments of the box that obey the decision are left
pub record CutsTo (d : Decision) (old new : List (List ℤ)) : Type 0 where
  pub only : (θ : List ℤ) → InBox new θ → InBox old θ × (obeys d θ ≡ true)
  pub all : (θ : List ℤ) → InBox old θ → obeys d θ ≡ true → InBox new θ
  pub within : (k : ℕ) (z : ℤ) → Contains (domain_at new k) z → Contains (domain_at old k) z
  pub count : length new ≡ length old
  pub domains : IsBox new

-- no assignment of the box obeys the decision
unfoldable pub NoneObeys : Decision → List (List ℤ) → Type 0
NoneObeys d box = (θ : List ℤ) → InBox box θ → obeys d θ ≡ true → ⊥

-- down into a side: one more level, one more decision, one more frame
pub record Enters (d : Decision) (f : Frame) (t k : Bench) : Type 0 where
  pub here : k.here ≡ t.here ++ d ∷ []
  pub frames : k.frames ≡ f ∷ t.frames
  pub saved : k.store.saved ≡ t.store.box ∷ t.store.saved
  pub domains : CutsTo d t.store.box k.store.box
  pub plan : k.engine ≡ t.engine

-- memory was wanting: the frames and levels are as before
pub record Fails (t k : Bench) : Type 0 where
  pub frames : k.frames ≡ t.frames
  pub saved : k.store.saved ≡ t.store.saved
  pub plan : k.engine ≡ t.engine

-- back to the deepest open expansion
pub record Leaves (f : Frame) (t k : Bench) : Type 0 where
  pub here : (p : List Decision) (d : Decision) → t.here ≡ p ++ d ∷ [] → k.here ≡ p
  pub frames : t.frames ≡ f ∷ k.frames
  pub levels : (area : List (List ℤ)) (saved : List (List (List ℤ))) → t.store.saved ≡ area ∷ saved → (k.store.box ≡ area) × (k.store.saved ≡ saved)
  pub plan : k.engine ≡ t.engine

-- the box of a path, whatever the bound
unfoldable pub IsBase : Parts → List Decision → List (List ℤ) → Type 0
IsBase m p box = (b : ℤ) → IsNode m p box b

-- no assignment within the domains meets the path
unfoldable pub NoneMeets : Parts → List Decision → Type 0
NoneMeets m p = (θ : List ℤ) → InDomains m.doms θ → Meets p θ → ⊥
