-- What each move makes of what a worker holds and has settled. It is this project's own.
use Rattle.std.specs.Prelude.{◌≡◌, ◌+◌, List, [], ◌∷◌, ◌++◌}
use Rattle.search_core.specs.declared.decision.Decision.{Decision}
use Rattle.search_core.specs.declared.moves.Move.{Move}
use Rattle.search_core.specs.Paths.{opposite}
use Rattle.search_core.specs.Locals.{LocalParts, LocalSteps}
use Rattle.explorer.specs.Holding.{times_held, times_in, HasSettled}

-- the move is allowed
unfoldable pub CanStep : Move → LocalParts → Type 0
CanStep step l = (k : LocalParts) × LocalSteps step l k

-- nothing but the least cost seen changes
pub record SameTasks (l k : LocalParts) : Type 0 where
  pub times : (q : List Decision) → times_held q k ≡ times_held q l
  pub settled : (q : List Decision) → HasSettled q l → HasSettled q k
  pub expands : k.expands ≡ l.expands

-- in place of the path its two sides are held
pub record IsSplit (p : List Decision) (cut : Decision) (l k : LocalParts) : Type 0 where
  pub times : (q : List Decision) → times_held q k + times_in q (p ∷ []) ≡ times_held q l + times_in q ((p ++ cut ∷ []) ∷ (p ++ opposite cut ∷ []) ∷ [])
  pub settled : (q : List Decision) → HasSettled q l → HasSettled q k
  pub expands : k.expands ≡ l.expands + 1

-- the path is no longer held, but settled
pub record IsClosed (p : List Decision) (l k : LocalParts) : Type 0 where
  pub times : (q : List Decision) → times_held q k + times_in q (p ∷ []) ≡ times_held q l
  pub settled : (q : List Decision) → HasSettled q l → HasSettled q k
  pub here : HasSettled p k
  pub expands : k.expands ≡ l.expands

-- in place of both sides the path is settled
pub record IsJoined (p : List Decision) (cut : Decision) (l k : LocalParts) : Type 0 where
  pub times : (q : List Decision) → times_held q k ≡ times_held q l
  pub settled : (q : List Decision) → (q ≡ p ++ cut ∷ [] → ⊥) → (q ≡ p ++ opposite cut ∷ [] → ⊥) → HasSettled q l → HasSettled q k
  pub here : HasSettled p k
  pub expands : k.expands ≡ l.expands
