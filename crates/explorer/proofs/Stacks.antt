-- A stack from its top down.
use Rattle.std.proofs.Common.{◌≡◌, List, [], ◌∷◌, ◌++◌}
use Rattle.std.specs.Prelude.{reverse}
use Rattle.std.proofs.lemmas.List.{reverse-append}

pub pushed : {A : Type 0} → (s : List A) (x : A) → reverse (s ++ x ∷ []) ≡ x ∷ reverse s
pushed s x = reverse-append s (x ∷ [])
