-- Sums of coefficient times value.
use Rattle.std.proofs.Common.{◌≡◌, ℕ, ◌+◌, ◌<◌, List, length, get_or, drop, ap, ℤ, ◌+ℤ◌, ◌*ℤ◌, add-one, drop-cons}
use Rattle.fzn_model.specs.Meaning.{val, lin_sum}
use Rattle.fzn_model.specs.declared.term.Term.{Term}

-- the sum from place i on is the term there and the sum after it
pub lin_sum-drop : (ts : List (ℤ × Term)) (i : ℕ) (d : ℤ × Term) (θ : List ℤ) → i < length ts → lin_sum (drop i ts) θ ≡ ((get_or ts i d).0 *ℤ val (get_or ts i d).1 θ) +ℤ lin_sum (drop (i + 1) ts) θ
lin_sum-drop ts i d θ h = rw add-one (ap (λ xs. lin_sum xs θ) (drop-cons ts i d h))
