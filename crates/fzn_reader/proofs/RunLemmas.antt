-- Numbers of a set, and their runs.
use Rattle.std.proofs.Common.{◌≡◌, List, [], ◌∷◌, ◌++◌, Bool, true, false, cond, refl, arith, append_assoc, ℤ, pos, ◌+ℤ◌, ◌≤ℤ◌, ◌<ℤ◌, int_le}
use Rattle.std.specs.Prelude.{All}
use Rattle.std.specs.Int.{int_max}
use Rattle.std.specs.Ordering.{int_cmp}
use Rattle.std.specs.BTreeSet.{insert_key}
use Rattle.std.proofs.lemmas.Int.{ints, int_max_is}
use Rattle.std.proofs.lemmas.Map.Views.{All-insert_key}
use Rattle.fzn_model.specs.Sets.{AreRuns, AreAbove}
use Rattle.fzn_model.specs.Limits.{IsValue}
use Rattle.fzn_reader.specs.Sets.{runs_from}

pub numbers_kept : (ks new : List ℤ) (z : ℤ) → new ≡ insert_key int_cmp ks z → IsValue z → All IsValue ks → All IsValue new
numbers_kept ks new z e v h = rw e (All-insert_key int_cmp z IsValue ks h v)

-- a number behind the run that has come to high: the run grows
pub run_grown : (runs : List (ℤ × ℤ)) (low high z : ℤ) (rest : List ℤ) → int_le z (high +ℤ pos 1) ≡ true → runs ++ runs_from low (int_max high z) rest ≡ runs ++ runs_from low high (z ∷ rest)
run_grown runs low high z rest h = rw h refl

-- or the run ends, and the number begins the next
pub run_ended : (runs : List (ℤ × ℤ)) (low high z : ℤ) (rest : List ℤ) → int_le z (high +ℤ pos 1) ≡ false → (runs ++ (low, high) ∷ []) ++ runs_from z z rest ≡ runs ++ runs_from low high (z ∷ rest)
run_ended runs low high z rest h = rw h (append_assoc runs ((low, high) ∷ []) (runs_from z z rest))

module _ (low high z : ℤ) (zs : List ℤ) (le : low ≤ℤ high) (grown : low ≤ℤ int_max high z → AreRuns (runs_from low (int_max high z) zs)) (next : (before : ℤ) → (before +ℤ pos 1) <ℤ z → AreAbove before (runs_from z z zs)) where
  runs_by : (t : Bool) → int_le z (high +ℤ pos 1) ≡ t → AreRuns (cond t (runs_from low (int_max high z) zs) ((low, high) ∷ runs_from z z zs))
  runs_by true h = grown (omega (arith, ints, int_max_is high z))
  runs_by false h = (le, next high (grind (arith, ints)))

module _ (before low high z : ℤ) (zs : List ℤ) (above : (before +ℤ pos 1) <ℤ low) (le : low ≤ℤ high) (grown : low ≤ℤ int_max high z → AreAbove before (runs_from low (int_max high z) zs)) (next : (high +ℤ pos 1) <ℤ z → AreAbove high (runs_from z z zs)) where
  above_by : (t : Bool) → int_le z (high +ℤ pos 1) ≡ t → AreAbove before (cond t (runs_from low (int_max high z) zs) ((low, high) ∷ runs_from z z zs))
  above_by true h = grown (omega (arith, ints, int_max_is high z))
  above_by false h = (above, le, next (grind (arith, ints)))

are_above : (before low high : ℤ) (zs : List ℤ) → (before +ℤ pos 1) <ℤ low → low ≤ℤ high → AreAbove before (runs_from low high zs)
are_above before low high [] p q = (p, q, tt)
are_above before low high (z ∷ zs) p q = above_by before low high z zs p q (are_above before low (int_max high z) zs p) (λ r. are_above high z z zs r (omega (arith, ints))) (int_le z (high +ℤ pos 1)) refl

are_runs_from : (low high : ℤ) (zs : List ℤ) → low ≤ℤ high → AreRuns (runs_from low high zs)
are_runs_from low high [] p = (p, tt)
are_runs_from low high (z ∷ zs) p = runs_by low high z zs p (are_runs_from low (int_max high z) zs) (λ before r. are_above before z z zs r (omega (arith, ints))) (int_le z (high +ℤ pos 1)) refl

pub are_runs : (runs : List (ℤ × ℤ)) (first : ℤ) (zs : List ℤ) → runs ≡ runs_from first first zs → AreRuns runs
are_runs runs first zs e = rw e (are_runs_from first first zs (omega (arith, ints)))
