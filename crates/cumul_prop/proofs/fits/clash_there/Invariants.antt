use Rattle.std.proofs.Common.{ℕ, ◌<◌, get_or, ℤ}
use Rattle.cumul_prop.specs.Limits.{Covers, Clashes}
use Rattle.cumul_prop.proofs.fits.clash_there.Given as goal

abbrev pub invariant-loop-at : goal.invariant-loop-at
invariant-loop-at l = record { before : (k : ℕ) (d : ℤ × ℤ) → k < l.at → Covers l.place l.start (get_or l.profile k d).0 → Clashes l.all l.place (get_or l.profile k d).0 → ⊥ }
