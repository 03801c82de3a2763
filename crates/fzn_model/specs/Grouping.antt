-- A rising list of numbers as runs.
use Rattle.std.specs.Prelude.{List, [], ◌∷◌, if◌then◌else◌, ℤ, pos, ◌+ℤ◌}
use Rattle.std.specs.Ordering.{int_eq}

-- A number before some runs: it joins the first of them where it touches it.
abbrev pub run_before : ℤ → List (ℤ × ℤ) → List (ℤ × ℤ)
run_before z [] = (z, z) ∷ []
run_before z (run ∷ runs) = if int_eq (z +ℤ pos 1) run.0 then (z, run.1) ∷ runs else (z, z) ∷ run ∷ runs

unfoldable pub runs_of : List ℤ → List (ℤ × ℤ)
runs_of [] = []
runs_of (z ∷ zs) = run_before z (runs_of zs)
