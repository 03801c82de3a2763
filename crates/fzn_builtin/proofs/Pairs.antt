-- That arguments fit, place by place, is that there are no more than places and each fits at its index.
use Rattle.std.proofs.Common.{◌≡◌, ℕ, zero, suc, ◌<◌, ◌≤◌, List, [], ◌∷◌, ◌++◌, length, get_or, Some, sym, subst, arith}
use Rattle.std.specs.Prelude.{slice_get}
use Rattle.fzn_builtin.specs.declared.needs.Need.{Need}
use Rattle.fzn_builtin.specs.declared.arg.Arg.{Arg}
use Rattle.fzn_builtin.specs.Arguments.{FitsNeed, Fits}
use Rattle.fzn_builtin.specs.Internals.{FitEach}

pub fits_all : (needs : List Need) (args : List Arg) → length args ≤ length needs → FitEach needs args → Fits needs args
unfolding FitEach
fits_all needs [] h f = tt
fits_all [] (a ∷ args) h f = absurd (omega arith)
fits_all (n ∷ needs) (a ∷ args) h f =
    (f 0 n a (omega arith), fits_all needs args (omega arith) (λ k m b below. f (suc k) m b (omega arith)))

index_fits : (needs : List Need) (args : List Arg) → Fits needs args → (k : ℕ) (n : Need) (a : Arg) → k < length args → FitsNeed (get_or needs k n) (get_or args k a)
index_fits needs [] f k n a h = absurd (omega arith)
index_fits [] (b ∷ args) f k n a h = absurd f
index_fits (m ∷ needs) (b ∷ args) f zero n a h = f.0
index_fits (m ∷ needs) (b ∷ args) f (suc k) n a h = index_fits needs args f.1 k n a (omega arith)

pub fits_each : (needs : List Need) (args : List Arg) → Fits needs args → FitEach needs args
unfolding FitEach
fits_each needs args f = index_fits needs args f

pub fits_count : (needs : List Need) (args : List Arg) → Fits needs args → length args ≤ length needs
fits_count needs [] f = omega arith
fits_count [] (a ∷ args) f = absurd f
fits_count (n ∷ needs) (a ∷ args) f = omega (arith, fits_count needs args f.1)

-- an argument more that fits the next need
pub fits_push : (needs : List Need) (args : List Arg) (n : Need) (a : Arg) → Fits needs args → slice_get needs (length args) ≡ Some n → FitsNeed n a → Fits needs (args ++ a ∷ [])
fits_push [] [] n a f e h = cc
fits_push (m ∷ needs) [] n a f e h = (let e2 : m ≡ n = cc in let P : Need → Type 0 = λ (x : Need). FitsNeed x a in subst P (sym e2) h, tt)
fits_push [] (b ∷ args) n a f e h = absurd f
fits_push (m ∷ needs) (b ∷ args) n a f e h = (f.0, fits_push needs args n a f.1 e h)
