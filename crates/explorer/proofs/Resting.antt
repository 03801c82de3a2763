-- Rests and entries, where a signed number is passed by value.
use Rattle.std.proofs.Common.{◌≡◌, ℕ, ◌^◌, List, subst, ℤ, pos, negsuc, ◌≤ℤ◌, neg_ℤ, to_z, of_z, FitsSigned, arith}
use Rattle.std.specs.Int.{w128}
use Rattle.std.proofs.lemmas.Int.{ints, to_z-of_z, fits_signed_from_abs}
use Rattle.std.specs.Prelude.{Result, Ok, Err, IfOk}
use Rattle.fzn_model.specs.Parts.{Parts}
use Rattle.fzn_model.specs.Rests.{RestParts}
use Rattle.rest_global.specs.Projected.{IsProjected, MeansRest}
use Rattle.rest_global.specs.declared.projected.Projected.{Projected}
use Rattle.rest_global.specs.declared.projected.Projected.TheVariants as projected
use Rattle.evictor.specs.Readers.{ReaderParts}
use Rattle.evictor.specs.Looks.{IsLook}
use Rattle.evictor.specs.declared.look.Look.{Look}
use Rattle.explorer.specs.Opening.{IsProjectedBelow, IsLookedUp}

pub projected_at : (m : Parts) (box : List (List ℤ)) (b c : ℤ) (limit : ℕ) (x : Projected) → IsProjected box m c limit x → MeansRest box m c x → c ≡ b → IsProjectedBelow m box b limit x
unfolding IsProjectedBelow
projected_at m box b c limit x is means e = subst (λ (z : ℤ). IsProjected box m z limit x × MeansRest box m z x) e (is, means)

pub projected_if : {E : Type 0} (m : Parts) (box : List (List ℤ)) (b c : ℤ) (limit : ℕ) (x : Result Projected E) → IfOk x (λ answer. IsProjected box m c limit answer) → IfOk x (λ answer. MeansRest box m c answer) → c ≡ b → IfOk x (IsProjectedBelow m box b limit)
projected_if m box b c limit (Ok x) is means e = projected_at m box b c limit x is means e
projected_if m box b c limit (Err fault) is means e = tt

pub looked_at : (r : RestParts) (need c : ℤ) (x : Look) (old new : ReaderParts) → IsLook r c x old new → c ≡ need → IsLookedUp r need x old new
unfolding IsLookedUp
looked_at r need c x old new h e = subst (λ (z : ℤ). IsLook r z x old new) e h

-- an offset that is passed on
offset_fits : (o : ℤ) → neg_ℤ (pos (2 ^ 100)) ≤ℤ o → o ≤ℤ pos (2 ^ 100) → FitsSigned w128 o
offset_fits (pos n) low high = fits_signed_from_abs w128 (pos n) (omega (arith, ints, high))
offset_fits (negsuc n) low high = fits_signed_from_abs w128 (negsuc n) (omega (arith, ints, low))

pub at_offset : (m : Parts) (box : List (List ℤ)) (b : ℤ) (limit : ℕ) (r : RestParts) (o : ℤ) → IsProjectedBelow m box b limit (projected.Whole r o) → IsProjectedBelow m box b limit (projected.Whole r (to_z w128 (of_z w128 o)))
unfolding IsProjectedBelow
at_offset m box b limit r o h = rw (to_z-of_z w128 o (offset_fits o h.1.1.low h.1.1.high)) h
