-- Where the cost is the first variable, no solution costs less than the least value of its domain.
use Rattle.std.proofs.Common.{arith, ◌≤ℤ◌, ◌*ℤ◌, ◌+ℤ◌, ℤ, pos, ◌≡◌, ℕ, zero, suc, ◌<◌, List, [], ◌∷◌, length, slice_index_or, sym, subst, ◌∙◌}
use Rattle.std.proofs.lemmas.Int.{ints}
use Rattle.fzn_model.specs.Sets.{IsIn, IsWithin}
use Rattle.fzn_model.specs.Solutions.{InDomains}
use Rattle.fzn_model.specs.Rests.{RestParts, IsTrueEntry, cost_sum}

low_least : (low high z : ℤ) → IsIn ((low, high) ∷ []) z → low ≤ℤ z
unfolding IsIn IsWithin
low_least low high z (zero, run, inside, is, within) = subst (λ (r : ℤ × ℤ). r.0 ≤ℤ z) (sym is) within.0
low_least low high z (suc k, run, inside, is, within) = absurd (omega (arith, inside))

once : (z : ℤ) → z ≡ ((pos 1 *ℤ z) +ℤ pos 0)
once z = omega (arith, ints)

below : (a b c : ℤ) → a ≤ℤ b → b ≤ℤ c → a ≤ℤ c
below a b c ab bc = omega (arith, ints, ab, bc)

pub least_true : (r : RestParts) (low high : ℤ) (others : List (List (ℤ × ℤ))) → r.doms ≡ ((low, high) ∷ []) ∷ others → r.cost ≡ (pos 1, 0) ∷ [] → (bound : ℤ) → bound ≤ℤ low → IsTrueEntry r bound
unfolding IsTrueEntry InDomains
least_true r low high others doms cost bound most ρ solves =
    let first : 0 < length r.doms = rw doms (omega arith) in
    let here : IsIn ((low, high) ∷ []) (slice_index_or ρ 0 (pos 0)) = subst (λ (ds : List (List (ℤ × ℤ))). IsIn (slice_index_or ds 0 []) (slice_index_or ρ 0 (pos 0))) doms (solves.domains.1 0 [] first) in
    subst (λ (ps : List (ℤ × ℕ)). bound ≤ℤ cost_sum ps ρ) (sym cost)
    (subst (λ n. bound ≤ℤ n) (once (slice_index_or ρ 0 (pos 0))) (below bound low (slice_index_or ρ 0 (pos 0)) most (low_least low high (slice_index_or ρ 0 (pos 0)) here)))
