-- The peak of amounts is the greatest amount of their runs.
use Rattle.std.proofs.Common.{◌≡◌, List, [], ◌∷◌, length, map, fold, refl, arith, inl, inr, ℤ, pos, ◌*◌, ◌^◌, ◌+ℤ◌, ◌≤ℤ◌, ◌<ℤ◌, Bool, true, false}
use Rattle.std.specs.Prelude.{int_lt, All}
use Rattle.std.specs.Int.{int_max}
use Rattle.std.specs.List.{AllByRecursion}
use Rattle.std.proofs.lemmas.Int.{ints, fold-int_max_bounds, fold-int_max_reached}
use Rattle.std.proofs.lemmas.List.Elements.{recursion_from_All, All-from_recursion, All-contains, All-map}
use Rattle.fzn_model.specs.declared.cumulative.Used.{Used}
use Rattle.fzn_model.specs.Meaning.{amount_at}
use Rattle.fzn_model.proofs.Moments.{part_over, part_within, part_not_negative, amount_later, amount_below}
use Rattle.rest_forms.specs.Forms.{AreRunsOf, peak}
use Rattle.rest_forms.specs.Sweep.{IsAmount, AreAmounts, part_at}
use Rattle.rest_forms.specs.Tasks.{greatest_amount}
use Rattle.rest_forms.proofs.JoinedRuns.{Chain, chain_of, all_begin, begins_after, later_all}

-- ---- the greatest of numbers and 0
some_greatest : (zs : List ℤ) → pos 0 ≤ℤ fold int_max (pos 0) zs
some_greatest zs = (fold-int_max_bounds (pos 0) zs (fold int_max (pos 0) zs) refl).0

below_greatest : (zs : List ℤ) → All (λ y. y ≤ℤ fold int_max (pos 0) zs) zs
below_greatest zs = (fold-int_max_bounds (pos 0) zs (fold int_max (pos 0) zs) refl).1

greatest_least : (m : ℤ) (zs : List ℤ) → pos 0 ≤ℤ m → All (λ y. y ≤ℤ m) zs → fold int_max (pos 0) zs ≤ℤ m
greatest_least m zs least all = elim (fold-int_max_reached (pos 0) zs (fold int_max (pos 0) zs) refl) [
  | inl is ↦ omega (arith, ints, is, least)
  | inr has ↦ All-contains (λ y. y ≤ℤ m) zs (fold int_max (pos 0) zs) all has
]

all_mapped : (f : Used → ℤ) (m : ℤ) (us : List Used) → AllByRecursion (λ y. y ≤ℤ m) (map f us) → AllByRecursion (λ (u : Used). f u ≤ℤ m) us
all_mapped f m [] all = tt
all_mapped f m (u ∷ us) all = (all.0, all_mapped f m us all.1)

-- what is at most the greatest that it has
each_below : (f : Used → ℤ) (us : List Used) → AllByRecursion (λ (u : Used). f u ≤ℤ fold int_max (pos 0) (map f us)) us
each_below f us = all_mapped f (fold int_max (pos 0) (map f us)) us (recursion_from_All (λ y. y ≤ℤ fold int_max (pos 0) (map f us)) (map f us) (below_greatest (map f us)))

-- ---- what is used at a moment is at most the peak
abbrev at_start : List Used → Used → ℤ
at_start us u = amount_at us u.from

pub peak_some : (us : List Used) → pos 0 ≤ℤ peak us
unfolding peak
peak_some us = some_greatest (map (at_start us) us)

pub below_peak : (us : List Used) (t : ℤ) → AreAmounts us → amount_at us t ≤ℤ peak us
unfolding peak
below_peak us t amounts =
    amount_below us (peak us) (λ i d h. (amounts.each i d h).some) (peak_some us) (All-from_recursion (λ (u : Used). at_start us u ≤ℤ peak us) us (each_below (at_start us) us)) t

pub peak_least : (us : List Used) (m : ℤ) → pos 0 ≤ℤ m → ((t : ℤ) → amount_at us t ≤ℤ m) → peak us ≤ℤ m
unfolding peak
peak_least us m least always = greatest_least m (map (at_start us) us) least (All-map (λ y. y ≤ℤ m) (at_start us) us (λ i d h. always _))

-- ---- runs
pub later_idle : (u : Used) (us : List Used) (t : ℤ) → Chain (u ∷ us) → t <ℤ u.to → amount_at us t ≡ pos 0
later_idle u us t chain h = amount_later us t (later_all u.to t us h (all_begin u.to us (begins_after u us chain.2) chain.3))

pub part_small : (u : Used) (t m : ℤ) → pos 0 ≤ℤ m → u.amount ≤ℤ m → part_at u t ≤ℤ m
part_small u t m least h = grind (arith, ints)

runs_by_end : (u : Used) (us : List Used) (t m : ℤ) → Chain (u ∷ us) → pos 0 ≤ℤ m → u.amount ≤ℤ m → amount_at us t ≤ℤ m → (w : Bool) → int_lt t u.to ≡ w → (part_at u t +ℤ amount_at us t) ≤ℤ m
runs_by_end u us t m chain least here rest true e =
    let idle = later_idle u us t chain (omega (arith, ints, e)) in
    let small = part_small u t m least here in
    omega (arith, ints, idle, small)
runs_by_end u us t m chain least here rest false e =
    let over = part_over u t (omega (arith, ints, e)) in
    omega (arith, ints, over, rest)

runs_below : (us : List Used) (t m : ℤ) → Chain us → pos 0 ≤ℤ m → AllByRecursion (λ (u : Used). u.amount ≤ℤ m) us → amount_at us t ≤ℤ m
runs_below [] t m chain least all = least
runs_below (u ∷ us) t m chain least all = runs_by_end u us t m chain least all.0 (runs_below us t m chain.3 least all.1) (int_lt t u.to) refl

runs_reach : (us : List Used) (m : ℤ) → Chain us → ((t : ℤ) → amount_at us t ≤ℤ m) → AllByRecursion (λ (u : Used). u.amount ≤ℤ m) us
runs_reach [] m chain always = tt
runs_reach (u ∷ us) m chain always = (
  let wide = chain.0 in
      let idle = later_idle u us u.from chain wide in
      let here = part_within u u.from (omega (arith, ints)) wide in
      let bound = always u.from in
      omega (arith, ints, idle, here, bound),
  runs_reach us m chain.3 (λ t. let some = chain.1 in let least = part_not_negative u t (omega (arith, ints, some)) in let bound = always t in omega (arith, ints, least, bound)),
)

pub peak_is : (us vs : List Used) → AreAmounts vs → AreRunsOf us vs → greatest_amount us ≡ peak vs
unfolding greatest_amount
peak_is us vs amounts runs =
    let chain = chain_of us runs.runs in
    let amounts_of : List ℤ = map (λ (u : Used). u.amount) us in
    let reach = runs_reach us (peak vs) chain (λ t. let same = runs.same t in let below = below_peak vs t amounts in omega (arith, ints, same, below)) in
    let up : fold int_max (pos 0) amounts_of ≤ℤ peak vs = greatest_least (peak vs) amounts_of (peak_some vs) (All-map (λ y. y ≤ℤ peak vs) (λ (u : Used). u.amount) us (All-from_recursion (λ (u : Used). u.amount ≤ℤ peak vs) us reach)) in
    let least : pos 0 ≤ℤ fold int_max (pos 0) amounts_of = some_greatest amounts_of in
    let down : peak vs ≤ℤ fold int_max (pos 0) amounts_of = peak_least vs (fold int_max (pos 0) amounts_of) least (λ t. let same = runs.same t in let below = runs_below us t (fold int_max (pos 0) amounts_of) chain least (each_below (λ (u : Used). u.amount) us) in omega (arith, ints, same, below)) in
    omega (arith, ints, up, down)

part_bound : (u : Used) (t : ℤ) → IsAmount u → part_at u t ≤ℤ pos (2 ^ 100)
part_bound u t amount = let some = amount.some in let small = amount.small in part_small u t (pos (2 ^ 100)) (omega (arith, ints)) (omega (arith, ints, some, small))

amount_bound : (us : List Used) (t : ℤ) → AllByRecursion IsAmount us → amount_at us t ≤ℤ pos (2 ^ 100 * length us)
amount_bound [] t all = omega (arith, ints)
amount_bound (u ∷ us) t all =
    let here = part_bound u t all.0 in
    let rest = amount_bound us t all.1 in
    omega (arith, ints, here, rest)

pub peak_small : (us : List Used) → AreAmounts us → peak us ≤ℤ pos (10000000 * 2 ^ 100)
peak_small us amounts = peak_least us (pos (10000000 * 2 ^ 100)) (omega (arith, ints)) (λ t. let bound = amount_bound us t (recursion_from_All IsAmount us amounts.each) in let count = amounts.count in omega (arith, ints, bound, count))

pub greatest_small : (us vs : List Used) → AreAmounts vs → AreRunsOf us vs → greatest_amount us ≤ℤ pos (10000000 * 2 ^ 100)
greatest_small us vs amounts runs = let is = peak_is us vs amounts runs in rw is (peak_small vs amounts)
