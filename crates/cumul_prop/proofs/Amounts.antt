-- Amounts: compulsory parts use no more than the tasks do, and a task that clashes can't cover the moment.
use Rattle.std.proofs.Common.{◌≡◌, ℕ, zero, suc, ◌<◌, List, [], ◌∷◌, ◌++◌, take, drop, map, length, get_or, ℤ, pos, ◌+ℤ◌, ◌-ℤ◌, ◌≤ℤ◌, ◌<ℤ◌, refl, ap, arith, add-one}
use Rattle.std.specs.Prelude.{All}
use Rattle.std.proofs.lemmas.Int.{ints, clamps}
use Rattle.fzn_model.specs.declared.term.Term.{Term}
use Rattle.fzn_model.specs.declared.cumulative.CumTask.{CumTask}
use Rattle.fzn_model.specs.declared.cumulative.Used.{Used}
use Rattle.fzn_model.specs.declared.con.Con.TheVariants as con
use Rattle.fzn_model.specs.Limits.{TermIn}
use Rattle.fzn_model.specs.Meaning.{val, amount_at, usage, AreTasks, FitsAlways, Holds}
use Rattle.fzn_model.specs.Boxes.{IsBox, InBox}
use Rattle.fzn_model.specs.Bounds.{term_low, term_high}
use Rattle.fzn_model.proofs.Terms.{val_low, val_high}
use Rattle.fzn_model.proofs.Moments.{part, amount_append}
use Rattle.dom_store.specs.Strength.{part_of, without, use_at}
use Rattle.cumul_prop.specs.declared.fits.Place.{Place}
use Rattle.cumul_prop.specs.Parts.{IsReady, all_parts}
use Rattle.cumul_prop.specs.Limits.{Clashes}

-- ---- one amount
part_least : (u v : Used) (t : ℤ) → v.from ≤ℤ u.from → u.to ≤ℤ v.to → u.amount ≤ℤ v.amount → pos 0 ≤ℤ v.amount → part u t ≤ℤ part v t
part_least u v t from to amount some = grind (arith, ints)

pub part_whole : (u : Used) (t : ℤ) → u.from ≤ℤ t → t <ℤ u.to → part u t ≡ u.amount
part_whole u t from to = grind (arith, ints)

-- ---- all of them
module _ (f g : CumTask → Used) (t : ℤ) where
  all_least : (ks : List CumTask) → All (λ k. part (f k) t ≤ℤ part (g k) t) ks → amount_at (map f ks) t ≤ℤ amount_at (map g ks) t
  all_least [] each = omega (arith, ints)
  all_least (k ∷ ks) each =
      let one : part (f k) t ≤ℤ part (g k) t = each zero k (omega arith) in
      let rest = all_least ks (λ i d h. each (suc i) d (omega arith)) in
      omega (arith, ints, one, rest)

  others_least : (ks : List CumTask) (j : ℕ) (d : CumTask) → j < length ks → All (λ k. part (f k) t ≤ℤ part (g k) t) ks
      → (amount_at (map f ks) t -ℤ part (f (get_or ks j d)) t) ≤ℤ (amount_at (map g ks) t -ℤ part (g (get_or ks j d)) t)
  others_least [] j d h each = absurd (omega arith)
  others_least (k ∷ ks) zero d h each = let rest = all_least ks (λ i e inside. each (suc i) e (omega arith)) in omega (arith, ints, rest)
  others_least (k ∷ ks) (suc j) d h each =
      let one : part (f k) t ≤ℤ part (g k) t = each zero k (omega arith) in
      let rest = others_least ks j d (omega arith) (λ i e inside. each (suc i) e (omega arith)) in
      omega (arith, ints, one, rest)

-- all but that in one place
abbrev others : ℕ → List CumTask → List CumTask
others j [] = []
others zero (k ∷ ks) = ks
others (suc j) (k ∷ ks) = k ∷ others j ks

without_suc : (j : ℕ) (ks : List CumTask) → j < length ks → take j ks ++ drop (suc j) ks ≡ others j ks
without_suc j [] h = absurd (omega arith)
without_suc zero (k ∷ ks) h = refl
without_suc (suc j) (k ∷ ks) h = ap (λ (xs : List CumTask). k ∷ xs) (without_suc j ks (omega arith))

without_is : (j : ℕ) (ks : List CumTask) → j < length ks → without j ks ≡ others j ks
without_is j ks h = rw add-one (without_suc j ks h)

others_left : (f : CumTask → Used) (t : ℤ) (ks : List CumTask) (j : ℕ) (d : CumTask) → j < length ks → amount_at (map f (others j ks)) t ≡ (amount_at (map f ks) t -ℤ part (f (get_or ks j d)) t)
others_left f t [] j d h = absurd (omega arith)
others_left f t (k ∷ ks) zero d h = omega (arith, ints)
others_left f t (k ∷ ks) (suc j) d h = let rest = others_left f t ks j d (omega arith) in omega (arith, ints, rest)

pub without_use : (box : List (List ℤ)) (ks : List CumTask) (us : List Used) (j : ℕ) (d : CumTask) (t : ℤ) → j < length ks → use_at box (without j ks) us t ≡ (amount_at (all_parts box ks us) t -ℤ part (part_of box (get_or ks j d)) t)
without_use box ks us j d t h =
    let left = others_left (part_of box) t ks j d h in
    let same : amount_at (map (part_of box) (without j ks)) t ≡ amount_at (map (part_of box) (others j ks)) t = ap (λ (xs : List CumTask). amount_at (map (part_of box) xs) t) (without_is j ks h) in
    let one = amount_append us (map (part_of box) (without j ks)) t in
    let whole = amount_append us (map (part_of box) ks) t in
    omega (arith, ints, left, same, one, whole)

-- ---- an assignment of the box with the constraint
part_below : (box : List (List ℤ)) (k : CumTask) (θ : List ℤ) (t : ℤ) → IsBox box → TermIn (length box) k.s × TermIn (length box) k.d × TermIn (length box) k.r → InBox box θ → pos 0 ≤ℤ val k.r θ → part (part_of box k) t ≤ℤ part (usage θ k) t
part_below box k θ t well_formed terms lies some =
    let low = val_low box k.s θ well_formed terms.0 lies in
    let high = val_high box k.s θ well_formed terms.0 lies in
    let long = val_low box k.d θ well_formed terms.1 lies in
    let used = val_low box k.r θ well_formed terms.2 lies in
    part_least (part_of box k) (usage θ k) t high (omega (arith, ints, low, long)) (omega (arith, ints, clamps, used, some)) some

-- where a task clashes with its own part, an assignment does not have it cover the moment
pub clash_uncovered : (box : List (List ℤ)) (ks : List CumTask) (us : List Used) (b : Term) (j : ℕ) (d : CumTask) (p : Place) (t : ℤ) (θ : List ℤ) → IsReady box ks us b → j < length ks
    → p.own ≡ part_of box (get_or ks j d) → p.usage ≡ term_low box (get_or ks j d).r → p.most ≡ term_high box b → Clashes (all_parts box ks us) p t
    → InBox box θ → Holds (con.CumulUsed ks us b) θ → val (get_or ks j d).s θ ≤ℤ t → t <ℤ (val (get_or ks j d).s θ +ℤ val (get_or ks j d).d θ) → ⊥
unfolding Clashes AreTasks FitsAlways
clash_uncovered box ks us b j d p t θ ready h own uses most clash lies holds from to =
    let k : CumTask = get_or ks j d in
    let below = others_least (part_of box) (usage θ) t ks j d h (λ i e within. part_below box (get_or ks i e) θ t ready.well_formed (ready.tasks.terms i e within) lies (holds.0 i e within).1) in
    let whole : part (usage θ k) t ≡ val k.r θ = part_whole (usage θ k) t from to in
    let fits = holds.1 t in
    let sum = amount_append us (map (usage θ) ks) t in
    let parts = amount_append us (map (part_of box) ks) t in
    let least = val_low box k.r θ ready.well_formed (ready.tasks.terms j d h).2 lies in
    let capacity = val_high box b θ ready.well_formed ready.capacity lies in
    let same : part p.own t ≡ part (part_of box k) t = ap (λ (u : Used). part u t) own in
    omega (arith, ints, below, whole, fits, sum, parts, least, capacity, same, uses, most, clash)

-- the parts fit wherever an assignment of the box with the constraint is
pub parts_fit : (box : List (List ℤ)) (ks : List CumTask) (us : List Used) (b : Term) (t : ℤ) (θ : List ℤ) → IsReady box ks us b → InBox box θ → Holds (con.CumulUsed ks us b) θ → amount_at (all_parts box ks us) t ≤ℤ term_high box b
unfolding AreTasks FitsAlways
parts_fit box ks us b t θ ready lies holds =
    let below = all_least (part_of box) (usage θ) t ks (λ i e within. part_below box (get_or ks i e) θ t ready.well_formed (ready.tasks.terms i e within) lies (holds.0 i e within).1) in
    let fits = holds.1 t in
    let sum = amount_append us (map (usage θ) ks) t in
    let parts = amount_append us (map (part_of box) ks) t in
    let capacity = val_high box b θ ready.well_formed ready.capacity lies in
    omega (arith, ints, below, fits, sum, parts, capacity)

-- ---- two moments
module _ (t s : ℤ) where
  sum_later : (us : List Used) → ((j : ℕ) (d : Used) → j < length us → part (get_or us j d) t ≤ℤ part (get_or us j d) s) → amount_at us t ≤ℤ amount_at us s
  sum_later [] each = omega (arith, ints)
  sum_later (u ∷ us) each =
      let one : part u t ≤ℤ part u s = each zero u (omega arith) in
      let rest = sum_later us (λ j d h. each (suc j) d (omega arith)) in
      omega (arith, ints, one, rest)

  pub others_later : (us : List Used) (i : ℕ) (d : Used) → i < length us → ((j : ℕ) (e : Used) → j < length us → part (get_or us j e) t ≤ℤ part (get_or us j e) s)
      → (amount_at us t -ℤ part (get_or us i d) t) ≤ℤ (amount_at us s -ℤ part (get_or us i d) s)
  others_later [] i d h each = absurd (omega arith)
  others_later (u ∷ us) zero d h each = let rest = sum_later us (λ j e inside. each (suc j) e (omega arith)) in omega (arith, ints, rest)
  others_later (u ∷ us) (suc i) d h each =
      let one : part u t ≤ℤ part u s = each zero u (omega arith) in
      let rest = others_later us i d (omega arith) (λ j e inside. each (suc j) e (omega arith)) in
      omega (arith, ints, one, rest)
