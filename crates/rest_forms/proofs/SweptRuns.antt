-- A sweep over the changes of what is used gives the runs that use as much.
use Rattle.std.proofs.Common.{◌≡◌, ℕ, zero, suc, ◌+◌, ◌*◌, ◌^◌, ◌<◌, ◌≤◌, List, [], ◌∷◌, ◌++◌, length, drop, refl, sym, ap, subst, ◌∙◌, arith, ℤ, pos, negsuc, ◌+ℤ◌, ◌-ℤ◌, ◌≤ℤ◌, ◌<ℤ◌, neg_ℤ, Bool, true, false, cond, length-append, add-one, drop-cons}
use Rattle.std.specs.Prelude.{All, ◌&&◌, int_le, int_lt, if◌then◌else◌, slice_index_or, sum_by, unsigned_abs}
use Rattle.std.specs.List.{AllByRecursion, flat_map}
use Rattle.std.specs.List.Sorted.{IsPermutation, IsSortedByKey}
use Rattle.std.specs.Ordering.{int_cmp, is_lt}
use Rattle.std.specs.Cmp.{int_ranks}
use Rattle.std.proofs.lemmas.Int.{ints}
use Rattle.std.proofs.lemmas.Bool.{false≢true}
use Rattle.std.proofs.lemmas.Cmp.{by_ranked}
use Rattle.std.proofs.lemmas.List.Elements.{All-nil, All-cons, recursion_from_All, All-from_recursion}
use Rattle.std.proofs.lemmas.List.Sums.{sum_by-cons}
use Rattle.std.proofs.lemmas.List.Sorted.{All-permutation, sum_by-IsPermutation, length_permutation}
use Rattle.fzn_model.specs.declared.cumulative.Used.{Used}
use Rattle.fzn_model.specs.Limits.{IsNear}
use Rattle.fzn_model.specs.Meaning.{amount_at}
use Rattle.fzn_model.proofs.Moments.{amount_not_negative}
use Rattle.rest_forms.specs.Forms.{AreUsedRuns, AreRunsOf}
use Rattle.rest_forms.specs.Sweep.{IsAmount, AreAmounts, part_at, changes_of_part, changes_of, changed_by, AreFrom, AreChanges, CanStep, IsStep, Swept}
use Rattle.rest_forms.specs.declared.used_runs.Change.{Change}
use Rattle.rest_forms.specs.declared.used_runs.Sweep.{Sweep}
use Rattle.rest_forms.proofs.JoinedRuns.{runs_of_chain, all_over, ends_later}

-- ---- changes add up to what is used
changed_append : (cs ds : List Change) (t : ℤ) → changed_by (cs ++ ds) t ≡ changed_by cs t +ℤ changed_by ds t
changed_append [] ds t = omega (arith, ints)
changed_append (c ∷ cs) ds t = omega (arith, ints, changed_append cs ds t)

part_changed_by : (u : Used) (t : ℤ) (w : Bool) → int_lt u.from u.to ≡ w → changed_by (if w then (record { moment = u.from; amount = u.amount }) ∷ (record { moment = u.to; amount = neg_ℤ u.amount }) ∷ [] else []) t ≡ part_at u t
part_changed_by u t true e = grind (arith, ints)
part_changed_by u t false e = grind (arith, ints)

changed_is : (us : List Used) (t : ℤ) → changed_by (changes_of us) t ≡ amount_at us t
unfolding changes_of
changed_is [] t = refl
changed_is (u ∷ us) t =
    let split = changed_append (changes_of_part u) (flat_map changes_of_part us) t in
    let here : changed_by (changes_of_part u) t ≡ part_at u t = part_changed_by u t (int_lt u.from u.to) refl in
    let rest = changed_is us t in
    omega (arith, ints, split, here, rest)

-- ---- in any order
up : ℤ → ℕ
up (pos n) = n
up (negsuc n) = 0

down : ℤ → ℕ
down (pos n) = 0
down (negsuc n) = suc n

up_and_down : (z : ℤ) → pos (up z) -ℤ pos (down z) ≡ z
unfolding up down
up_and_down (pos n) = omega (arith, ints)
up_and_down (negsuc n) = omega (arith, ints)

-- what is changed at a moment or before
abbrev so_far : ℤ → Change → ℤ
so_far t c = cond (int_le c.moment t) c.amount (pos 0)

halves : (cs : List Change) (t : ℤ) → changed_by cs t ≡ pos (sum_by (λ (c : Change). up (so_far t c)) cs) -ℤ pos (sum_by (λ (c : Change). down (so_far t c)) cs)
halves [] t = refl
halves (c ∷ cs) t =
    let one = sum_by-cons (λ (c : Change). up (so_far t c)) c cs in
    let two = sum_by-cons (λ (c : Change). down (so_far t c)) c cs in
    let here = up_and_down (so_far t c) in
    let rest = halves cs t in
    omega (arith, ints, one, two, here, rest)

changed_moved : (cs ds : List Change) (t : ℤ) → IsPermutation cs ds → changed_by ds t ≡ changed_by cs t
changed_moved cs ds t moved =
    let one = sum_by-IsPermutation (λ (c : Change). up (so_far t c)) cs ds moved in
    let two = sum_by-IsPermutation (λ (c : Change). down (so_far t c)) cs ds moved in
    omega (arith, ints, one, two, halves cs t, halves ds t)

-- ---- the limits of changes
each_append : {X : Type 0} (P : X → Type 0) (xs ys : List X) → AllByRecursion P xs → AllByRecursion P ys → AllByRecursion P (xs ++ ys)
each_append P [] ys f g = g
each_append P (x ∷ xs) ys f g = (f.0, each_append P xs ys f.1 g)

abbrev IsSmall : Change → Type 0
IsSmall c = unsigned_abs c.amount ≤ 2 ^ 100

abbrev IsAfterAll : Change → Type 0
IsAfterAll c = neg_ℤ (pos (2 ^ 63)) ≤ℤ c.moment

part_fine_by : (u : Used) (w : Bool) → IsNear u.from → IsNear u.to → unsigned_abs u.amount ≤ 2 ^ 100 → AllByRecursion (λ c. IsSmall c × IsAfterAll c) (if w then (record { moment = u.from; amount = u.amount }) ∷ (record { moment = u.to; amount = neg_ℤ u.amount }) ∷ [] else [])
part_fine_by u true from to small = ((small, omega (arith, ints, from)), ((omega (arith, ints, small), omega (arith, ints, to)), tt))
part_fine_by u false from to small = tt

part_count_by : (u : Used) (w : Bool) → length {A = Change} (if w then (record { moment = u.from; amount = u.amount }) ∷ (record { moment = u.to; amount = neg_ℤ u.amount }) ∷ [] else []) ≤ 2
part_count_by u true = omega arith
part_count_by u false = omega arith

all_fine : (us : List Used) → AllByRecursion IsAmount us → AllByRecursion (λ c. IsSmall c × IsAfterAll c) (flat_map changes_of_part us)
all_fine [] all = tt
all_fine (u ∷ us) all = let one = all.0 in each_append (λ c. IsSmall c × IsAfterAll c) (changes_of_part u) (flat_map changes_of_part us) (part_fine_by u (int_lt u.from u.to) one.from one.to one.small) (all_fine us all.1)

change_count : (us : List Used) → length (flat_map changes_of_part us) ≤ 2 * length us
change_count [] = omega arith
change_count (u ∷ us) =
    let here : length (changes_of_part u) ≤ 2 = part_count_by u (int_lt u.from u.to) in
    let rest = change_count us in
    let both = length-append (changes_of_part u) (flat_map changes_of_part us) in
    omega (arith, here, rest, both)

-- ---- in order
not_before : (a b : ℤ) → is_lt (int_cmp a b) ≡ false → b ≤ℤ a
not_before a b e = by_ranked _ _ _ (int_cmp a b) (int_ranks a b)
    (λ is less. absurd (false≢true (sym e ∙ ap is_lt is)))
    (λ is same. omega (arith, ints, same))
    (λ is more. omega (arith, ints, more))

abbrev StartsFrom : ℤ → List Change → Type 0
StartsFrom m [] = Unit {0}
StartsFrom m (c ∷ cs) = m ≤ℤ c.moment

starts_next : (c : Change) (cs : List Change) → ((k j : ℕ) (d : Change) → j ≡ k + 1 → j < length (c ∷ cs) → (slice_index_or (c ∷ cs) k d).moment ≤ℤ (slice_index_or (c ∷ cs) j d).moment) → StartsFrom c.moment cs
starts_next c [] climbs = tt
starts_next c (d ∷ cs) climbs = climbs zero 1 c (omega arith) (omega arith)

order_from : (m : ℤ) (cs : List Change) → StartsFrom m cs → ((k j : ℕ) (d : Change) → j ≡ k + 1 → j < length cs → (slice_index_or cs k d).moment ≤ℤ (slice_index_or cs j d).moment) → AreFrom m cs
order_from m [] starts climbs = tt
order_from m (c ∷ cs) starts climbs = (starts, order_from c.moment cs (starts_next c cs climbs) (λ k j d e h. climbs (suc k) (suc j) d (omega (arith, e)) (omega (arith, h))))

climbs_from : (cs : List Change) → IsSortedByKey (λ (c : Change). c.moment) int_cmp cs → (k j : ℕ) (d : Change) → j ≡ k + 1 → j < length cs → (slice_index_or cs k d).moment ≤ℤ (slice_index_or cs j d).moment
climbs_from cs sorted k j d e = subst (λ (n : ℕ). n < length cs → (slice_index_or cs k d).moment ≤ℤ (slice_index_or cs n d).moment) (sym e) (λ h. not_before _ _ (sorted k d (omega arith) h))

first_from : (cs : List Change) → AllByRecursion (λ c. IsSmall c × IsAfterAll c) cs → StartsFrom (neg_ℤ (pos (2 ^ 63))) cs
first_from [] all = tt
first_from (c ∷ cs) all = all.0.1

all_small : (cs : List Change) → AllByRecursion (λ c. IsSmall c × IsAfterAll c) cs → AllByRecursion IsSmall cs
all_small [] all = tt
all_small (c ∷ cs) all = (all.0.0, all_small cs all.1)

pub in_order : (us : List Used) (cs ds : List Change) → AreAmounts us → cs ≡ changes_of us → IsPermutation cs ds → IsSortedByKey (λ (c : Change). c.moment) int_cmp ds → AreChanges us ds
unfolding changes_of
in_order us cs ds amounts is moved sorted =
    let fine = all_fine us (recursion_from_All IsAmount us amounts.each) in
    let before : AllByRecursion (λ c. IsSmall c × IsAfterAll c) cs = subst (λ (es : List Change). AllByRecursion (λ c. IsSmall c × IsAfterAll c) es) (sym is) fine in
    let after = recursion_from_All (λ c. IsSmall c × IsAfterAll c) ds (All-permutation (λ c. IsSmall c × IsAfterAll c) cs ds moved (All-from_recursion (λ c. IsSmall c × IsAfterAll c) cs before)) in
    let count = change_count us in
    let long = ap length is in
    let same = length_permutation cs ds moved in
    record {
      count = omega (arith, count, long, same, amounts.count);
      small = All-from_recursion IsSmall ds (all_small ds after);
      order = order_from (neg_ℤ (pos (2 ^ 63))) ds (first_from ds after) (climbs_from ds sorted);
      same = λ t. changed_moved cs ds t moved ∙ ap (λ (es : List Change). changed_by es t) is ∙ changed_is us t;
    }

-- ---- nothing is changed before the first
not_so_far : (t : ℤ) (c : Change) → t <ℤ c.moment → so_far t c ≡ pos 0
not_so_far t c h = grind (arith, ints)

pub not_yet : (m t : ℤ) (cs : List Change) → AreFrom m cs → t <ℤ m → changed_by cs t ≡ pos 0
not_yet m t [] from h = refl
not_yet m t (c ∷ cs) from h =
    let later = from.0 in
    let here : so_far t c ≡ pos 0 = not_so_far t c (omega (arith, ints, later, h)) in
    let rest = not_yet c.moment t cs from.1 (omega (arith, ints, later, h)) in
    omega (arith, ints, here, rest)

-- ---- no amount is negative, and in the end nothing is used
pub amounts_some : (us : List Used) (t : ℤ) → AreAmounts us → pos 0 ≤ℤ amount_at us t
amounts_some us t amounts = amount_not_negative us t (λ i d h. (amounts.each i d h).some)

-- ---- the sweep
pub swept_none : (us : List Used) (cs : List Change) (s : Sweep) → AreChanges us cs → s.runs.items ≡ [] → s.last ≡ neg_ℤ (pos (2 ^ 63)) → s.amount ≡ pos 0 → Swept us cs s
swept_none us cs s changes none last amount = record {
  runs = subst (λ (vs : List Used). AreUsedRuns vs) (sym none) (runs_of_chain [] tt);
  ends = subst (λ (vs : List Used). All (λ (u : Used). u.to ≤ℤ s.last) vs) (sym none) (λ k d h. absurd (omega (arith, h)));
  order = subst (λ (m : ℤ). AreFrom m cs) (sym last) changes.order;
  same = λ t h. ap (λ (vs : List Used). amount_at vs t) none ∙ sym (not_yet (neg_ℤ (pos (2 ^ 63))) t cs changes.order (subst (λ (m : ℤ). t <ℤ m) last h)) ∙ changes.same t;
  later = λ t h. let e = changes.same t in omega (arith, ints, e, amount);
}

-- what is used up to the next change
until_next : (us : List Used) (c : Change) (rest : List Change) (s : Sweep) (t : ℤ) → Swept us (c ∷ rest) s → s.last ≤ℤ t → t <ℤ c.moment → amount_at us t ≡ s.amount
until_next us c rest s t swept from h =
    let e = swept.later t from in
    let none : changed_by (c ∷ rest) t ≡ pos 0 = not_yet c.moment t (c ∷ rest) (omega (arith, ints), swept.order.1) h in
    omega (arith, ints, e, none)

pub can_step : (us : List Used) (c : Change) (left rest : List Change) (s : Sweep) → AreAmounts us → left ≡ c ∷ rest → Swept us left s → unsigned_abs s.amount ≤ 2 ^ 125 → unsigned_abs c.amount ≤ 2 ^ 100 → CanStep c s
can_step us c left rest s amounts is swept small small_change =
    let next = subst (λ (cs : List Change). Swept us cs s) is swept in
    record {
      runs = swept.runs;
      ends = swept.ends;
      order = next.order.0;
      positive = λ h. subst (λ (z : ℤ). pos 0 ≤ℤ z) (until_next us c rest s s.last next (omega (arith, ints)) h) (amounts_some us s.last amounts);
      small = small;
      small_change = small_change;
    }

-- of a part from the last moment to the change
inside : (a b t z : ℤ) → a ≤ℤ t → t <ℤ b → cond (int_le a t && int_lt t b) z (pos 0) ≡ z
inside a b t z g h = grind (arith, ints)

outside : (a b t z : ℤ) → t <ℤ a → cond (int_le a t && int_lt t b) z (pos 0) ≡ pos 0
outside a b t z h = grind (arith, ints)

change_come : (c : Change) (t : ℤ) → c.moment ≤ℤ t → so_far t c ≡ c.amount
change_come c t h = grind (arith, ints)

step_same : (us : List Used) (c : Change) (rest : List Change) (s r : Sweep) (t : ℤ) → Swept us (c ∷ rest) s → IsStep c s r → t <ℤ c.moment → (w : Bool) → int_lt t s.last ≡ w → amount_at r.runs.items t ≡ amount_at us t
step_same us c rest s r t swept step h true e =
    let before = swept.same t (omega (arith, ints, e)) in
    let new = step.same t in
    let none = outside s.last c.moment t s.amount (omega (arith, ints, e)) in
    omega (arith, ints, before, new, none)
step_same us c rest s r t swept step h false e =
    let new = step.same t in
    let old = all_over s.runs.items s.last t (omega (arith, ints, e)) swept.ends in
    let all = inside s.last c.moment t s.amount (omega (arith, ints, e)) h in
    let used = until_next us c rest s t swept (omega (arith, ints, e)) h in
    omega (arith, ints, new, old, all, used)

step_later : (us : List Used) (c : Change) (rest : List Change) (s r : Sweep) (t : ℤ) → Swept us (c ∷ rest) s → IsStep c s r → c.moment ≤ℤ t → r.amount +ℤ changed_by rest t ≡ amount_at us t
step_later us c rest s r t swept step h =
    let order = swept.order.0 in
    let before = swept.later t (omega (arith, ints, order, h)) in
    let here : so_far t c ≡ c.amount = change_come c t h in
    let new = step.amount in
    omega (arith, ints, before, here, new)

pub swept_step : (us : List Used) (c : Change) (left rest : List Change) (s r : Sweep) → left ≡ c ∷ rest → Swept us left s → IsStep c s r → Swept us rest r
swept_step us c left rest s r is swept step =
    let next = subst (λ (cs : List Change). Swept us cs s) is swept in
    record {
      runs = step.runs;
      ends = subst (λ (m : ℤ). All (λ (u : Used). u.to ≤ℤ m) r.runs.items) (sym step.last) step.ends;
      order = subst (λ (m : ℤ). AreFrom m rest) (sym step.last) next.order.1;
      same = λ t h. step_same us c rest s r t next step (subst (λ (m : ℤ). t <ℤ m) step.last h) (int_lt t s.last) refl;
      later = λ t h. step_later us c rest s r t next step (subst (λ (m : ℤ). m ≤ℤ t) step.last h);
    }

-- a moment by which all is over
over_by_more : (u : Used) (us : List Used) (m t : ℤ) → m ≤ℤ t → All (λ (v : Used). v.to ≤ℤ t) us → (w : Bool) → int_le u.to t ≡ w → (t : ℤ) × (m ≤ℤ t) × All (λ (v : Used). v.to ≤ℤ t) (u ∷ us)
over_by_more u us m t h all true e = (t, h, All-cons (λ (v : Used). v.to ≤ℤ t) u us (omega (arith, ints, e)) all)
over_by_more u us m t h all false e = (u.to, omega (arith, ints, e, h), All-cons (λ (v : Used). v.to ≤ℤ u.to) u us (omega (arith, ints)) (ends_later us t u.to (omega (arith, ints, e)) all))

over_by : (us : List Used) (m : ℤ) → (t : ℤ) × (m ≤ℤ t) × All (λ (u : Used). u.to ≤ℤ t) us
over_by [] m = (m, omega (arith, ints), All-nil (λ (u : Used). u.to ≤ℤ m))
over_by (u ∷ us) m = let (t, h, all) = over_by us m in over_by_more u us m t h all (int_le u.to t) refl

end_same : (us : List Used) (s : Sweep) (t : ℤ) → Swept us [] s → s.amount ≡ pos 0 → (w : Bool) → int_lt t s.last ≡ w → amount_at s.runs.items t ≡ amount_at us t
end_same us s t swept none true e = swept.same t (omega (arith, ints, e))
end_same us s t swept none false e =
    let old = all_over s.runs.items s.last t (omega (arith, ints, e)) swept.ends in
    let new = swept.later t (omega (arith, ints, e)) in
    omega (arith, ints, old, new, none)

pub swept_all : (us : List Used) (left : List Change) (s : Sweep) → left ≡ [] → Swept us left s → AreRunsOf s.runs.items us
swept_all us left s is swept =
    let done = subst (λ (cs : List Change). Swept us cs s) is swept in
    let (end, after, over) = over_by us s.last in
    let still = done.later end after in
    let quiet = all_over us end end (omega (arith, ints)) over in
    record { runs = swept.runs; same = λ t. end_same us s t done (omega (arith, ints, still, quiet)) (int_lt t s.last) refl }

-- ---- what is left of the changes
pub next_change : (cs : List Change) (i : ℕ) (d : Change) → i < length cs → drop i cs ≡ slice_index_or cs i d ∷ drop (i + 1) cs
next_change cs i d h = rw add-one (drop-cons cs i d h)

pub none_left : (cs : List Change) (i : ℕ) → length cs ≤ i → drop i cs ≡ []
none_left [] zero h = refl
none_left [] (suc i) h = refl
none_left (c ∷ cs) zero h = absurd (omega (arith, h))
none_left (c ∷ cs) (suc i) h = none_left cs i (omega (arith, h))
