-- The difference of two lists of used amounts is bounded where it is bounded at the moments where it may rise, and what is used
-- of amounts that are apart.
use Rattle.std.proofs.Common.{◌≡◌, ℕ, suc, zero, ◌+◌, ◌-◌, ◌*◌, ◌<◌, ◌≤◌, List, [], ◌∷◌, length, get_or, refl, arith, ℤ, pos, negsuc, ◌-ℤ◌, ◌≤ℤ◌, ◌<ℤ◌, below_more, subst}
use Rattle.std.proofs.lemmas.Int.{ints, by_lt_z}
use Rattle.std.proofs.lemmas.List.{get_or_default}
use Rattle.std.proofs.lemmas.List.Elements.{recursion_from_All}
use Rattle.fzn_model.specs.Meaning.{amount_at}
use Rattle.fzn_model.specs.Values.{largest}
use Rattle.fzn_model.specs.Limits.{UsedInLimits, of_call}
use Rattle.fzn_model.specs.declared.cumulative.Used.{Used}
use Rattle.fzn_model.proofs.Moments.{part, part_later, part_over, NotNegative, amount_later, difference_below}
use Rattle.rest_key.specs.Weaker.{LeavesAsMuch, UsesNoMore}
use Rattle.rest_key.specs.PartTests.{AreApart, IsFirstAfter, StaysBelow, BeginsBelow, EndsBelow}

-- the amounts of a kept list aren't negative
amounts : (us : List Used) → UsedInLimits of_call us → NotNegative us
amounts us k i d p = (k.amounts i d p).0

pub stays_below : (us vs : List Used) (r : ℤ) → UsedInLimits of_call us → UsedInLimits of_call vs → pos 0 ≤ℤ r → BeginsBelow us vs r → EndsBelow us vs r → StaysBelow us vs r
unfolding BeginsBelow EndsBelow StaysBelow
stays_below us vs r k l = difference_below us vs r (amounts us k) (amounts vs l)

pub below_begins : (us vs : List Used) (r : ℤ) → StaysBelow us vs r → BeginsBelow us vs r
unfolding StaysBelow BeginsBelow
below_begins us vs r s i d h = s _

pub below_ends : (us vs : List Used) (r : ℤ) → StaysBelow us vs r → EndsBelow us vs r
unfolding StaysBelow EndsBelow
below_ends us vs r s i d h = s _

-- before the least moment that a call takes nothing is used
unused : (us : List Used) → UsedInLimits of_call us → amount_at us (negsuc (2 * largest)) ≡ pos 0
unused us k = amount_later us (negsuc (2 * largest)) (recursion_from_All (λ (u : Used). negsuc (2 * largest) <ℤ u.from) us (λ i d p. let near = (k.moments i d p).0 in omega (arith, ints, near)))

pub below_room : (us vs : List Used) (r : ℤ) → UsedInLimits of_call us → UsedInLimits of_call vs → StaysBelow us vs r → pos 0 ≤ℤ r
unfolding StaysBelow
below_room us vs r k l s = let h = s (negsuc (2 * largest)) in let p = unused us k in let q = unused vs l in omega (arith, ints, h, p, q)

pub leaves_stays : (b : ℤ) (us : List Used) (c : ℤ) (vs : List Used) (r : ℤ) → r ≡ b -ℤ c → LeavesAsMuch b us c vs → StaysBelow us vs r
unfolding LeavesAsMuch StaysBelow
leaves_stays b us c vs r e h t = let k = h t in omega (arith, ints)

pub stays_leaves : (b : ℤ) (us : List Used) (c : ℤ) (vs : List Used) (r : ℤ) → r ≡ b -ℤ c → StaysBelow us vs r → LeavesAsMuch b us c vs
unfolding LeavesAsMuch StaysBelow
stays_leaves b us c vs r e h t = let k = h t in omega (arith, ints)

pub no_more_stays : (us vs : List Used) → UsesNoMore us vs → StaysBelow us vs (pos 0)
unfolding UsesNoMore StaysBelow
no_more_stays us vs h t = let k = h t in omega (arith, ints)

pub stays_no_more : (us vs : List Used) → StaysBelow us vs (pos 0) → UsesNoMore us vs
unfolding UsesNoMore StaysBelow
stays_no_more us vs h t = let k = h t in omega (arith, ints)

-- of amounts that are apart at most the first that hasn't ended is used
idle : (us : List Used) (t : ℤ) → ((k : ℕ) (e : Used) → k < length us → part (get_or us k e) t ≡ pos 0) → amount_at us t ≡ pos 0
idle [] t h = refl
idle (u ∷ us) t h = let q = idle us t (λ k e l. h (suc k) e (omega arith)) in let o : part u t ≡ pos 0 = h 0 u (omega arith) in omega (arith, ints, q, o)

alone : (us : List Used) (p : ℕ) (d : Used) (t : ℤ) → p < length us → ((k : ℕ) (e : Used) → k < p → part (get_or us k e) t ≡ pos 0) → ((k : ℕ) (e : Used) → p < k → k < length us → part (get_or us k e) t ≡ pos 0) → amount_at us t ≡ part (get_or us p d) t
alone [] p d t h before after = absurd (omega arith)
alone (u ∷ us) zero d t h before after = let q = idle us t (λ k e l. after (suc k) e (omega arith) (omega arith)) in omega (arith, ints, q)
alone (u ∷ us) (suc p) d t h before after =
    let q = alone us p d t (omega arith) (λ k e l. before (suc k) e (omega arith)) (λ k e l m. after (suc k) e (omega arith) (omega arith)) in
    let o : part u t ≡ pos 0 = before 0 u (omega arith) in
    omega (arith, ints, q, o)

pub one_at : (us : List Used) (p : ℕ) (d : Used) (t : ℤ) → AreApart us → IsFirstAfter us t p → p < length us → amount_at us t ≡ part (get_or us p d) t
one_at us p d t a f h = alone us p d t h
    (λ k e l. part_over (get_or us k e) t (f.before k e l))
    (λ k e l m. part_later (get_or us k e) t (let g = a.gaps p k e l m in let n = f.after p e (omega arith) h in omega (arith, ints, g, n)))

pub none_at : (us : List Used) (p : ℕ) (t : ℤ) → IsFirstAfter us t p → p ≡ length us → amount_at us t ≡ pos 0
none_at us p t f e = idle us t (λ k d l. part_over (get_or us k d) t (f.before k d (omega (arith, e, l))))

-- ends rise
ends_rise : (us : List Used) (j k : ℕ) (d : Used) → AreApart us → j < k → k < length us → (get_or us j d).to ≤ℤ (get_or us k d).to
ends_rise us j k d a l h = let g = a.gaps j k d l h in let e = a.ends k d h in omega (arith, ints, g, e)

pub reach_more : (us : List Used) (t : ℤ) (m : ℕ) (e : Used) → AreApart us → m < length us → (get_or us m e).to ≤ℤ t → (k : ℕ) (d : Used) → k < m + 1 → (get_or us k d).to ≤ℤ t
reach_more us t m e a h over k d l =
    let here : (d : Used) → (get_or us m d).to ≤ℤ t = λ d. subst (λ (u : Used). u.to ≤ℤ t) (get_or_default us m e d h) over in
    below_more (λ k. (d : Used) → (get_or us k d).to ≤ℤ t) m (λ k n d. let p = ends_rise us k m d a n h in let q = here d in omega (arith, ints, p, q)) here k l d

pub reach_less : (us : List Used) (t : ℤ) (m : ℕ) (e : Used) → AreApart us → m < length us → ((get_or us m e).to ≤ℤ t → ⊥) → (k : ℕ) (d : Used) → m ≤ k → k < length us → t <ℤ (get_or us k d).to
reach_less us t m e a h not k d l i =
    let here : (d : Used) → (get_or us m d).to ≤ℤ t → ⊥ = λ d o. not (subst (λ (u : Used). u.to ≤ℤ t) (get_or_default us m d e h) o) in
    by_lt_z t (get_or us k d).to (λ n. n) (λ n.
    let up : m < k → ⊥ = λ o. let p = ends_rise us m k d a o i in here d (omega (arith, ints, p, n)) in
    let same : k ≡ m → ⊥ = λ q. here d (subst (λ (n : ℕ). (get_or us n d).to ≤ℤ t) q n) in
    absurd (omega (arith, up, same, l)))

-- one more amount that follows
below_more_of : (us : List Used) (k : ℕ) → ((j : ℕ) → j < suc k → (i : ℕ) (d : Used) → i < j → (get_or us i d).to ≤ℤ (get_or us j d).from) → ((j : ℕ) (d : Used) → j < suc k → (get_or us j d).from ≤ℤ (get_or us j d).to) → (0 < suc k → (d : Used) → (get_or us (suc k - 1) d).to ≤ℤ (get_or us (suc k) d).from) → (i : ℕ) (d : Used) → i < suc k → (get_or us i d).to ≤ℤ (get_or us (suc k) d).from
below_more_of us k gaps ends next i d l =
    let one : suc k - 1 ≡ k = omega arith in
    let near : (get_or us k d).to ≤ℤ (get_or us (suc k) d).from = subst (λ (n : ℕ). (get_or us n d).to ≤ℤ (get_or us (suc k) d).from) one (next (omega arith) d) in
    below_more (λ i. (get_or us i d).to ≤ℤ (get_or us (suc k) d).from) k (λ i n. let p = gaps k (omega arith) i d n in let q = ends k d (omega arith) in omega (arith, ints, p, q, near)) near i (omega arith)

last : (us : List Used) (k : ℕ) → ((j : ℕ) → j < k → (i : ℕ) (d : Used) → i < j → (get_or us i d).to ≤ℤ (get_or us j d).from) → ((j : ℕ) (d : Used) → j < k → (get_or us j d).from ≤ℤ (get_or us j d).to) → (0 < k → (d : Used) → (get_or us (k - 1) d).to ≤ℤ (get_or us k d).from) → (i : ℕ) (d : Used) → i < k → (get_or us i d).to ≤ℤ (get_or us k d).from
last us zero gaps ends next i d l = absurd (omega arith)
last us (suc k) gaps ends next i d l = below_more_of us k gaps ends next i d l

pub gaps_more : (us : List Used) (k : ℕ) → ((j : ℕ) → j < k → (i : ℕ) (d : Used) → i < j → (get_or us i d).to ≤ℤ (get_or us j d).from) → ((j : ℕ) (d : Used) → j < k → (get_or us j d).from ≤ℤ (get_or us j d).to) → (0 < k → (d : Used) → (get_or us (k - 1) d).to ≤ℤ (get_or us k d).from) → (j : ℕ) → j < k + 1 → (i : ℕ) (d : Used) → i < j → (get_or us i d).to ≤ℤ (get_or us j d).from
gaps_more us k gaps ends next j l = below_more (λ j. (i : ℕ) (d : Used) → i < j → (get_or us i d).to ≤ℤ (get_or us j d).from) k gaps (last us k gaps ends next) j l

pub ends_more : (us : List Used) (k : ℕ) → ((j : ℕ) (d : Used) → j < k → (get_or us j d).from ≤ℤ (get_or us j d).to) → ((d : Used) → (get_or us k d).from ≤ℤ (get_or us k d).to) → (j : ℕ) (d : Used) → j < k + 1 → (get_or us j d).from ≤ℤ (get_or us j d).to
ends_more us k ends here j d l = below_more (λ j. (d : Used) → (get_or us j d).from ≤ℤ (get_or us j d).to) k (λ i n d. ends i d n) here j l d
