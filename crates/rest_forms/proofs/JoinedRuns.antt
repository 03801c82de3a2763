-- Runs of used amounts, one after the other: as a chain, with one part more, and what they use.
use Rattle.std.proofs.Common.{◌≡◌, ℕ, zero, suc, ◌+◌, ◌<◌, List, [], ◌∷◌, ◌++◌, length, refl, sym, ap, subst, arith, ℤ, pos, ◌+ℤ◌, ◌≤ℤ◌, ◌<ℤ◌}
use Rattle.std.specs.Prelude.{All, AllPairs, slice_index_or}
use Rattle.std.specs.List.{AllByRecursion}
use Rattle.std.proofs.lemmas.Int.{ints}
use Rattle.std.proofs.lemmas.List.Elements.{All-tail, recursion_from_All, All-from_recursion}
use Rattle.std.proofs.lemmas.List.Kept.{AllPairs-cons}
use Rattle.fzn_model.specs.declared.cumulative.Used.{Used}
use Rattle.fzn_model.specs.Meaning.{amount_at}
use Rattle.fzn_model.proofs.Moments.{amount_append, amount_over}
use Rattle.rest_forms.specs.Forms.{AreUsedRuns}
use Rattle.rest_forms.specs.Sweep.{part_at, CanJoin, IsJoined}

-- ---- runs as a chain
-- the next run begins where the first ends or later, and not there where the amount is the same
abbrev pub Follows : Used → List Used → Type 0
Follows u [] = Unit {0}
Follows u (v ∷ vs) = (u.to ≤ℤ v.from) × (u.to ≡ v.from → u.amount ≡ v.amount → ⊥)

abbrev pub Chain : List Used → Type 0
Chain [] = Unit {0}
Chain (u ∷ us) = (u.from <ℤ u.to) × (pos 0 <ℤ u.amount) × Follows u us × Chain us

apart_at : (us : List Used) (k m : ℕ) (d : Used) → AreUsedRuns us → m ≡ k + 1 → m < length us → (slice_index_or us k d).to ≡ (slice_index_or us m d).from → (slice_index_or us k d).amount ≡ (slice_index_or us m d).amount → ⊥
apart_at us k m d are e = subst (λ (n : ℕ). n < length us → (slice_index_or us k d).to ≡ (slice_index_or us n d).from → (slice_index_or us k d).amount ≡ (slice_index_or us n d).amount → ⊥) (sym e) (are.apart k d)

from_apart : (us : List Used) (k m : ℕ) (d : Used) → m ≡ k + 1 → (m < length us → (slice_index_or us k d).to ≡ (slice_index_or us m d).from → (slice_index_or us k d).amount ≡ (slice_index_or us m d).amount → ⊥) → k + 1 < length us → (slice_index_or us k d).to ≡ (slice_index_or us (k + 1) d).from → (slice_index_or us k d).amount ≡ (slice_index_or us (k + 1) d).amount → ⊥
from_apart us k m d e f = subst (λ (n : ℕ). n < length us → (slice_index_or us k d).to ≡ (slice_index_or us n d).from → (slice_index_or us k d).amount ≡ (slice_index_or us n d).amount → ⊥) e f

tail_runs : (u : Used) (us : List Used) → AreUsedRuns (u ∷ us) → AreUsedRuns us
tail_runs u us are = record {
  some = All-tail (λ (v : Used). (v.from <ℤ v.to) × (pos 0 <ℤ v.amount)) u us are.some;
  rising = λ i j d lt h. are.rising (suc i) (suc j) d (omega (arith, lt)) (omega (arith, h));
  apart = λ k d. from_apart us k (suc k) d (omega arith) (λ h. apart_at (u ∷ us) (suc k) (suc (suc k)) d are (omega arith) (omega (arith, h)));
}

follows_of : (u : Used) (us : List Used) → AreUsedRuns (u ∷ us) → Follows u us
follows_of u [] are = tt
follows_of u (v ∷ vs) are = (are.rising zero 1 u (omega arith) (omega arith), apart_at (u ∷ v ∷ vs) zero 1 u are (omega arith) (omega arith))

pub chain_of : (us : List Used) → AreUsedRuns us → Chain us
chain_of [] are = tt
chain_of (u ∷ us) are = let some = are.some zero u (omega arith) in (some.0, some.1, follows_of u us are, chain_of us (tail_runs u us are))

-- all later runs begin at the end of the first or later
abbrev pub BeginsFrom : ℤ → List Used → Type 0
BeginsFrom m [] = Unit {0}
BeginsFrom m (v ∷ vs) = m ≤ℤ v.from

pub begins_next : (m : ℤ) (v : Used) (vs : List Used) → m ≤ℤ v.from → Chain (v ∷ vs) → BeginsFrom m vs
begins_next m v [] from chain = tt
begins_next m v (w ∷ ws) from chain = let wide = chain.0 in let next = chain.2.0 in omega (arith, ints, wide, next)

pub begins_after : (u : Used) (us : List Used) → Follows u us → BeginsFrom u.to us
begins_after u [] follows = tt
begins_after u (v ∷ vs) follows = follows.0

pub all_begin : (m : ℤ) (us : List Used) → BeginsFrom m us → Chain us → AllByRecursion (λ (v : Used). m ≤ℤ v.from) us
all_begin m [] begins chain = tt
all_begin m (v ∷ vs) begins chain = (begins, all_begin m vs (begins_next m v vs begins chain) chain.3)

chain_rises : (us : List Used) → Chain us → AllPairs (λ (u v : Used). u.to ≤ℤ v.from) us
chain_rises [] chain = λ i j d lt h. absurd (omega (arith, h))
chain_rises (u ∷ us) chain = AllPairs-cons (λ (u v : Used). u.to ≤ℤ v.from) u us (All-from_recursion (λ (v : Used). u.to ≤ℤ v.from) us (all_begin u.to us (begins_after u us chain.2) chain.3)) (chain_rises us chain.3)

chain_some : (us : List Used) → Chain us → AllByRecursion (λ (v : Used). (v.from <ℤ v.to) × (pos 0 <ℤ v.amount)) us
chain_some [] chain = tt
chain_some (u ∷ us) chain = ((chain.0, chain.1), chain_some us chain.3)

chain_apart : (us : List Used) (k m : ℕ) (d : Used) → Chain us → m ≡ k + 1 → m < length us → (slice_index_or us k d).to ≡ (slice_index_or us m d).from → (slice_index_or us k d).amount ≡ (slice_index_or us m d).amount → ⊥
chain_apart [] k m d chain e h = absurd (omega (arith, h))
chain_apart (u ∷ us) k zero d chain e h = absurd (omega (arith, e))
chain_apart (u ∷ []) zero (suc m) d chain e h = absurd (omega (arith, h))
chain_apart (u ∷ v ∷ vs) zero (suc zero) d chain e h = chain.2.1
chain_apart (u ∷ v ∷ vs) zero (suc (suc m)) d chain e h = absurd (omega (arith, e))
chain_apart (u ∷ us) (suc k) (suc m) d chain e h = chain_apart us k m d chain.3 (omega (arith, e)) (omega (arith, h))

pub runs_of_chain : (us : List Used) → Chain us → AreUsedRuns us
runs_of_chain us chain = record {
  some = All-from_recursion (λ (v : Used). (v.from <ℤ v.to) × (pos 0 <ℤ v.amount)) us (chain_some us chain);
  rising = chain_rises us chain;
  apart = λ k d. chain_apart us k (k + 1) d chain refl;
}

-- ---- what runs use
-- before all of them, and after
pub later_all : (m t : ℤ) (us : List Used) → t <ℤ m → AllByRecursion (λ (u : Used). m ≤ℤ u.from) us → AllByRecursion (λ (u : Used). t <ℤ u.from) us
later_all m t [] h all = tt
later_all m t (u ∷ us) h all = let k : m ≤ℤ u.from = all.0 in (omega (arith, ints, k, h), later_all m t us h all.1)

weaker : (us : List Used) (m t : ℤ) → m ≤ℤ t → AllByRecursion (λ (u : Used). u.to ≤ℤ m) us → AllByRecursion (λ (u : Used). u.to ≤ℤ t) us
weaker [] m t h all = tt
weaker (u ∷ us) m t h all = let k : u.to ≤ℤ m = all.0 in (omega (arith, ints), weaker us m t h all.1)

pub all_over : (us : List Used) (m t : ℤ) → m ≤ℤ t → All (λ (u : Used). u.to ≤ℤ m) us → amount_at us t ≡ pos 0
all_over us m t h all = amount_over us t (weaker us m t h (recursion_from_All (λ (u : Used). u.to ≤ℤ m) us all))

pub ends_later : (us : List Used) (m t : ℤ) → m ≤ℤ t → All (λ (u : Used). u.to ≤ℤ m) us → All (λ (u : Used). u.to ≤ℤ t) us
ends_later us m t h all = All-from_recursion (λ (u : Used). u.to ≤ℤ t) us (weaker us m t h (recursion_from_All (λ (u : Used). u.to ≤ℤ m) us all))

-- ---- one part more
follows_front : (u last part : Used) (front : List Used) → Follows u (front ++ last ∷ []) → Follows u ((front ++ last ∷ []) ++ part ∷ [])
follows_front u last part [] follows = follows
follows_front u last part (v ∷ front) follows = follows

push_chain : (front : List Used) (last part : Used) → last.to ≤ℤ part.from → (last.to ≡ part.from → last.amount ≡ part.amount → ⊥) → part.from <ℤ part.to → pos 0 <ℤ part.amount → Chain (front ++ last ∷ []) → Chain ((front ++ last ∷ []) ++ part ∷ [])
push_chain [] last part near apart wide some chain = (chain.0, chain.1, (near, apart), (wide, some, tt, tt))
push_chain (u ∷ front) last part near apart wide some chain = (chain.0, chain.1, follows_front u last part front chain.2, push_chain front last part near apart wide some chain.3)

-- the run up to the end of the part
abbrev longer : Used → Used → Used
longer last part = record { from = last.from; to = part.to; amount = last.amount }

follows_longer : (u last part : Used) (front : List Used) → Follows u (front ++ last ∷ []) → Follows u (front ++ longer last part ∷ [])
follows_longer u last part [] follows = follows
follows_longer u last part (v ∷ front) follows = follows

longer_chain : (front : List Used) (last part : Used) → last.to ≤ℤ part.to → Chain (front ++ last ∷ []) → Chain (front ++ longer last part ∷ [])
longer_chain [] last part more chain = let wide = chain.0 in (omega (arith, ints, wide), chain.1, tt, tt)
longer_chain (u ∷ front) last part more chain = (chain.0, chain.1, follows_longer u last part front chain.2, longer_chain front last part more chain.3)

last_wide : (front : List Used) (last : Used) → Chain (front ++ last ∷ []) → last.from <ℤ last.to
last_wide [] last chain = chain.0
last_wide (u ∷ front) last chain = last_wide front last chain.3

-- what holds of all holds of all with another last one
last_holds : (m : ℤ) (front : List Used) (last : Used) → AllByRecursion (λ (u : Used). u.to ≤ℤ m) (front ++ last ∷ []) → last.to ≤ℤ m
last_holds m [] last all = all.0
last_holds m (u ∷ front) last all = last_holds m front last all.1

other_last : (m t : ℤ) (front : List Used) (last other : Used) → m ≤ℤ t → other.to ≤ℤ t → AllByRecursion (λ (u : Used). u.to ≤ℤ m) (front ++ last ∷ []) → AllByRecursion (λ (u : Used). u.to ≤ℤ t) (front ++ other ∷ [])
other_last m t [] last other h more all = (more, tt)
other_last m t (u ∷ front) last other h more all = let k : u.to ≤ℤ m = all.0 in (omega (arith, ints), other_last m t front last other h more all.1)

one_more : (m t : ℤ) (us : List Used) (part : Used) → m ≤ℤ t → part.to ≤ℤ t → AllByRecursion (λ (u : Used). u.to ≤ℤ m) us → AllByRecursion (λ (u : Used). u.to ≤ℤ t) (us ++ part ∷ [])
one_more m t [] part h more all = (more, tt)
one_more m t (u ∷ us) part h more all = let k : u.to ≤ℤ m = all.0 in (omega (arith, ints), one_more m t us part h more all.1)

ends_by : (m : ℤ) (us : List Used) → All (λ (u : Used). u.to ≤ℤ m) us → AllByRecursion (λ (u : Used). u.to ≤ℤ m) us
ends_by m us all = recursion_from_All (λ (u : Used). u.to ≤ℤ m) us all

-- ---- joined
same_alone : (part : Used) (t : ℤ) → amount_at (part ∷ []) t ≡ amount_at [] t +ℤ part_at part t
same_alone part t = omega (arith, ints)

first_joined : (part : Used) → CanJoin part [] → IsJoined part [] (part ∷ [])
first_joined part can = record {
  runs = runs_of_chain (part ∷ []) (can.wide, can.some, tt, tt);
  ends = All-from_recursion (λ (u : Used). u.to ≤ℤ part.to) (part ∷ []) (omega (arith, ints), tt);
  same = same_alone part;
}

pub join_first : (part : Used) (us front vs : List Used) → CanJoin part us → us ≡ front ++ [] → length us ≡ 0 → vs ≡ front ++ part ∷ [] → IsJoined part us vs
join_first part us [] vs can was none is = rw (was, is) (first_joined part (subst (λ (ws : List Used). CanJoin part ws) was can))
join_first part us (u ∷ front) vs can was none is = absurd (omega (arith, none, ap length was))

part_longer : (last part : Used) (t : ℤ) → last.from <ℤ last.to → part.from <ℤ part.to → last.to ≡ part.from → last.amount ≡ part.amount → part_at (longer last part) t ≡ part_at last t +ℤ part_at part t
part_longer last part t wide other near same = grind (arith, ints)

same_longer : (front : List Used) (last part : Used) (t : ℤ) → part_at (longer last part) t ≡ part_at last t +ℤ part_at part t → amount_at (front ++ longer last part ∷ []) t ≡ amount_at (front ++ last ∷ []) t +ℤ part_at part t
same_longer [] last part t e = omega (arith, ints, e)
same_longer (u ∷ front) last part t e = omega (arith, ints, same_longer front last part t e)

on_joined : (part : Used) (front : List Used) (last : Used) → CanJoin part (front ++ last ∷ []) → (last.to ≡ part.from) × (last.amount ≡ part.amount) → IsJoined part (front ++ last ∷ []) (front ++ longer last part ∷ [])
on_joined part front last can on =
    let chain = chain_of (front ++ last ∷ []) can.runs in
    let wide = can.wide in
    let near = on.0 in
    record {
      runs = runs_of_chain (front ++ longer last part ∷ []) (longer_chain front last part (omega (arith, ints, wide, near)) chain);
      ends = All-from_recursion (λ (u : Used). u.to ≤ℤ part.to) (front ++ longer last part ∷ []) (other_last part.from part.to front last (longer last part) (omega (arith, ints, wide)) (omega (arith, ints)) (ends_by part.from (front ++ last ∷ []) can.ends));
      same = λ t. same_longer front last part t (part_longer last part t (last_wide front last chain) wide near on.1);
    }

pub join_on : (part last : Used) (us front vs : List Used) → CanJoin part us → us ≡ front ++ last ∷ [] → (last.to ≡ part.from) × (last.amount ≡ part.amount) → vs ≡ front ++ record { from = last.from; to = part.to; amount = last.amount } ∷ [] → IsJoined part us vs
join_on part last us front vs can was on is = rw (was, is) (on_joined part front last (subst (λ (ws : List Used). CanJoin part ws) was can) on)

same_more : (us : List Used) (part : Used) (t : ℤ) → amount_at (us ++ part ∷ []) t ≡ amount_at us t +ℤ part_at part t
same_more us part t = let e = amount_append us (part ∷ []) t in omega (arith, ints, e)

apart_joined : (part : Used) (front : List Used) (last : Used) → CanJoin part (front ++ last ∷ []) → ((last.to ≡ part.from) × (last.amount ≡ part.amount) → ⊥) → IsJoined part (front ++ last ∷ []) ((front ++ last ∷ []) ++ part ∷ [])
apart_joined part front last can apart =
    let ends = ends_by part.from (front ++ last ∷ []) can.ends in
    let wide = can.wide in
    record {
      runs = runs_of_chain ((front ++ last ∷ []) ++ part ∷ []) (push_chain front last part (last_holds part.from front last ends) (λ e f. apart (e, f)) wide can.some (chain_of (front ++ last ∷ []) can.runs));
      ends = All-from_recursion (λ (u : Used). u.to ≤ℤ part.to) ((front ++ last ∷ []) ++ part ∷ []) (one_more part.from part.to (front ++ last ∷ []) part (omega (arith, ints, wide)) (omega (arith, ints)) ends);
      same = same_more (front ++ last ∷ []) part;
    }

pub join_apart : (part last : Used) (us front between vs : List Used) → CanJoin part us → us ≡ front ++ last ∷ [] → ((last.to ≡ part.from) × (last.amount ≡ part.amount) → ⊥) → between ≡ front ++ last ∷ [] → vs ≡ between ++ part ∷ [] → IsJoined part us vs
join_apart part last us front between vs can was apart there is = rw (is, there, was) (apart_joined part front last (subst (λ (ws : List Used). CanJoin part ws) was can) apart)
