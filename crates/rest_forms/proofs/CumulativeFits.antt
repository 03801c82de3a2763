-- What is left of cumulative tasks fits the box: the runs are few, since each begins where some amount begins or ends.
use Rattle.std.proofs.Common.{◌≡◌, suc, ◌*◌, ◌^◌, ◌<◌, ◌≤◌, ◌⊎◌, List, [], ◌∷◌, ◌++◌, length, map, refl, sym, ap, subst, ◌∙◌, arith, inl, inr, ℤ, pos, ◌-ℤ◌, ◌≤ℤ◌, ◌<ℤ◌, Bool, true, false}
use Rattle.std.specs.Prelude.{All, filter, if◌then◌else◌, int_lt, int_le, slice_index_or, unsigned_abs}
use Rattle.std.specs.Bool.{MatchBool}
use Rattle.std.specs.Ordering.{int_eq}
use Rattle.std.specs.List.{AllByRecursion}
use Rattle.std.proofs.lemmas.Int.{ints}
use Rattle.std.proofs.lemmas.Bool.{false≢true}
use Rattle.std.proofs.lemmas.Bool.Decides.{Decides-int_eq}
use Rattle.std.proofs.lemmas.List.{length-map}
use Rattle.std.proofs.lemmas.List.Elements.{All-append, All-filter, All-map, recursion_from_All, All-from_recursion}
use Rattle.fzn_model.specs.declared.term.Term.{Term}
use Rattle.fzn_model.specs.declared.cumulative.CumTask.{CumTask}
use Rattle.fzn_model.specs.declared.cumulative.Used.{Used}
use Rattle.fzn_model.specs.declared.con.Con.{Con}
use Rattle.fzn_model.specs.declared.con.Con.TheVariants as con
use Rattle.fzn_model.specs.Meaning.{amount_at}
use Rattle.fzn_model.specs.Values.{largest}
use Rattle.fzn_model.specs.Limits.{IsNear, TermIn, TasksInLimits, UsedInLimits, ConInLimits, of_call, of_model}
use Rattle.fzn_model.specs.Boxes.{IsBox}
use Rattle.fzn_model.specs.Bounds.{term_low}
use Rattle.fzn_model.specs.Booleans.{FitsBox}
use Rattle.rest_basic.specs.Forms.{substituted, empty_clause, of_truth}
use Rattle.rest_basic.specs.declared.reduced.Reduced.{Reduced}
use Rattle.rest_basic.specs.declared.reduced.Reduced.TheVariants as reduced
use Rattle.rest_basic.proofs.Substituting.{low_is, FormFitsBox, substituted_in, never_fine, truth_fine}
use Rattle.rest_basic.proofs.ListMembers.{filter_shorter}
use Rattle.fzn_model.proofs.Moments.{part_over}
use Rattle.rest_forms.specs.Forms.{AreRunsOf, is_open_task, open_tasks, substituted_task, fixed_use, all_used, some_negative, peak, always_fits, all_fixed, IsCumulativeLeft, IsCumulativeForm}
use Rattle.rest_forms.specs.Sweep.{part_at}
use Rattle.rest_forms.specs.Tasks.{TaskIn, is_fixed_task}
use Rattle.rest_forms.proofs.JoinedRuns.{Follows, Chain, chain_of, begins_after, all_begin, later_all}
use Rattle.rest_forms.proofs.Peaks.{part_small}
use Rattle.rest_forms.proofs.Tasks.{all_count}
use Rattle.rest_forms.proofs.CumulativeUnique.{first_amount, before_first, other_after, left_by}

-- ---- numbers of a list
abbrev Has : ℤ → List ℤ → Type 0
Has v [] = ⊥
Has v (y ∷ ys) = (v ≡ y) ⊎ Has v ys

-- those above a number
abbrev above : ℤ → List ℤ → List ℤ
above m ys = filter (int_lt m) ys

above_has_by : (m v y : ℤ) (ys : List ℤ) → m <ℤ v → (Has v ys → Has v (above m ys)) → Has v (y ∷ ys) → (w : Bool) → int_lt m y ≡ w → Has v (if w then y ∷ above m ys else above m ys)
above_has_by m v y ys h later has true e = elim has [ inl is ↦ inl is | inr there ↦ inr (later there) ]
above_has_by m v y ys h later has false e = elim has [ inl is ↦ absurd (omega (arith, ints, h, e, is)) | inr there ↦ later there ]

above_has : (m v : ℤ) (ys : List ℤ) → m <ℤ v → Has v ys → Has v (above m ys)
above_has m v [] h has = absurd has
above_has m v (y ∷ ys) h has = above_has_by m v y ys h (above_has m v ys h) has (int_lt m y) refl

above_fewer_by : (m y : ℤ) (ys : List ℤ) → length (above m ys) ≤ length ys → (Has m ys → length (above m ys) < length ys) → Has m (y ∷ ys) → (w : Bool) → int_lt m y ≡ w → length (if w then y ∷ above m ys else above m ys) < suc (length ys)
above_fewer_by m y ys few later has true e = elim has [ inl is ↦ absurd (omega (arith, ints, e, is)) | inr there ↦ let fewer = later there in omega (arith, fewer) ]
above_fewer_by m y ys few later has false e = omega (arith, few)

above_fewer : (m : ℤ) (ys : List ℤ) → Has m ys → length (above m ys) < length ys
above_fewer m [] has = absurd has
above_fewer m (y ∷ ys) has = above_fewer_by m y ys (filter_shorter (int_lt m) ys) (above_fewer m ys) has (int_lt m y) refl

-- ---- runs that begin at numbers of a list are no more than those
later_has : (m : ℤ) (us : List Used) (ys : List ℤ) → AllByRecursion (λ (u : Used). m <ℤ u.from) us → AllByRecursion (λ (u : Used). Has u.from ys) us → AllByRecursion (λ (u : Used). Has u.from (above m ys)) us
later_has m [] ys after has = tt
later_has m (u ∷ us) ys after has = (above_has m u.from ys after.0 has.0, later_has m us ys after.1 has.1)

few_runs : (us : List Used) (ys : List ℤ) → Chain us → AllByRecursion (λ (u : Used). Has u.from ys) us → length us ≤ length ys
few_runs [] ys chain has = omega arith
few_runs (u ∷ us) ys chain has =
    let fewer = above_fewer u.from ys has.0 in
    let after = later_all u.to u.from us chain.0 (all_begin u.to us (begins_after u us chain.2) chain.3) in
    let rest = few_runs us (above u.from ys) chain.3 (later_has u.from us ys after has.1) in
    omega (arith, fewer, rest)

-- ---- where what is used changes
moments : List Used → List ℤ
moments [] = []
moments (u ∷ us) = u.from ∷ u.to ∷ moments us

moment_count : (us : List Used) → length (moments us) ≡ 2 * length us
unfolding moments
moment_count [] = refl
moment_count (u ∷ us) = let rest = moment_count us in omega (arith, rest)

moments_near : (us : List Used) (v : ℤ) → AllByRecursion (λ (u : Used). IsNear u.from × IsNear u.to) us → Has v (moments us) → IsNear v
unfolding moments
moments_near [] v all has = absurd has
moments_near (u ∷ us) v all has = elim has [
  | inl is ↦ subst IsNear (sym is) all.0.0
  | inr later ↦ elim later [ inl is ↦ subst IsNear (sym is) all.0.1 | inr there ↦ moments_near us v all.1 there ]
]

part_still : (u : Used) (t : ℤ) → (t ≡ u.from → ⊥) → (t ≡ u.to → ⊥) → part_at u t ≡ part_at u (t -ℤ pos 1)
part_still u t f g = grind (arith, ints)

differs : (x y : ℤ) → int_eq x y ≡ false → x ≡ y → ⊥
differs x y e is = false≢true (sym e ∙ (Decides-int_eq x y).1 is)

change_has_by : (u : Used) (us : List Used) (t : ℤ) → (amount_at (u ∷ us) t ≡ amount_at (u ∷ us) (t -ℤ pos 1) → ⊥) → ((amount_at us t ≡ amount_at us (t -ℤ pos 1) → ⊥) → Has t (moments us)) → (w v : Bool) → int_eq t u.from ≡ w → int_eq t u.to ≡ v → Has t (u.from ∷ u.to ∷ moments us)
change_has_by u us t change rest true v e f = inl ((Decides-int_eq t u.from).0 e)
change_has_by u us t change rest false true e f = inr (inl ((Decides-int_eq t u.to).0 f))
change_has_by u us t change rest false false e f = inr (inr (rest (λ same. let still = part_still u t (differs t u.from e) (differs t u.to f) in change (omega (arith, ints, still, same)))))

change_has : (us : List Used) (t : ℤ) → (amount_at us t ≡ amount_at us (t -ℤ pos 1) → ⊥) → Has t (moments us)
unfolding moments
change_has [] t change = absurd (change refl)
change_has (u ∷ us) t change = change_has_by u us t change (change_has us t) (int_eq t u.from) (int_eq t u.to) refl refl

-- ---- the ends of runs are such moments
record HasEnds (amount : ℤ → ℤ) (u : Used) : Type 0 where
  first : amount u.from ≡ amount (u.from -ℤ pos 1) → ⊥
  last : amount u.to ≡ amount (u.to -ℤ pos 1) → ⊥
  is : amount u.from ≡ u.amount

-- the first run goes on from what is used before a moment with another amount
abbrev GoesOn : (ℤ → ℤ) → ℤ → List Used → Type 0
GoesOn amount m [] = Unit {0}
GoesOn amount m (u ∷ us) = (m ≤ℤ u.from) × (u.from ≡ m → amount (m -ℤ pos 1) ≡ u.amount → ⊥)

first_change : (amount : ℤ → ℤ) (m : ℤ) (u : Used) (us : List Used) → Chain (u ∷ us) → GoesOn amount m (u ∷ us) → ((t : ℤ) → m ≤ℤ t → amount t ≡ amount_at (u ∷ us) t) → amount u.from ≡ u.amount → (w : Bool) → int_eq u.from m ≡ w → amount u.from ≡ amount (u.from -ℤ pos 1) → ⊥
first_change amount m u us chain on same is true e equal =
    let here : u.from ≡ m = (Decides-int_eq u.from m).0 e in
    on.1 here (ap (λ (z : ℤ). amount (z -ℤ pos 1)) (sym here) ∙ sym equal ∙ is)
first_change amount m u us chain on same is false e equal =
    let order = on.0 in
    let apart = differs u.from m e in
    let none = before_first u us (u.from -ℤ pos 1) chain (omega (arith, ints)) in
    let before = same (u.from -ℤ pos 1) (omega (arith, ints, order, apart)) in
    let some = chain.1 in
    omega (arith, ints, none, before, some, is, equal)

next_goes_on : (amount : ℤ → ℤ) (u : Used) (us : List Used) → Follows u us → amount (u.to -ℤ pos 1) ≡ u.amount → GoesOn amount u.to us
next_goes_on amount u [] follows is = tt
next_goes_on amount u (v ∷ vs) follows is = (follows.0, λ here there. follows.1 (sym here) (sym is ∙ there))

ends_from : (amount : ℤ → ℤ) (m : ℤ) (us : List Used) → Chain us → GoesOn amount m us → ((t : ℤ) → m ≤ℤ t → amount t ≡ amount_at us t) → AllByRecursion (HasEnds amount) us
ends_from amount m [] chain on same = tt
ends_from amount m (u ∷ us) chain on same =
    let order = on.0 in
    let wide = chain.0 in
    let is : amount u.from ≡ u.amount = same u.from order ∙ first_amount u us u.from chain (omega (arith, ints)) wide in
    let near_end : amount (u.to -ℤ pos 1) ≡ u.amount = same (u.to -ℤ pos 1) (omega (arith, ints, order, wide)) ∙ first_amount u us (u.to -ℤ pos 1) chain (omega (arith, ints, wide)) (omega (arith, ints)) in
    let rest : (t : ℤ) → u.to ≤ℤ t → amount t ≡ amount_at us t = λ t h. let here = same t (omega (arith, ints, order, wide, h)) in let over = part_over u t h in omega (arith, ints, here, over) in (
      record {
        first = first_change amount m u us chain on same is (int_eq u.from m) refl;
        last = λ equal. other_after u us chain (sym (rest u.to (omega (arith, ints))) ∙ equal ∙ near_end);
        is = is;
      },
      ends_from amount u.to us chain.3 (next_goes_on amount u us chain.2 near_end) rest,
    )

all_ends : (us : List Used) (amount : ℤ → ℤ) → Chain us → ((t : ℤ) → amount t ≡ amount_at us t) → AllByRecursion (HasEnds amount) us
all_ends [] amount chain same = tt
all_ends (u ∷ us) amount chain same = ends_from amount (u.from -ℤ pos 1) (u ∷ us) chain (omega (arith, ints), λ is there. absurd (omega (arith, ints, is))) (λ t h. same t)

-- ---- limits of runs
record IsSmallUse (u : Used) : Type 0 where
  from : IsNear u.from
  to : IsNear u.to
  small : u.amount ≤ℤ pos largest

small_sum : (us : List Used) (t : ℤ) → AllByRecursion IsSmallUse us → amount_at us t ≤ℤ pos (largest * length us)
small_sum [] t all = omega (arith, ints)
small_sum (u ∷ us) t all =
    let one = all.0 in
    let here = part_small u t (pos largest) (omega (arith, ints)) one.small in
    let rest = small_sum us t all.1 in
    omega (arith, ints, here, rest)

all_near : (us : List Used) → AllByRecursion IsSmallUse us → AllByRecursion (λ (u : Used). IsNear u.from × IsNear u.to) us
all_near [] all = tt
all_near (u ∷ us) all = let one = all.0 in ((one.from, one.to), all_near us all.1)

record IsRunWithin (u : Used) : Type 0 where
  from : IsNear u.from
  to : IsNear u.to
  some : pos 0 ≤ℤ u.amount
  small : unsigned_abs u.amount ≤ 2 ^ 100

run_within : (all : List Used) (u : Used) → length all ≤ 4000000 → AllByRecursion IsSmallUse all → pos 0 <ℤ u.amount → HasEnds (amount_at all) u → IsRunWithin u
run_within all u count small some ends =
    let near = all_near all small in
    let sum = small_sum all u.from small in
    let is = ends.is in
    record {
      from = moments_near all u.from near (change_has all u.from ends.first);
      to = moments_near all u.to near (change_has all u.to ends.last);
      some = omega (arith, ints, some);
      small = omega (arith, ints, sum, is, some, count);
    }

runs_within : (all us : List Used) → length all ≤ 4000000 → AllByRecursion IsSmallUse all → Chain us → AllByRecursion (HasEnds (amount_at all)) us → AllByRecursion IsRunWithin us
runs_within all [] count small chain ends = tt
runs_within all (u ∷ us) count small chain ends = (run_within all u count small chain.1 ends.0, runs_within all us count small chain.3 ends.1)

runs_begin : (all us : List Used) → AllByRecursion (HasEnds (amount_at all)) us → AllByRecursion (λ (u : Used). Has u.from (moments all)) us
runs_begin all [] ends = tt
runs_begin all (u ∷ us) ends = let one = ends.0 in (change_has all u.from one.first, runs_begin all us ends.1)

runs_kept : (all us : List Used) → length all ≤ 4000000 → AllByRecursion IsSmallUse all → AreRunsOf us all → UsedInLimits of_call us
runs_kept all us count small runs =
    let chain = chain_of us runs.runs in
    let ends = all_ends us (amount_at all) chain (λ t. sym (runs.same t)) in
    let few = few_runs us (moments all) chain (runs_begin all us ends) in
    let twice = moment_count all in
    let within = All-from_recursion IsRunWithin us (runs_within all us count small chain ends) in
    record {
      count = omega (arith, few, twice, count);
      moments = λ k d h. let one = within k d h in (one.from, one.to);
      amounts = λ k d h. let one = within k d h in (one.some, one.small);
    }

-- ---- all that is used
used_small : (used : List Used) → UsedInLimits of_model used → All IsSmallUse used
used_small used kept k d h =
    let moments = kept.moments k d h in
    let amount = kept.amounts k d h in
    let from = moments.0 in
    let to = moments.1 in
    let some = amount.0 in
    let small = amount.1 in
    record { from = omega (arith, from); to = omega (arith, to); small = omega (arith, ints, some, small) }

use_small : (box : List (List ℤ)) (k : CumTask) → IsBox box → TaskIn (length box) k → IsSmallUse (fixed_use box k)
use_small box k well_formed inside =
    let s = low_is box k.s well_formed inside.0 in
    let d = low_is box k.d well_formed inside.1 in
    let r = low_is box k.r well_formed inside.2 in
    record { from = omega (arith, s); to = omega (arith, ints, s, d); small = omega (arith, ints, r) }

all_small : (box : List (List ℤ)) (ks : List CumTask) (used : List Used) → IsBox box → TasksInLimits (length box) ks → UsedInLimits of_model used → AllByRecursion IsSmallUse (all_used box ks used)
unfolding all_used
all_small box ks used well_formed kept used_kept =
    let inside = All-filter (is_fixed_task box) (TaskIn (length box)) ks kept.terms in
    recursion_from_All IsSmallUse (used ++ map (fixed_use box) (filter (is_fixed_task box) ks)) (All-append IsSmallUse used (map (fixed_use box) (filter (is_fixed_task box) ks)) (used_small used used_kept) (All-map IsSmallUse (fixed_use box) (filter (is_fixed_task box) ks) (λ i d h. use_small box (slice_index_or (filter (is_fixed_task box) ks) i d) well_formed (inside i d h))))

-- ---- tasks
tasks_kept : (box : List (List ℤ)) (ks : List CumTask) → IsBox box → TasksInLimits (length box) ks → TasksInLimits (length box) (map (substituted_task box) (open_tasks box ks))
unfolding open_tasks
tasks_kept box ks well_formed kept =
    let opens : List CumTask = filter (is_open_task box) ks in
    let inside = All-filter (is_open_task box) (TaskIn (length box)) ks kept.terms in
    let few = filter_shorter (is_open_task box) ks in
    let same = length-map opens (substituted_task box) in
    record {
      count = omega (arith, few, same, kept.count);
      terms = All-map (TaskIn (length box)) (substituted_task box) opens (λ i d h. let one = inside i d h in (substituted_in box (slice_index_or opens i d).s well_formed one.0, substituted_in box (slice_index_or opens i d).d well_formed one.1, substituted_in box (slice_index_or opens i d).r well_formed one.2));
    }

-- ---- forms
left_fits : (box : List (List ℤ)) (ks : List CumTask) (used : List Used) (b : Term) (form : Reduced) → IsBox box → TasksInLimits (length box) ks → UsedInLimits of_model used → TermIn (length box) b → IsCumulativeLeft box ks used b form → FormFitsBox box form
left_fits box ks used b form well_formed kept used_kept inside left =
    let by = left_by box ks used b form left in
    let count = all_count box ks used in
    let fits_box : FitsBox box (con.CumulUsed (map (substituted_task box) (open_tasks box ks)) by.used_left (substituted box b)) = record {
      kept = (tasks_kept box ks well_formed kept, runs_kept (all_used box ks used) by.used_left (omega (arith, count, kept.count, used_kept.count)) (all_small box ks used well_formed kept used_kept) by.runs, substituted_in box b well_formed inside);
      booleans = tt;
    } in
    subst (λ (r : Reduced). FormFitsBox box r) (sym by.is) fits_box

fits_by_tests : (box : List (List ℤ)) (ks : List CumTask) (used : List Used) (b : Term) (form : Reduced) (w : Bool) → IsBox box → TasksInLimits (length box) ks → UsedInLimits of_model used → TermIn (length box) b → (n s a : Bool)
    → MatchBool n (form ≡ reduced.Is empty_clause) (MatchBool s (form ≡ reduced.Holds) (MatchBool a (form ≡ of_truth w) (IsCumulativeLeft box ks used b form)))
    → FormFitsBox box form
fits_by_tests box ks used b form w well_formed kept used_kept inside true s a is = subst (λ (r : Reduced). FormFitsBox box r) (sym is) (never_fine box).fine
fits_by_tests box ks used b form w well_formed kept used_kept inside false true a is = subst (λ (r : Reduced). FormFitsBox box r) (sym is) tt
fits_by_tests box ks used b form w well_formed kept used_kept inside false false true is = subst (λ (r : Reduced). FormFitsBox box r) (sym is) (truth_fine box w).fine
fits_by_tests box ks used b form w well_formed kept used_kept inside false false false is = left_fits box ks used b form well_formed kept used_kept inside is

pub cumulative_suits : (box : List (List ℤ)) (ks : List CumTask) (used : List Used) (b : Term) (d : Con) → IsBox box → ConInLimits of_model (length box) (con.CumulUsed ks used b) → IsCumulativeForm box ks used b (reduced.Is d) → FitsBox box d
unfolding IsCumulativeForm
cumulative_suits box ks used b d well_formed kept is = fits_by_tests box ks used b (reduced.Is d) (int_le (peak (all_used box ks used)) (term_low box b)) well_formed kept.0 kept.1 kept.2 (some_negative box ks) (always_fits box ks used b) (all_fixed box ks b) is
