-- What the forms of cumulative tasks are made of.
use Rattle.std.proofs.Common.{◌≡◌, ℕ, zero, suc, ◌+◌, ◌<◌, ◌≤◌, List, [], ◌∷◌, ◌++◌, length, map, refl, sym, ap, subst, ◌∙◌, arith, ℤ, pos, ◌+ℤ◌, ◌≤ℤ◌, Bool, true, false, length-append, take}
use Rattle.std.specs.Prelude.{All, filter, not, ◌&&◌, if◌then◌else◌, int_le, int_lt, slice_index_or}
use Rattle.std.specs.List.{AllByRecursion, list_any}
use Rattle.std.proofs.lemmas.Int.{ints}
use Rattle.std.proofs.lemmas.Bool.{false≢true, or_parts}
use Rattle.std.proofs.lemmas.List.Elements.{filter-append, All-append, recursion_from_All, All-from_recursion}
use Rattle.std.proofs.lemmas.List.{length-map, take_more, take_all, map-append, append_assoc, append-nil}
use Rattle.fzn_model.specs.declared.term.Term.{Term}
use Rattle.fzn_model.specs.declared.cumulative.CumTask.{CumTask}
use Rattle.fzn_model.specs.declared.cumulative.Used.{Used}
use Rattle.fzn_model.specs.declared.con.Con.TheVariants as con
use Rattle.fzn_model.specs.Limits.{IsValue, IsNear, TasksInLimits, UsedInLimits, of_call}
use Rattle.fzn_model.specs.Boxes.{IsBox}
use Rattle.fzn_model.specs.Bounds.{term_low, is_open}
use Rattle.rest_basic.specs.Forms.{any_open, substituted, empty_clause, of_truth}
use Rattle.rest_basic.specs.declared.reduced.Reduced.{Reduced}
use Rattle.rest_basic.specs.declared.reduced.Reduced.TheVariants as reduced
use Rattle.rest_basic.proofs.ListMembers.{filter_shorter}
use Rattle.rest_basic.proofs.Substituting.{low_is}
use Rattle.rest_forms.specs.Forms.{AreRunsOf, is_open_task, open_tasks, substituted_task, fixed_use, all_used, is_negative, some_negative, peak, always_fits, all_fixed, IsCumulativeForm, sum_of_uses}
use Rattle.rest_forms.specs.Sweep.{IsAmount, AreAmounts}
use Rattle.rest_forms.specs.Tasks.{TaskIn, is_negative_task, is_fixed_task, are_never_negative, fixed_uses, greatest_amount, IsFormPastBounds}
use Rattle.rest_forms.proofs.Peaks.{peak_is}

-- ---- tests
pub fits_is : (box : List (List ℤ)) (ks : List CumTask) (used : List Used) (b : Term) → always_fits box ks used b ≡ are_never_negative box ks && int_le (peak used +ℤ sum_of_uses box ks) (term_low box b)
unfolding always_fits are_never_negative
fits_is box ks used b = refl

pub fits_by : (box : List (List ℤ)) (ks : List CumTask) (used : List Used) (b : Term) (most uses : ℤ) (t r : Bool) → t ≡ are_never_negative box ks → t ≡ true → most ≡ peak used → uses ≡ sum_of_uses box ks → r ≡ int_le (most +ℤ uses) (term_low box b) → r ≡ always_fits box ks used b
fits_by box ks used b most uses t r some so is_peak is_sum is =
    let all : are_never_negative box ks ≡ true = sym some ∙ so in
    rw (is, is_peak, is_sum, fits_is box ks used b, all) refl

pub fits_not : (box : List (List ℤ)) (ks : List CumTask) (used : List Used) (b : Term) (t : Bool) → t ≡ are_never_negative box ks → t ≡ false → t ≡ always_fits box ks used b
fits_not box ks used b t some so =
    let none : are_never_negative box ks ≡ false = sym some ∙ so in
    rw (so, fits_is box ks used b, none) refl

pub task_shut : (box : List (List ℤ)) (k : CumTask) → is_open_task box k ≡ false → (is_open box k.s ≡ false) × (is_open box k.d ≡ false) × (is_open box k.r ≡ false)
unfolding any_open
task_shut box k e =
    let one = or_parts (is_open box k.s) _ e in
    let two = or_parts (is_open box k.d) _ one.1 in
    let three = or_parts (is_open box k.r) _ two.1 in
    (one.0, two.0, three.0)

pub not_negative : (box : List (List ℤ)) (t : Term) → is_open box t ≡ false → is_negative box t ≡ false → pos 0 ≤ℤ term_low box t
not_negative box t shut none = by_tests (is_open box t) shut none
  where
    by_tests : (o : Bool) → o ≡ false → (not o && int_lt (term_low box t) (pos 0)) ≡ false → pos 0 ≤ℤ term_low box t
    by_tests true e f = absurd (false≢true (sym e))
    by_tests false e f = omega (arith, ints, f)

-- ---- what fixed tasks use
pub use_is_amount : (from to amount : ℤ) → IsValue from → IsNear to → pos 0 ≤ℤ amount → IsValue amount → IsAmount (record { from = from; to = to; amount = amount })
use_is_amount from to amount near near_to some small = record { from = omega (arith, near); to = near_to; some = some; small = omega (arith, small) }

-- neither a fixed length nor a fixed use is negative
pub task_some : (box : List (List ℤ)) (ks : List CumTask) (i : ℕ) (d : CumTask) → list_any (is_negative_task box) ks ≡ false → i < length ks → (is_negative box (slice_index_or ks i d).d ≡ false) × (is_negative box (slice_index_or ks i d).r ≡ false)
task_some box [] i d none h = absurd (omega (arith, h))
task_some box (k ∷ ks) zero d none h = or_parts (is_negative box k.d) (is_negative box k.r) (or_parts (is_negative_task box k) _ none).0
task_some box (k ∷ ks) (suc i) d none h = task_some box ks i d (or_parts (is_negative_task box k) _ none).1 (omega (arith, h))

pub use_not_negative : (box : List (List ℤ)) (ks : List CumTask) (i : ℕ) (d : CumTask) → some_negative box ks ≡ false → i < length ks → is_open_task box (slice_index_or ks i d) ≡ false → pos 0 ≤ℤ term_low box (slice_index_or ks i d).r
unfolding some_negative
use_not_negative box ks i d none h shut = not_negative box (slice_index_or ks i d).r (task_shut box (slice_index_or ks i d) shut).2 (task_some box ks i d none h).1

pub used_amount : (used : List Used) → UsedInLimits of_call used → All IsAmount used
used_amount used kept k d h = record { from = (kept.moments k d h).0; to = (kept.moments k d h).1; some = (kept.amounts k d h).0; small = (kept.amounts k d h).1 }

pub used_amounts : (used : List Used) → UsedInLimits of_call used → AreAmounts used
used_amounts used kept = record { count = omega (arith, kept.count); each = used_amount used kept }

pub with_none : (box : List (List ℤ)) (used all : List Used) → all ≡ used → all ≡ used ++ fixed_uses box []
unfolding fixed_uses
with_none box used all is = is ∙ sym (append-nil used)

pub none_amount : (used all : List Used) → UsedInLimits of_call used → all ≡ used → All IsAmount all
none_amount used all kept is = subst (λ (us : List Used). All IsAmount us) (sym is) (used_amount used kept)

-- one more task
pub with_more : (box : List (List ℤ)) (ks : List CumTask) (used before after : List Used) (i : ℕ) (d : CumTask) → i < length ks → before ≡ used ++ fixed_uses box (take i ks) → after ≡ before ++ fixed_uses box (slice_index_or ks i d ∷ []) → after ≡ used ++ fixed_uses box (take (i + 1) ks)
unfolding fixed_uses
with_more box ks used before after i d h was is =
    let more : take (i + 1) ks ≡ take i ks ++ slice_index_or ks i d ∷ [] = take_more ks i d h in
    let split : filter (is_fixed_task box) (take (i + 1) ks) ≡ filter (is_fixed_task box) (take i ks) ++ filter (is_fixed_task box) (slice_index_or ks i d ∷ []) = ap (filter (is_fixed_task box)) more ∙ filter-append (is_fixed_task box) (take i ks) (slice_index_or ks i d ∷ []) in
    let both : map (fixed_use box) (filter (is_fixed_task box) (take (i + 1) ks)) ≡ map (fixed_use box) (filter (is_fixed_task box) (take i ks)) ++ map (fixed_use box) (filter (is_fixed_task box) (slice_index_or ks i d ∷ [])) = ap (map (fixed_use box)) split ∙ map-append (fixed_use box) (filter (is_fixed_task box) (take i ks)) (filter (is_fixed_task box) (slice_index_or ks i d ∷ [])) in
    rw (is, was, both) (append_assoc used (map (fixed_use box) (filter (is_fixed_task box) (take i ks))) (map (fixed_use box) (filter (is_fixed_task box) (slice_index_or ks i d ∷ []))))

pub all_are : (box : List (List ℤ)) (ks : List CumTask) (used all : List Used) (i : ℕ) → length ks ≤ i → all ≡ used ++ fixed_uses box (take i ks) → all ≡ all_used box ks used
unfolding fixed_uses all_used
all_are box ks used all i h is = let whole = take_all i ks h in rw whole at is

-- of one task
one_open : (box : List (List ℤ)) (k : CumTask) → is_open_task box k ≡ true → fixed_uses box (k ∷ []) ≡ []
unfolding fixed_uses
one_open box k e = rw e refl

pub stays_open : (box : List (List ℤ)) (k : CumTask) (us : List Used) → is_open_task box k ≡ true → us ≡ us ++ fixed_uses box (k ∷ [])
stays_open box k us e = rw (one_open box k e) (sym (append-nil us))

pub one_fixed : (box : List (List ℤ)) (k : CumTask) → is_open_task box k ≡ false → fixed_uses box (k ∷ []) ≡ fixed_use box k ∷ []
unfolding fixed_uses
one_fixed box k e = rw e refl

pub all_count : (box : List (List ℤ)) (ks : List CumTask) (used : List Used) → length (all_used box ks used) ≤ length used + length ks
unfolding all_used
all_count box ks used =
    let fixed : List CumTask = filter (is_fixed_task box) ks in
    let both = length-append used (map (fixed_use box) fixed) in
    let same = length-map fixed (fixed_use box) in
    let few = filter_shorter (is_fixed_task box) ks in
    omega (arith, both, same, few)

pub all_amounts : (box : List (List ℤ)) (ks : List CumTask) (used all : List Used) → UsedInLimits of_call used → TasksInLimits (length box) ks → all ≡ all_used box ks used → All IsAmount all → AreAmounts all
all_amounts box ks used all kept tasks is each =
    let count = all_count box ks used in
    let long = ap length is in
    record { count = omega (arith, count, long, kept.count, tasks.count); each = each }

-- ---- all that is used is within the limits
fixed_amount : (box : List (List ℤ)) (k : CumTask) → IsBox box → TaskIn (length box) k → is_open_task box k ≡ false → is_negative box k.r ≡ false → IsAmount (fixed_use box k)
fixed_amount box k well_formed inside shut none =
    let s = low_is box k.s well_formed inside.0 in
    let d = low_is box k.d well_formed inside.1 in
    let r = low_is box k.r well_formed inside.2 in
    use_is_amount (term_low box k.s) (term_low box k.s +ℤ term_low box k.d) (term_low box k.r) s (omega (arith, ints, s, d)) (not_negative box k.r (task_shut box k shut).2 none) r

fixed_by : (box : List (List ℤ)) (k : CumTask) (ks : List CumTask) → IsBox box → TaskIn (length box) k → is_negative box k.r ≡ false → AllByRecursion IsAmount (map (fixed_use box) ks) → (w : Bool) → is_open_task box k ≡ w → AllByRecursion IsAmount (map (fixed_use box) (if not w then k ∷ ks else ks))
fixed_by box k ks well_formed inside none rest true e = rest
fixed_by box k ks well_formed inside none rest false e = (fixed_amount box k well_formed inside e none, rest)

fixed_amounts : (box : List (List ℤ)) (ks : List CumTask) → IsBox box → AllByRecursion (TaskIn (length box)) ks → list_any (is_negative_task box) ks ≡ false → AllByRecursion IsAmount (map (fixed_use box) (filter (is_fixed_task box) ks))
fixed_amounts box [] well_formed all none = tt
fixed_amounts box (k ∷ ks) well_formed all none =
    let both = or_parts (is_negative_task box k) (list_any (is_negative_task box) ks) none in
    let here = or_parts (is_negative box k.d) (is_negative box k.r) both.0 in
    fixed_by box k (filter (is_fixed_task box) ks) well_formed all.0 here.1 (fixed_amounts box ks well_formed all.1 both.1) (is_open_task box k) refl

pub tasks_in : (n : ℕ) (ks : List CumTask) → TasksInLimits n ks → AllByRecursion (TaskIn n) ks
tasks_in n ks kept = recursion_from_All (TaskIn n) ks kept.terms

pub whole_amounts : (box : List (List ℤ)) (ks : List CumTask) (used : List Used) → IsBox box → TasksInLimits (length box) ks → UsedInLimits of_call used → some_negative box ks ≡ false → AreAmounts (all_used box ks used)
unfolding some_negative all_used
whole_amounts box ks used well_formed tasks kept none =
    let fixed : List CumTask = filter (is_fixed_task box) ks in
    all_amounts box ks used (all_used box ks used) kept tasks refl (All-append IsAmount used (map (fixed_use box) fixed) (used_amount used kept) (All-from_recursion IsAmount (map (fixed_use box) fixed) (fixed_amounts box ks well_formed (tasks_in (length box) ks tasks) none)))

-- ---- forms
pub negative_form : (box : List (List ℤ)) (ks : List CumTask) (used : List Used) (b : Term) → some_negative box ks ≡ true → IsCumulativeForm box ks used b (reduced.Is empty_clause)
unfolding IsCumulativeForm
negative_form box ks used b e = rw e refl

pub fits_form : (box : List (List ℤ)) (ks : List CumTask) (used : List Used) (b : Term) → some_negative box ks ≡ false → always_fits box ks used b ≡ true → IsCumulativeForm box ks used b reduced.Holds
unfolding IsCumulativeForm
fits_form box ks used b e f = rw (e, f) refl

pub past_form : (box : List (List ℤ)) (ks : List CumTask) (used : List Used) (b : Term) (form : Reduced) → some_negative box ks ≡ false → always_fits box ks used b ≡ false → IsFormPastBounds box ks used b form → IsCumulativeForm box ks used b form
unfolding IsCumulativeForm IsFormPastBounds
past_form box ks used b form e f is = rw (e, f) is

pub fixed_form : (box : List (List ℤ)) (ks : List CumTask) (used runs : List Used) (b : Term) → all_fixed box ks b ≡ true → AreRunsOf runs (all_used box ks used) → AreAmounts (all_used box ks used) → IsFormPastBounds box ks used b (of_truth (int_le (greatest_amount runs) (term_low box b)))
unfolding IsFormPastBounds
fixed_form box ks used runs b e are amounts = let is = peak_is runs (all_used box ks used) amounts are in rw (e, is) refl

pub left_form : (box : List (List ℤ)) (ks : List CumTask) (used runs : List Used) (b : Term) → all_fixed box ks b ≡ false → AreRunsOf runs (all_used box ks used) → IsFormPastBounds box ks used b (reduced.Is (con.CumulUsed (map (substituted_task box) (open_tasks box ks)) runs (substituted box b)))
unfolding IsFormPastBounds
left_form box ks used runs b e are = rw e (refl, are, refl)
