-- Tasks without length use nothing, so that what fits at the starts of all others fits always.
use Rattle.std.proofs.Common.{◌≡◌, ℕ, ◌<◌, List, [], ◌∷◌, ◌++◌, map, length, get_or, ℤ, pos, ◌≤ℤ◌, ◌<ℤ◌, refl, arith, Bool, true, false, cond}
use Rattle.std.specs.Prelude.{All, filter, int_lt}
use Rattle.std.proofs.lemmas.Int.{ints}
use Rattle.std.proofs.lemmas.List.Elements.{All-filter, filter_passes}
use Rattle.fzn_model.specs.declared.cumulative.CumTask.{CumTask}
use Rattle.fzn_model.specs.declared.cumulative.Used.{Used}
use Rattle.fzn_model.specs.Limits.{UsedInLimits, of_call}
use Rattle.fzn_model.specs.Meaning.{val, amount_at, usage, IsTask, AreTasks, FitsAlways}
use Rattle.fzn_model.specs.Starts.{StartsFit, TaskStartsFit}
use Rattle.fzn_model.proofs.Moments.{part, amount_append, starts_enough}
use Rattle.cumul_prop.proofs.Gathering.{part_empty}

-- whether a task has some length
abbrev pub has_length : List ℤ → CumTask → Bool
has_length θ k = int_lt (pos 0) (val k.d θ)

pub length_some : (θ : List ℤ) (k : CumTask) → has_length θ k ≡ true → pos 0 <ℤ val k.d θ
length_some θ k is = grind (arith, ints)

no_length : (θ : List ℤ) (k : CumTask) → has_length θ k ≡ false → val k.d θ ≤ℤ pos 0
no_length θ k is = grind (arith, ints)

without_length : (θ : List ℤ) (t : ℤ) (k : CumTask) → has_length θ k ≡ false → part (usage θ k) t ≡ pos 0
without_length θ t k is = let none = no_length θ k is in part_empty (usage θ k) t (omega (arith, ints, none))

load_by : (θ : List ℤ) (t : ℤ) (k : CumTask) (ks rest : List CumTask) (b : Bool) → has_length θ k ≡ b → amount_at (map (usage θ) rest) t ≡ amount_at (map (usage θ) ks) t → amount_at (map (usage θ) (cond b (k ∷ rest) rest)) t ≡ amount_at (map (usage θ) (k ∷ ks)) t
load_by θ t k ks rest true is same = omega (arith, ints, same)
load_by θ t k ks rest false is same = let none = without_length θ t k is in omega (arith, ints, same, none)

same_load : (θ : List ℤ) (t : ℤ) (ks : List CumTask) → amount_at (map (usage θ) (filter (has_length θ) ks)) t ≡ amount_at (map (usage θ) ks) t
same_load θ t [] = refl
same_load θ t (k ∷ ks) = load_by θ t k ks (filter (has_length θ) ks) (has_length θ k) refl (same_load θ t ks)

pub lengths_enough : (us : List Used) (ks : List CumTask) (θ : List ℤ) (b : ℤ) → UsedInLimits of_call us → AreTasks ks θ → pos 0 ≤ℤ b → StartsFit (us ++ map (usage θ) ks) us b
    → ((j : ℕ) (d : CumTask) → j < length ks → has_length θ (get_or ks j d) ≡ true → amount_at (us ++ map (usage θ) ks) (val (get_or ks j d).s θ) ≤ℤ b) → FitsAlways (us ++ map (usage θ) ks) b
unfolding AreTasks FitsAlways StartsFit TaskStartsFit
lengths_enough us ks θ b kept tasks some first starts t =
    let rest : List CumTask = filter (has_length θ) ks in
    let load : (s : ℤ) → amount_at (us ++ map (usage θ) rest) s ≡ amount_at (us ++ map (usage θ) ks) s =
    λ s. let one = amount_append us (map (usage θ) rest) s in let all = amount_append us (map (usage θ) ks) s in let same = same_load θ s ks in omega (arith, ints, one, all, same) in
    let passes = filter_passes (has_length θ) ks in
    let fit : All (λ k. has_length θ k ≡ true → amount_at (us ++ map (usage θ) ks) (val k.s θ) ≤ℤ b) rest = All-filter (has_length θ) (λ k. has_length θ k ≡ true → amount_at (us ++ map (usage θ) ks) (val k.s θ) ≤ℤ b) ks starts in
    let always = starts_enough us rest θ b kept (All-filter (has_length θ) (IsTask θ) ks tasks) some
    (λ k d h. let fits = first k d h in let same = load (get_or us k d).from in omega (arith, ints, fits, same))
    (λ k d h. let fits = fit k d h (passes k d h) in let same = load (val (get_or rest k d).s θ) in omega (arith, ints, fits, same)) in
    let here = always t in
    let same = load t in
    omega (arith, ints, here, same)
