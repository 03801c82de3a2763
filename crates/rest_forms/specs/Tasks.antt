-- Amounts of runs and of tasks, as the forms of cumulative tasks need them.
use Rattle.std.specs.Prelude.{◌≡◌, ℕ, List, Bool, ◌&&◌, ◌||◌, not, map, filter, fold, ℤ, pos, int_le}
use Rattle.std.specs.Int.{int_max}
use Rattle.std.specs.List.{list_all}
use Rattle.std.specs.Bool.{MatchBool}
use Rattle.fzn_model.specs.declared.term.Term.{Term}
use Rattle.fzn_model.specs.declared.cumulative.CumTask.{CumTask}
use Rattle.fzn_model.specs.declared.cumulative.Used.{Used}
use Rattle.fzn_model.specs.Bounds.{term_low}
use Rattle.fzn_model.specs.Limits.{TermIn}
use Rattle.rest_basic.specs.Forms.{of_truth}
use Rattle.rest_basic.specs.declared.reduced.Reduced.{Reduced}
use Rattle.rest_forms.specs.Forms.{is_open_task, fixed_use, is_negative, all_used, peak, all_fixed, IsCumulativeLeft}

-- the greatest amount, at least 0
unfoldable pub greatest_amount : List Used → ℤ
greatest_amount us = fold int_max (pos 0) (map (λ u. u.amount) us)

-- each length and use is at least 0 in each assignment of the box
abbrev pub is_never_negative : List (List ℤ) → CumTask → Bool
is_never_negative box k = int_le (pos 0) (term_low box k.d) && int_le (pos 0) (term_low box k.r)

unfoldable pub are_never_negative : List (List ℤ) → List CumTask → Bool
are_never_negative box ks = list_all (is_never_negative box) ks

-- no term of the task is open
abbrev pub is_fixed_task : List (List ℤ) → CumTask → Bool
is_fixed_task box k = not (is_open_task box k)

-- its length or its use is fixed and negative
abbrev pub is_negative_task : List (List ℤ) → CumTask → Bool
is_negative_task box k = is_negative box k.d || is_negative box k.r

-- what the fixed tasks use
unfoldable pub fixed_uses : List (List ℤ) → List CumTask → List Used
fixed_uses box ks = map (fixed_use box) (filter (is_fixed_task box) ks)

-- a task over n variables
abbrev pub TaskIn : ℕ → CumTask → Type 0
TaskIn n k = TermIn n k.s × TermIn n k.d × TermIn n k.r

-- the form where the bounds alone tell nothing
unfoldable pub IsFormPastBounds : List (List ℤ) → List CumTask → List Used → Term → Reduced → Type 0
IsFormPastBounds box ks used b c =
    MatchBool (all_fixed box ks b) (c ≡ of_truth (int_le (peak (all_used box ks used)) (term_low box b)))
    (IsCumulativeLeft box ks used b c)
