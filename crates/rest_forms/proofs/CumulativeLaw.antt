-- The form of cumulative tasks holds exactly where they do, and names open variables alone.
use Rattle.std.proofs.Common.{◌≡◌, List, [], ◌∷◌, ◌++◌, length, map, refl, sym, ap, subst, ◌∙◌, arith, ℤ, pos, ◌+ℤ◌, ◌≤ℤ◌, ◌<ℤ◌, Bool, true, false}
use Rattle.std.specs.Prelude.{All, filter, not, ◌&&◌, ◌||◌, ◌↔◌, if◌then◌else◌, int_le, int_lt, slice_index_or}
use Rattle.std.specs.Bool.{MatchBool}
use Rattle.std.specs.List.{AllByRecursion, list_any, list_all}
use Rattle.std.proofs.lemmas.Int.{ints}
use Rattle.std.proofs.lemmas.Bool.{false≢true, and_parts, or_parts}
use Rattle.std.proofs.lemmas.List.Elements.{All-cons, All-nil, All-append, All-map, recursion_from_All, All-from_recursion}
use Rattle.fzn_model.specs.declared.term.Term.{Term}
use Rattle.fzn_model.specs.declared.cumulative.CumTask.{CumTask}
use Rattle.fzn_model.specs.declared.cumulative.Used.{Used}
use Rattle.fzn_model.specs.declared.con.Con.TheVariants as con
use Rattle.fzn_model.specs.Meaning.{val, usage, amount_at, IsTask, AreTasks, FitsAlways, Holds}
use Rattle.fzn_model.specs.Limits.{TermIn, TasksInLimits, UsedInLimits, of_call}
use Rattle.fzn_model.specs.Boxes.{IsBox, InBox}
use Rattle.fzn_model.specs.Bounds.{term_low, term_high, is_open}
use Rattle.fzn_model.specs.Booleans.{FitsBox}
use Rattle.fzn_model.proofs.Terms.{val_low, val_high}
use Rattle.fzn_model.proofs.Moments.{amount_append}
use Rattle.rest_basic.specs.Forms.{substituted, empty_clause, of_truth}
use Rattle.rest_basic.specs.Equivalence.{FormHolds, IsLeft, NamesOpen}
use Rattle.rest_basic.specs.declared.reduced.Reduced.{Reduced}
use Rattle.rest_basic.specs.declared.reduced.Reduced.TheVariants as reduced
use Rattle.rest_basic.proofs.TermsInBox.{shut_value, substituted_value}
use Rattle.rest_basic.proofs.ListMembers.{filter_none}
use Rattle.rest_forms.specs.Forms.{AreRunsOf, is_open_task, open_tasks, substituted_task, fixed_use, all_used, is_negative, some_negative, peak, always_fits, all_fixed, IsCumulativeLeft, IsCumulativeForm, sum_of_uses}
use Rattle.rest_forms.specs.Sweep.{part_at}
use Rattle.rest_forms.specs.Tasks.{TaskIn, is_negative_task, is_fixed_task, is_never_negative, are_never_negative}
use Rattle.rest_basic.proofs.Substituting.{never_holds, truth_holds, substituted_left, truth_open}
use Rattle.rest_forms.proofs.Peaks.{below_peak, peak_least, part_small}
use Rattle.rest_forms.proofs.SweptRuns.{amounts_some}
use Rattle.rest_forms.proofs.Tasks.{fits_is, task_shut, not_negative, used_amounts, tasks_in, whole_amounts}

-- ---- tests over a list
test_from_le : (a b : ℤ) → a ≤ℤ b → int_le a b ≡ true
test_from_le a b h = grind (arith, ints)

-- where no task is open
none_open : (box : List (List ℤ)) (ks : List CumTask) → list_any (is_open_task box) ks ≡ false → filter (is_open_task box) ks ≡ []
none_open box ks e = filter_none (is_open_task box) ks e

all_shut : (box : List (List ℤ)) (ks : List CumTask) (b : Term) → all_fixed box ks b ≡ true → (is_open box b ≡ false) × (filter (is_open_task box) ks ≡ [])
all_shut box ks b e = by_tests (is_open box b) (list_any (is_open_task box) ks) refl refl e
  where
    by_tests : (o p : Bool) → is_open box b ≡ o → list_any (is_open_task box) ks ≡ p → (not o && not p) ≡ true → (is_open box b ≡ false) × (filter (is_open_task box) ks ≡ [])
    by_tests true p f g h = absurd (false≢true h)
    by_tests false true f g h = absurd (false≢true h)
    by_tests false false f g h = (f, none_open box ks g)

-- ---- each task under an assignment of the box
module _ (box : List (List ℤ)) (θ : List ℤ) (well_formed : IsBox box) (lies : InBox box θ) where
  substituted_use : (k : CumTask) → TaskIn (length box) k → usage θ (substituted_task box k) ≡ usage θ k
  substituted_use k inside =
      let s = substituted_value box k.s θ well_formed lies inside.0 in
      let d = substituted_value box k.d θ well_formed lies inside.1 in
      let r = substituted_value box k.r θ well_formed lies inside.2 in
      rw (s, d, r) refl

  shut_use : (k : CumTask) → TaskIn (length box) k → is_open_task box k ≡ false → usage θ k ≡ fixed_use box k
  shut_use k inside e =
      let shut = task_shut box k e in
      let s = shut_value box k.s θ well_formed lies inside.0 shut.0 in
      let d = shut_value box k.d θ well_formed lies inside.1 shut.1 in
      let r = shut_value box k.r θ well_formed lies inside.2 shut.2 in
      rw (s, d, r) refl

  -- what all tasks use is what the fixed ones and the open ones do
  split_by : (k : CumTask) (ks : List CumTask) (fixed open_ones : List CumTask) (t : ℤ) → TaskIn (length box) k → amount_at (map (usage θ) ks) t ≡ amount_at (map (fixed_use box) fixed) t +ℤ amount_at (map (usage θ) (map (substituted_task box) open_ones)) t
      → (w : Bool) → is_open_task box k ≡ w → amount_at (map (usage θ) (k ∷ ks)) t ≡ amount_at (map (fixed_use box) (if not w then k ∷ fixed else fixed)) t +ℤ amount_at (map (usage θ) (map (substituted_task box) (if w then k ∷ open_ones else open_ones))) t
  split_by k ks fixed open_ones t inside rest true e =
      let same = ap (λ (u : Used). part_at u t) (substituted_use k inside) in
      omega (arith, ints, rest, same)
  split_by k ks fixed open_ones t inside rest false e =
      let same = ap (λ (u : Used). part_at u t) (shut_use k inside e) in
      omega (arith, ints, rest, same)

  tasks_amount : (ks : List CumTask) (t : ℤ) → AllByRecursion (TaskIn (length box)) ks → amount_at (map (usage θ) ks) t ≡ amount_at (map (fixed_use box) (filter (is_fixed_task box) ks)) t +ℤ amount_at (map (usage θ) (map (substituted_task box) (filter (is_open_task box) ks))) t
  tasks_amount [] t all = refl
  tasks_amount (k ∷ ks) t all = split_by k ks (filter (is_fixed_task box) ks) (filter (is_open_task box) ks) t all.0 (tasks_amount ks t all.1) (is_open_task box k) refl

  all_amount : (ks : List CumTask) (used : List Used) (t : ℤ) → AllByRecursion (TaskIn (length box)) ks → amount_at (used ++ map (usage θ) ks) t ≡ amount_at (all_used box ks used) t +ℤ amount_at (map (usage θ) (map (substituted_task box) (open_tasks box ks))) t
  unfolding all_used open_tasks
  all_amount ks used t all =
      let front = amount_append used (map (usage θ) ks) t in
      let back = amount_append used (map (fixed_use box) (filter (is_fixed_task box) ks)) t in
      let tasks = tasks_amount ks t all in
      omega (arith, ints, front, back, tasks)

  -- ---- lengths and uses
  negative_value : (x : Term) → TermIn (length box) x → is_negative box x ≡ true → val x θ <ℤ pos 0
  negative_value x inside e = by_test (is_open box x) refl e
    where
      by_test : (o : Bool) → is_open box x ≡ o → (not o && int_lt (term_low box x) (pos 0)) ≡ true → val x θ <ℤ pos 0
      by_test true f g = absurd (false≢true g)
      by_test false f g = let is = shut_value box x θ well_formed lies inside f in omega (arith, ints, is, g)

  not_task : (k : CumTask) → TaskIn (length box) k → (w v : Bool) → is_negative box k.d ≡ w → is_negative box k.r ≡ v → (w || v) ≡ true → IsTask θ k → ⊥
  not_task k inside true v e f g task = let less = negative_value k.d inside.1 e in let some = task.0 in omega (arith, ints, less, some)
  not_task k inside false true e f g task = let less = negative_value k.r inside.2 f in let some = task.1 in omega (arith, ints, less, some)
  not_task k inside false false e f g task = false≢true g

  not_tasks : (ks : List CumTask) → AllByRecursion (TaskIn (length box)) ks → list_any (is_negative_task box) ks ≡ true → AllByRecursion (IsTask θ) ks → ⊥
  not_tasks [] all e tasks = false≢true e
  not_tasks (k ∷ ks) all e tasks = by_test (is_negative_task box k) refl e (λ f. not_tasks ks all.1 f tasks.1)
    where
      by_test : (w : Bool) → is_negative_task box k ≡ w → (w || list_any (is_negative_task box) ks) ≡ true → (list_any (is_negative_task box) ks ≡ true → ⊥) → ⊥
      by_test true f g later = not_task k all.0 (is_negative box k.d) (is_negative box k.r) refl refl f tasks.0
      by_test false f g later = later g

  some_task : (k : CumTask) → TaskIn (length box) k → is_never_negative box k ≡ true → IsTask θ k
  some_task k inside e =
      let both = and_parts (int_le (pos 0) (term_low box k.d)) (int_le (pos 0) (term_low box k.r)) e in
      let d = val_low box k.d θ well_formed inside.1 lies in
      let r = val_low box k.r θ well_formed inside.2 lies in
      let one = both.0 in
      let two = both.1 in
      (omega (arith, ints, d, one), omega (arith, ints, r, two))

  some_tasks : (ks : List CumTask) → AllByRecursion (TaskIn (length box)) ks → list_all (is_never_negative box) ks ≡ true → AllByRecursion (IsTask θ) ks
  some_tasks [] all e = tt
  some_tasks (k ∷ ks) all e = let both = and_parts (is_never_negative box k) (list_all (is_never_negative box) ks) e in (some_task k all.0 both.0, some_tasks ks all.1 both.1)

  -- the open tasks are tasks exactly where all are
  shut_task : (k : CumTask) → TaskIn (length box) k → is_open_task box k ≡ false → is_negative_task box k ≡ false → IsTask θ k
  shut_task k inside e none =
      let shut = task_shut box k e in
      let neither = or_parts (is_negative box k.d) (is_negative box k.r) none in
      let d = shut_value box k.d θ well_formed lies inside.1 shut.1 in
      let r = shut_value box k.r θ well_formed lies inside.2 shut.2 in
      let one = not_negative box k.d shut.1 neither.0 in
      let two = not_negative box k.r shut.2 neither.1 in
      (omega (arith, ints, d, one), omega (arith, ints, r, two))

  substituted_is_task : (k : CumTask) → TaskIn (length box) k → IsTask θ (substituted_task box k) ↔ IsTask θ k
  substituted_is_task k inside =
      let d = substituted_value box k.d θ well_formed lies inside.1 in
      let r = substituted_value box k.r θ well_formed lies inside.2 in
      rw (d, r) (λ h. h, λ h. h)

  open_by : (k : CumTask) (ks open_ones : List CumTask) → TaskIn (length box) k → is_negative_task box k ≡ false → (AllByRecursion (IsTask θ) (map (substituted_task box) open_ones) ↔ AllByRecursion (IsTask θ) ks)
      → (w : Bool) → is_open_task box k ≡ w → AllByRecursion (IsTask θ) (map (substituted_task box) (if w then k ∷ open_ones else open_ones)) ↔ AllByRecursion (IsTask θ) (k ∷ ks)
  open_by k ks open_ones inside none rest true e = let one = substituted_is_task k inside in (λ h. (one.0 h.0, rest.0 h.1), λ h. (one.1 h.0, rest.1 h.1))
  open_by k ks open_ones inside none rest false e = (λ h. (shut_task k inside e none, rest.0 h), λ h. rest.1 h.1)

  open_are_tasks : (ks : List CumTask) → AllByRecursion (TaskIn (length box)) ks → list_any (is_negative_task box) ks ≡ false → AllByRecursion (IsTask θ) (map (substituted_task box) (filter (is_open_task box) ks)) ↔ AllByRecursion (IsTask θ) ks
  open_are_tasks [] all none = (λ h. tt, λ h. tt)
  open_are_tasks (k ∷ ks) all none =
      let both = or_parts (is_negative_task box k) (list_any (is_negative_task box) ks) none in
      open_by k ks (filter (is_open_task box) ks) all.0 both.0 (open_are_tasks ks all.1 both.1) (is_open_task box k) refl

  -- ---- what tasks use at most
  use_at_most : (k : CumTask) (t : ℤ) → TaskIn (length box) k → IsTask θ k → part_at (usage θ k) t ≤ℤ term_high box k.r
  use_at_most k t inside task =
      let high = val_high box k.r θ well_formed inside.2 lies in
      let some = task.1 in
      part_small (usage θ k) t (term_high box k.r) (omega (arith, ints, high, some)) high

  uses_at_most : (ks : List CumTask) (t : ℤ) → AllByRecursion (TaskIn (length box)) ks → AllByRecursion (IsTask θ) ks → amount_at (map (usage θ) ks) t ≤ℤ sum_of_uses box ks
  uses_at_most [] t all tasks = omega (arith, ints)
  uses_at_most (k ∷ ks) t all tasks =
      let here = use_at_most k t all.0 tasks.0 in
      let rest = uses_at_most ks t all.1 tasks.1 in
      omega (arith, ints, here, rest)

  -- ---- the four forms
  negative_law : (ks : List CumTask) (used : List Used) (b : Term) → TasksInLimits (length box) ks → some_negative box ks ≡ true → FormHolds (reduced.Is empty_clause) θ ↔ Holds (con.CumulUsed ks used b) θ
  unfolding some_negative AreTasks
  negative_law ks used b kept e = (λ h. absurd (never_holds θ h), λ h. absurd (not_tasks ks (tasks_in (length box) ks kept) e (recursion_from_All (IsTask θ) ks h.0)))

  fits_law : (ks : List CumTask) (used : List Used) (b : Term) → TasksInLimits (length box) ks → UsedInLimits of_call used → TermIn (length box) b → always_fits box ks used b ≡ true → FormHolds reduced.Holds θ ↔ Holds (con.CumulUsed ks used b) θ
  unfolding are_never_negative AreTasks FitsAlways
  fits_law ks used b kept used_kept inside e =
      let both = and_parts (are_never_negative box ks) (int_le (peak used +ℤ sum_of_uses box ks) (term_low box b)) (sym (fits_is box ks used b) ∙ e) in
      let tasks = some_tasks ks (tasks_in (length box) ks kept) both.0 in
      let room = both.1 in
      let limit = val_low box b θ well_formed inside lies in (
        λ h. (
          All-from_recursion (IsTask θ) ks tasks,
          λ t.
              let split = amount_append used (map (usage θ) ks) t in
              let front = below_peak used t (used_amounts used used_kept) in
              let back = uses_at_most ks t (tasks_in (length box) ks kept) tasks in
              omega (arith, ints, split, front, back, room, limit),
        ),
        λ h. tt,
      )

  fixed_amount_is : (ks : List CumTask) (used : List Used) (t : ℤ) → TasksInLimits (length box) ks → filter (is_open_task box) ks ≡ [] → amount_at (used ++ map (usage θ) ks) t ≡ amount_at (all_used box ks used) t
  unfolding open_tasks
  fixed_amount_is ks used t kept none =
      let whole = all_amount ks used t (tasks_in (length box) ks kept) in
      let nothing = ap (λ (os : List CumTask). amount_at (map (usage θ) (map (substituted_task box) os)) t) none in
      omega (arith, ints, whole, nothing)

  fixed_decides : (ks : List CumTask) (used : List Used) (b : Term) → TasksInLimits (length box) ks → UsedInLimits of_call used → TermIn (length box) b → some_negative box ks ≡ false → all_fixed box ks b ≡ true → (int_le (peak (all_used box ks used)) (term_low box b) ≡ true) ↔ Holds (con.CumulUsed ks used b) θ
  unfolding some_negative AreTasks FitsAlways
  fixed_decides ks used b kept used_kept inside none fixed =
      let shut = all_shut box ks b fixed in
      let is = shut_value box b θ well_formed lies inside shut.0 in
      let amounts = whole_amounts box ks used well_formed kept used_kept none in
      let open_law = open_are_tasks ks (tasks_in (length box) ks kept) none in
      let tasks : AllByRecursion (IsTask θ) ks = open_law.0 (subst (λ (os : List CumTask). AllByRecursion (IsTask θ) (map (substituted_task box) os)) (sym shut.1) tt) in (
        λ e. (
          All-from_recursion (IsTask θ) ks tasks,
          λ t.
              let same = fixed_amount_is ks used t kept shut.1 in
              let below = below_peak (all_used box ks used) t amounts in
              omega (arith, ints, same, below, e, is),
        ),
        λ h.
            let at : (t : ℤ) → amount_at (all_used box ks used) t ≤ℤ term_low box b = λ t. let same = fixed_amount_is ks used t kept shut.1 in let fits = h.1 t in omega (arith, ints, same, fits, is) in
            let some = amounts_some (all_used box ks used) (pos 0) amounts in
            let first = at (pos 0) in
            test_from_le (peak (all_used box ks used)) (term_low box b) (peak_least (all_used box ks used) (term_low box b) (omega (arith, ints, some, first)) at),
      )

  fixed_law : (ks : List CumTask) (used : List Used) (b : Term) → TasksInLimits (length box) ks → UsedInLimits of_call used → TermIn (length box) b → some_negative box ks ≡ false → all_fixed box ks b ≡ true → FormHolds (of_truth (int_le (peak (all_used box ks used)) (term_low box b))) θ ↔ Holds (con.CumulUsed ks used b) θ
  fixed_law ks used b kept used_kept inside none fixed = truth_holds (int_le (peak (all_used box ks used)) (term_low box b)) (Holds (con.CumulUsed ks used b) θ) θ (fixed_decides ks used b kept used_kept inside none fixed)

  tasks_law : (ks ks' : List CumTask) → TasksInLimits (length box) ks → some_negative box ks ≡ false → ks' ≡ map (substituted_task box) (open_tasks box ks) → AreTasks ks' θ ↔ AreTasks ks θ
  unfolding some_negative open_tasks AreTasks
  tasks_law ks ks' kept none is =
      let law = open_are_tasks ks (tasks_in (length box) ks kept) none in (
        λ h. All-from_recursion (IsTask θ) ks (law.0 (subst (λ (os : List CumTask). AllByRecursion (IsTask θ) os) is (recursion_from_All (IsTask θ) ks' h))),
        λ h. All-from_recursion (IsTask θ) ks' (subst (λ (os : List CumTask). AllByRecursion (IsTask θ) os) (sym is) (law.1 (recursion_from_All (IsTask θ) ks h))),
      )

  left_amount : (ks ks' : List CumTask) (used used' : List Used) (t : ℤ) → TasksInLimits (length box) ks → ks' ≡ map (substituted_task box) (open_tasks box ks) → AreRunsOf used' (all_used box ks used) → amount_at (used' ++ map (usage θ) ks') t ≡ amount_at (used ++ map (usage θ) ks) t
  left_amount ks ks' used used' t kept is runs =
      let split = amount_append used' (map (usage θ) ks') t in
      let whole = all_amount ks used t (tasks_in (length box) ks kept) in
      let tasks = ap (λ (os : List CumTask). amount_at (map (usage θ) os) t) is in
      let same = runs.same t in
      omega (arith, ints, split, whole, tasks, same)

  limit_law : (us vs : List Used) (x y : ℤ) → ((t : ℤ) → amount_at us t ≡ amount_at vs t) → x ≡ y → FitsAlways us x ↔ FitsAlways vs y
  unfolding FitsAlways
  limit_law us vs x y same is = (λ h t. let e = same t in let f = h t in omega (arith, ints, e, f, is), λ h t. let e = same t in let f = h t in omega (arith, ints, e, f, is))

  left_law : (ks : List CumTask) (used : List Used) (b : Term) (form : Reduced) → TasksInLimits (length box) ks → TermIn (length box) b → some_negative box ks ≡ false → IsCumulativeLeft box ks used b form → FormHolds form θ ↔ Holds (con.CumulUsed ks used b) θ
  left_law ks used b (reduced.Is (con.CumulUsed ks' used' b')) kept inside none left =
      let tasks = tasks_law ks ks' kept none left.0 in
      let limit : val b' θ ≡ val b θ = ap (λ (x : Term). val x θ) left.2 ∙ substituted_value box b θ well_formed lies inside in
      let fits = limit_law (used' ++ map (usage θ) ks') (used ++ map (usage θ) ks) (val b' θ) (val b θ) (λ t. left_amount ks ks' used used' t kept left.0 left.1) limit in
      (λ h. (tasks.0 h.0, fits.0 h.1), λ h. (tasks.1 h.0, fits.1 h.1))
  left_law ks used b form kept inside none left = absurd left

  law_by : (ks : List CumTask) (used : List Used) (b : Term) (form : Reduced) → TasksInLimits (length box) ks → UsedInLimits of_call used → TermIn (length box) b
      → (n f a : Bool) → some_negative box ks ≡ n → always_fits box ks used b ≡ f → all_fixed box ks b ≡ a
      → MatchBool n (form ≡ reduced.Is empty_clause) (MatchBool f (form ≡ reduced.Holds) (MatchBool a (form ≡ of_truth (int_le (peak (all_used box ks used)) (term_low box b))) (IsCumulativeLeft box ks used b form)))
      → FormHolds form θ ↔ Holds (con.CumulUsed ks used b) θ
  law_by ks used b form kept used_kept inside true f a e g h is = subst (λ (r : Reduced). FormHolds r θ ↔ Holds (con.CumulUsed ks used b) θ) (sym is) (negative_law ks used b kept e)
  law_by ks used b form kept used_kept inside false true a e g h is = subst (λ (r : Reduced). FormHolds r θ ↔ Holds (con.CumulUsed ks used b) θ) (sym is) (fits_law ks used b kept used_kept inside g)
  law_by ks used b form kept used_kept inside false false true e g h is = subst (λ (r : Reduced). FormHolds r θ ↔ Holds (con.CumulUsed ks used b) θ) (sym is) (fixed_law ks used b kept used_kept inside e h)
  law_by ks used b form kept used_kept inside false false false e g h is = left_law ks used b form kept inside e is

pub cumulative_law : (box : List (List ℤ)) (ks : List CumTask) (used : List Used) (b : Term) (form : Reduced) (θ : List ℤ) → IsBox box → InBox box θ → FitsBox box (con.CumulUsed ks used b) → IsCumulativeForm box ks used b form → FormHolds form θ ↔ Holds (con.CumulUsed ks used b) θ
unfolding IsCumulativeForm
cumulative_law box ks used b form θ well_formed lies fits_box is = law_by box θ well_formed lies ks used b form fits_box.kept.0 fits_box.kept.1 fits_box.kept.2 (some_negative box ks) (always_fits box ks used b) (all_fixed box ks b) refl refl refl is

-- ---- what the form names
part_left : (box : List (List ℤ)) (part : CumTask → Term) (of : CumTask → Term) (ks : List CumTask) → ((k : CumTask) → part (substituted_task box k) ≡ substituted box (of k)) → All (IsLeft box) (map part (map (substituted_task box) ks))
part_left box part of ks is = All-map (IsLeft box) part (map (substituted_task box) ks) (All-map (λ (k : CumTask). IsLeft box (part k)) (substituted_task box) ks (λ i d h. subst (λ (t : Term). IsLeft box t) (sym (is (slice_index_or ks i d))) (substituted_left box (of (slice_index_or ks i d)))))

tasks_left : (box : List (List ℤ)) (ks ks' : List CumTask) → ks' ≡ map (substituted_task box) ks → All (IsLeft box) (map (λ (k : CumTask). k.s) ks' ++ map (λ (k : CumTask). k.d) ks' ++ map (λ (k : CumTask). k.r) ks')
tasks_left box ks ks' is = subst (λ (os : List CumTask). All (IsLeft box) (map (λ (k : CumTask). k.s) os ++ map (λ (k : CumTask). k.d) os ++ map (λ (k : CumTask). k.r) os)) (sym is)
    (All-append (IsLeft box) (map (λ (k : CumTask). k.s) (map (substituted_task box) ks) ++ map (λ (k : CumTask). k.d) (map (substituted_task box) ks)) (map (λ (k : CumTask). k.r) (map (substituted_task box) ks))
    (All-append (IsLeft box) (map (λ (k : CumTask). k.s) (map (substituted_task box) ks)) (map (λ (k : CumTask). k.d) (map (substituted_task box) ks))
    (part_left box (λ (k : CumTask). k.s) (λ (k : CumTask). k.s) ks (λ k. refl))
    (part_left box (λ (k : CumTask). k.d) (λ (k : CumTask). k.d) ks (λ k. refl)))
    (part_left box (λ (k : CumTask). k.r) (λ (k : CumTask). k.r) ks (λ k. refl)))

left_open : (box : List (List ℤ)) (ks : List CumTask) (used : List Used) (b : Term) (form : Reduced) → IsCumulativeLeft box ks used b form → NamesOpen box form
left_open box ks used b (reduced.Is (con.CumulUsed ks' used' b')) left = All-cons (IsLeft box) b' (map (λ (k : CumTask). k.s) ks' ++ map (λ (k : CumTask). k.d) ks' ++ map (λ (k : CumTask). k.r) ks') (subst (λ (t : Term). IsLeft box t) (sym left.2) (substituted_left box b)) (tasks_left box (open_tasks box ks) ks' left.0)
left_open box ks used b form left = absurd left

open_by_tests : (box : List (List ℤ)) (ks : List CumTask) (used : List Used) (b : Term) (form : Reduced) (w : Bool) (n f a : Bool)
    → MatchBool n (form ≡ reduced.Is empty_clause) (MatchBool f (form ≡ reduced.Holds) (MatchBool a (form ≡ of_truth w) (IsCumulativeLeft box ks used b form)))
    → NamesOpen box form
open_by_tests box ks used b form w true f a is = subst (λ (r : Reduced). NamesOpen box r) (sym is) (All-nil (IsLeft box))
open_by_tests box ks used b form w false true a is = subst (λ (r : Reduced). NamesOpen box r) (sym is) tt
open_by_tests box ks used b form w false false true is = subst (λ (r : Reduced). NamesOpen box r) (sym is) (truth_open box w).over
open_by_tests box ks used b form w false false false is = left_open box ks used b form is

pub cumulative_open : (box : List (List ℤ)) (ks : List CumTask) (used : List Used) (b : Term) (form : Reduced) → IsCumulativeForm box ks used b form → NamesOpen box form
unfolding IsCumulativeForm
cumulative_open box ks used b form is = open_by_tests box ks used b form (int_le (peak (all_used box ks used)) (term_low box b)) (some_negative box ks) (always_fits box ks used b) (all_fixed box ks b) is
