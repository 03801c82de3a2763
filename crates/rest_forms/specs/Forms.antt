-- The form that a constraint has in a box, for the kinds over lists: fixed variables are their values, and what the domains
-- decide is left out. It is this project's own.
use Rattle.std.specs.Prelude.{◌≡◌, ℕ, zero, suc, ◌+◌, ◌*◌, ◌/◌, ◌<◌, Bool, true, false, not, ◌&&◌, ◌||◌, if◌then◌else◌, nat_lt, List, [], ◌∷◌, ◌++◌, map, filter, fold, length, slice_index_or, slice_range, ℤ, pos, negsuc, ◌+ℤ◌, ◌≤ℤ◌, ◌<ℤ◌, int_lt, int_le, All, AllPairs, ⊤}
use Rattle.std.specs.Int.{int_min, int_max}
use Rattle.std.specs.Bool.{MatchBool}
use Rattle.std.specs.declared.cmp.Ordering.{Ordering}
use Rattle.std.specs.Ordering.{int_eq, int_cmp}
use Rattle.std.specs.Cmp.Lexicographic.{slice_cmp}
use Rattle.std.specs.BTreeSet.{insert_key}
use Rattle.std.specs.List.{list_any, list_all, flat_map, zip}
use Rattle.fzn_model.specs.declared.term.Term.{Term}
use Rattle.fzn_model.specs.declared.term.Term.TheVariants as term
use Rattle.fzn_model.specs.declared.lin.Rel.TheVariants as rel
use Rattle.fzn_model.specs.declared.cumulative.CumTask.{CumTask}
use Rattle.fzn_model.specs.declared.cumulative.Used.{Used}
use Rattle.fzn_model.specs.declared.con.Con.{Con}
use Rattle.fzn_model.specs.declared.con.Con.TheVariants as con
use Rattle.fzn_model.specs.Meaning.{amount_at}
use Rattle.fzn_model.specs.Bounds.{term_low, term_high, is_open}
use Rattle.rest_basic.specs.Forms.{substituted, open_terms, any_open, term_values, empty_clause, of_form, of_truth, form_of_lin}
use Rattle.rest_basic.specs.declared.reduced.Reduced.{Reduced}
use Rattle.rest_basic.specs.declared.reduced.Reduced.TheVariants as reduced
use Rattle.rest_forms.specs.declared.extremes.Extreme.{Extreme}
use Rattle.rest_forms.specs.declared.extremes.Extreme.TheVariants as extreme

-- ---- terms
-- the values of the fixed ones
unfoldable pub fixed_values : List (List ℤ) → List Term → List ℤ
fixed_values box ts = map (term_low box) (filter (λ t. not (is_open box t)) ts)

-- the term can have the value
unfoldable pub term_has : List (List ℤ) → ℤ → Term → Bool
term_has box z t = list_any (int_eq z) (term_values box t)

-- ---- the greatest and the least of a list
-- the greater of two numbers, or the lesser
abbrev pub pick_by : Extreme → ℤ → ℤ → ℤ
pick_by extreme.Greatest = int_max
pick_by extreme.Least = int_min

-- the first number is at most the second, or at least
abbrev pub is_within : Extreme → ℤ → ℤ → Bool
is_within extreme.Greatest y z = int_le y z
is_within extreme.Least y z = int_le z y

-- the greatest or the least of some numbers, as one constant, where there are any
abbrev pub one_constant : (ℤ → ℤ → ℤ) → List ℤ → List Term
one_constant pick [] = []
one_constant pick (z ∷ zs) = term.Const (fold pick z zs) ∷ []

-- the open members in order, and one constant for the others
unfoldable pub members_of_extreme : (ℤ → ℤ → ℤ) → List (List ℤ) → List Term → List Term
members_of_extreme pick box xs = open_terms box xs ++ one_constant pick (fixed_values box xs)

-- the number is the greatest or the least of some numbers
abbrev pub is_extreme : Extreme → ℤ → List ℤ → Bool
is_extreme e z zs = list_any (int_eq z) zs && list_all (λ y. is_within e y z) zs

-- the constraint that a term is the greatest or the least of a list
abbrev pub extreme_con : Extreme → Term → List Term → Con
extreme_con extreme.Greatest m xs = con.Greatest m xs
extreme_con extreme.Least m xs = con.Least m xs

unfoldable pub extreme_form : Extreme → List (List ℤ) → Term → List Term → Reduced
extreme_form e box m xs =
    if any_open box (m ∷ xs) then reduced.Is (extreme_con e (substituted box m) (members_of_extreme (pick_by e) box xs)) else
    of_truth (is_extreme e (term_low box m) (fixed_values box xs))

-- ---- an element of a list
-- the members, from the place with a number on: 0 where the index can't have the place
abbrev pub members_from : List (List ℤ) → Term → ℕ → List Term → List Term
members_from box i n [] = []
members_from box i n (x ∷ xs) = (if term_has box (pos n) i then substituted box x else term.Const (pos 0)) ∷ members_from box i (suc n) xs

-- the member of a fixed index, which counts from 1, has the value of the chosen term; outside the list none has
abbrev pub member_form : List (List ℤ) → ℤ → List Term → Term → Reduced
member_form box (pos (suc k)) xs c =
    if nat_lt k (length xs) then of_form (form_of_lin box rel.Eq ((pos 1, slice_index_or xs k c) ∷ (negsuc 0, c) ∷ []) (pos 0)) else
    reduced.Is empty_clause
member_form box z xs c = reduced.Is empty_clause

unfoldable pub element_form : List (List ℤ) → Term → List Term → Term → Reduced
element_form box i xs c =
    if is_open box i then reduced.Is (con.Element i (members_from box i 1 xs) (substituted box c)) else
    member_form box (term_low box i) xs c

-- ---- values that differ
-- some open member can have the number
unfoldable pub open_has : List (List ℤ) → List Term → ℤ → Bool
open_has box xs z = list_any (λ x. is_open box x && term_has box z x) xs

-- the members of a list, rising by an order, each once
abbrev pub rising_by : {K : Type 0} → (K → K → Ordering) → List K → List K
rising_by order [] = []
rising_by order (x ∷ xs) = insert_key order (rising_by order xs) x

-- the taken numbers and the values of fixed members that some open member can have
unfoldable pub taken_left : List (List ℤ) → List Term → List ℤ → List ℤ
taken_left box xs taken = rising_by int_cmp (filter (open_has box xs) (taken ++ fixed_values box xs))

-- two of the numbers are equal
abbrev pub has_twice : List ℤ → Bool
has_twice [] = false
has_twice (z ∷ zs) = list_any (int_eq z) zs || has_twice zs

-- the lists have a number in common
abbrev pub share_one : List ℤ → List ℤ → Bool
share_one zs ys = list_any (λ z. list_any (int_eq z) ys) zs

-- no member is open, or one whose values are all free
abbrev pub is_decided : List Term → List ℤ → Bool
is_decided [] taken = true
is_decided (x ∷ []) [] = true
is_decided (x ∷ xs) taken = false

unfoldable pub all_different_form : List (List ℤ) → List Term → List ℤ → Reduced
all_different_form box xs taken =
    if has_twice (fixed_values box xs) || share_one (fixed_values box xs) taken then reduced.Is empty_clause else
    if is_decided (open_terms box xs) (taken_left box xs taken) then reduced.Holds else
    reduced.Is (con.AllDiffExcept (open_terms box xs) (taken_left box xs taken))

-- ---- rows
-- a row, of those that stand one after the other
abbrev pub row_at : List ℤ → ℕ → ℕ → List ℤ
row_at rows width k = slice_range rows (k * width) (k * width + width)

-- the rows below one
abbrev pub rows_below : List ℤ → ℕ → ℕ → List (List ℤ)
rows_below rows width zero = []
rows_below rows width (suc k) = rows_below rows width k ++ row_at rows width k ∷ []

-- each entry is a value of its column
abbrev pub is_possible : List (List ℤ) → List Term → List ℤ → Bool
is_possible box xs row = list_all (λ p. term_has box p.1 p.0) (zip xs row)

-- the entries of the open columns
abbrev pub open_entries : List (List ℤ) → List Term → List ℤ → List ℤ
open_entries box xs row = map (λ p. p.1) (filter (λ p. is_open box p.0) (zip xs row))

-- the rows that are left, in the open columns
unfoldable pub rows_possible : List (List ℤ) → List Term → List ℤ → List (List ℤ)
rows_possible box xs rows = map (open_entries box xs) (filter (is_possible box xs) (rows_below rows (length xs) (length rows / length xs)))

-- these rows, rising, each once
unfoldable pub rows_left : List (List ℤ) → List Term → List ℤ → List (List ℤ)
rows_left box xs rows = rising_by (slice_cmp int_cmp) (rows_possible box xs rows)

-- Each value of the one open column has a row left: the rows left are as many.
abbrev pub is_full : List (List ℤ) → List Term → List (List ℤ) → Bool
is_full box [] rows = true
is_full box (x ∷ []) rows = list_all (λ z. list_any (λ row. int_eq z (slice_index_or row 0 (pos 0))) rows) (term_values box x)
is_full box (x ∷ xs) rows = false

-- at least one
abbrev pub are_some : List (List ℤ) → Bool
are_some [] = false
are_some (row ∷ rows) = true

unfoldable pub table_form : List (List ℤ) → List Term → List ℤ → Reduced
table_form box xs rows =
    if not (are_some (rows_left box xs rows)) then reduced.Is empty_clause else
    if is_full box (open_terms box xs) (rows_left box xs rows) then reduced.Holds else
    reduced.Is (con.Table (open_terms box xs) (flat_map (λ row. row) (rows_left box xs rows)))

-- ---- cumulative tasks
-- some term of the task is open
abbrev pub is_open_task : List (List ℤ) → CumTask → Bool
is_open_task box k = any_open box (k.s ∷ k.d ∷ k.r ∷ [])

unfoldable pub open_tasks : List (List ℤ) → List CumTask → List CumTask
open_tasks box ks = filter (is_open_task box) ks

abbrev pub substituted_task : List (List ℤ) → CumTask → CumTask
substituted_task box k = record { s = substituted box k.s; d = substituted box k.d; r = substituted box k.r }

-- what a fixed task uses
abbrev pub fixed_use : List (List ℤ) → CumTask → Used
fixed_use box k = record { from = term_low box k.s; to = term_low box k.s +ℤ term_low box k.d; amount = term_low box k.r }

-- what is used by the used amounts and by the fixed tasks
unfoldable pub all_used : List (List ℤ) → List CumTask → List Used → List Used
all_used box ks used = used ++ map (fixed_use box) (filter (λ k. not (is_open_task box k)) ks)

-- a fixed length or use is negative
abbrev pub is_negative : List (List ℤ) → Term → Bool
is_negative box t = not (is_open box t) && int_lt (term_low box t) (pos 0)

unfoldable pub some_negative : List (List ℤ) → List CumTask → Bool
some_negative box ks = list_any (λ k. is_negative box k.d || is_negative box k.r) ks

-- the greatest sum of amounts at one moment, at least 0: it is reached where one of them begins
unfoldable pub peak : List Used → ℤ
peak us = fold int_max (pos 0) (map (λ u. amount_at us u.from) us)

-- the sum of the greatest uses
abbrev pub sum_of_uses : List (List ℤ) → List CumTask → ℤ
sum_of_uses box [] = pos 0
sum_of_uses box (k ∷ ks) = term_high box k.r +ℤ sum_of_uses box ks

-- each length and use is at least 0, and what is used with all that tasks can use is at most the least capacity
unfoldable pub always_fits : List (List ℤ) → List CumTask → List Used → Term → Bool
always_fits box ks used b =
    list_all (λ k. int_le (pos 0) (term_low box k.d) && int_le (pos 0) (term_low box k.r)) ks
    && int_le (peak used +ℤ sum_of_uses box ks) (term_low box b)

-- no task is open, nor the capacity
abbrev pub all_fixed : List (List ℤ) → List CumTask → Term → Bool
all_fixed box ks b = not (is_open box b) && not (list_any (is_open_task box) ks)

-- rising runs of one positive amount each, none touching a run of the same amount
pub record AreUsedRuns (us : List Used) : Type 0 where
  pub some : All (λ u. (u.from <ℤ u.to) × (pos 0 <ℤ u.amount)) us
  pub rising : AllPairs (λ u v. u.to ≤ℤ v.from) us
  pub apart : (k : ℕ) (d : Used) → k + 1 < length us → (slice_index_or us k d).to ≡ (slice_index_or us (k + 1) d).from → (slice_index_or us k d).amount ≡ (slice_index_or us (k + 1) d).amount → ⊥

-- such runs that use at each moment what others do
pub record AreRunsOf (us vs : List Used) : Type 0 where
  pub runs : AreUsedRuns us
  pub same : (t : ℤ) → amount_at us t ≡ amount_at vs t

abbrev pub IsCumulativeLeft : List (List ℤ) → List CumTask → List Used → Term → Reduced → Type 0
IsCumulativeLeft box ks used b (reduced.Is (con.CumulUsed ks' used' b')) = (ks' ≡ map (substituted_task box) (open_tasks box ks)) × AreRunsOf used' (all_used box ks used) × (b' ≡ substituted box b)
IsCumulativeLeft box ks used b c = ⊥

unfoldable pub IsCumulativeForm : List (List ℤ) → List CumTask → List Used → Term → Reduced → Type 0
IsCumulativeForm box ks used b c =
    MatchBool (some_negative box ks) (c ≡ reduced.Is empty_clause)
    (MatchBool (always_fits box ks used b) (c ≡ reduced.Holds)
    (MatchBool (all_fixed box ks b) (c ≡ of_truth (int_le (peak (all_used box ks used)) (term_low box b)))
    (IsCumulativeLeft box ks used b c)))

-- ---- the kinds of this crate
abbrev pub IsGlobal : Con → Type 0
IsGlobal (con.Greatest m xs) = ⊤
IsGlobal (con.Least m xs) = ⊤
IsGlobal (con.Element i xs c) = ⊤
IsGlobal (con.AllDiffExcept xs taken) = ⊤
IsGlobal (con.CumulUsed tasks used b) = ⊤
IsGlobal (con.Table xs rows) = ⊤
IsGlobal c = ⊥

abbrev pub IsGlobalForm : List (List ℤ) → Con → Reduced → Type 0
IsGlobalForm box (con.Greatest m xs) form = form ≡ extreme_form extreme.Greatest box m xs
IsGlobalForm box (con.Least m xs) form = form ≡ extreme_form extreme.Least box m xs
IsGlobalForm box (con.Element i xs c) form = form ≡ element_form box i xs c
IsGlobalForm box (con.AllDiffExcept xs taken) form = form ≡ all_different_form box xs taken
IsGlobalForm box (con.CumulUsed ks used b) form = IsCumulativeForm box ks used b form
IsGlobalForm box (con.Table xs rows) form = form ≡ table_form box xs rows
IsGlobalForm box c form = ⊥
