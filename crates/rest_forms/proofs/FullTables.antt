-- Rows over the open columns: how wide they are, what they hold, and when they hold each value of a single column.
use Rattle.std.proofs.Common.{◌≡◌, ℕ, zero, suc, ◌+◌, ◌-◌, ◌*◌, ◌/◌, ◌<◌, ◌≤◌, List, [], ◌∷◌, length, drop, map, refl, sym, ap, subst, ◌∙◌, arith, ℤ, pos, Bool, true, false, inl, inr}
use Rattle.std.specs.Prelude.{Contains, ◌↔◌, ◌==◌, not, filter, IsTrue, slice_index_or, ◌<ℤ◌}
use Rattle.std.specs.declared.cmp.Ordering.TheVariants.{Less, Equal}
use Rattle.std.specs.Ordering.{int_cmp, int_eq}
use Rattle.std.specs.Cmp.Lexicographic.{slice_cmp}
use Rattle.std.specs.List.{list_any, AllByRecursion, IsDistinct}
use Rattle.std.specs.List.Sorted.{IsStrictlySortedBy}
use Rattle.std.proofs.Math.Nat.{mul-le-mul, div-mul-le_self}
use Rattle.std.proofs.lemmas.Bool.{false≢true, false_from_ne_true}
use Rattle.std.proofs.lemmas.Bool.Decides.{Decides-int_eq, Decides-eqb}
use Rattle.std.proofs.lemmas.Cmp.{tied_itself}
use Rattle.std.proofs.lemmas.Int.{ints}
use Rattle.std.proofs.lemmas.List.{length-map, length-drop, length-take-le}
use Rattle.std.proofs.lemmas.List.Elements.{All-contains, All-contains_itself, All-weaker, Contains-append_cases}
use Rattle.std.proofs.lemmas.List.Folds.{Any-from_list_any, list_any-from_Any}
use Rattle.std.proofs.lemmas.Map.Keys.{sorted_head, sorted_tail, IsDistinct-cons}
use Rattle.std.proofs.lemmas.Map.Made.{IsDistinct-from_AllPairs}
use Rattle.fzn_model.specs.declared.term.Term.{Term}
use Rattle.fzn_model.specs.Boxes.{IsDomain}
use Rattle.fzn_model.specs.Bounds.{is_open}
use Rattle.fzn_model.proofs.Pigeons.{distinct_none, pigeons, pigeons_fill}
use Rattle.rest_basic.specs.Forms.{open_terms, term_values}
use Rattle.rest_forms.specs.Forms.{term_has, is_possible, open_entries, row_at, rows_below, rows_possible, rows_left, is_full, are_some}
use Rattle.rest_forms.specs.Rows.{AreRowsOver}
use Rattle.rest_forms.proofs.ValueTests.{alike, and_both, all_test, among_test, test_among, term_has_is}
use Rattle.rest_basic.proofs.ListMembers.{has_first, has_later, has_cases, has_no, filter_passed, filter_kept, map_has, map_from}
use Rattle.rest_forms.proofs.RisingLists.{rows_total, rows_sorted, rows_have}

-- ---- whether there are rows
pub some_rows : (rows : List (List ℤ)) (b : Bool) → (IsTrue b ↔ (length rows ≡ 0)) → not b ≡ are_some rows
some_rows [] true both = refl
some_rows [] false both = absurd (false≢true (both.1 refl))
some_rows (row ∷ rows) true both = absurd (omega (arith, both.0 refl))
some_rows (row ∷ rows) false both = refl

-- ---- the rows of a table are as wide as it
pub row_wide : (rows : List ℤ) (w k : ℕ) → k < length rows / w → length (row_at rows w k) ≡ w
row_wide rows w k h =
    let most : suc k * w ≤ length rows / w * w = mul-le-mul (omega (arith, h)) (omega arith) in
    let room = div-mul-le_self (length rows) w in
    let next : suc k * w ≡ k * w + w = omega arith in
    let rest = length-drop (k * w) rows in
    let span : k * w + w - k * w ≡ w = omega arith in
    rw span (length-take-le w (drop (k * w) rows) (omega (arith, most, room, next, rest)))

pub below_at : (rows : List ℤ) (w k : ℕ) (row : List ℤ) → Contains (rows_below rows w k) row → (j : ℕ) × (j < k) × (row_at rows w j ≡ row)
below_at rows w zero row has = absurd (has_no row has)
below_at rows w (suc k) row has = elim (Contains-append_cases (rows_below rows w k) (row_at rows w k ∷ []) row has) [
  | inl before ↦ let (j, h, is) = below_at rows w k row before in (j, omega (arith, h), is)
  | inr last ↦ elim (has_cases (row_at rows w k) [] row last) [ inl is ↦ (k, omega arith, is) | inr none ↦ absurd (has_no row none) ]
]

pub below_wide : (rows : List ℤ) (w : ℕ) (row : List ℤ) → Contains (rows_below rows w (length rows / w)) row → length row ≡ w
below_wide rows w row has = let (j, h, is) = below_at rows w (length rows / w) row has in ap length (sym is) ∙ row_wide rows w j h

-- ---- the open columns of a row
pub entries_wide : (box : List (List ℤ)) (xs : List Term) (row : List ℤ) → length row ≡ length xs → length (open_entries box xs row) ≡ length (open_terms box xs)
unfolding open_terms
entries_wide box [] row same = refl
entries_wide box (x ∷ xs) [] same = absurd (omega (arith, same))
entries_wide box (x ∷ xs) (z ∷ zs) same = by_test (is_open box x) refl (entries_wide box xs zs (omega (arith, same)))
  where
    by_test : (o : Bool) → is_open box x ≡ o → length (open_entries box xs zs) ≡ length (filter (is_open box) xs) → length (open_entries box (x ∷ xs) (z ∷ zs)) ≡ length (filter (is_open box) (x ∷ xs))
    by_test true e rest = rw e (ap suc rest)
    by_test false e rest = rw e rest

pub entries_possible : (box : List (List ℤ)) (xs : List Term) (row : List ℤ) → length row ≡ length xs → is_possible box xs row ≡ true → is_possible box (open_terms box xs) (open_entries box xs row) ≡ true
unfolding open_terms
entries_possible box [] row same e = refl
entries_possible box (x ∷ xs) [] same e = absurd (omega (arith, same))
entries_possible box (x ∷ xs) (z ∷ zs) same e =
    let both = (and_both (term_has box z x) (is_possible box xs zs)).0 e in
    by_test (is_open box x) refl both.0 (entries_possible box xs zs (omega (arith, same)) both.1)
  where
    by_test : (o : Bool) → is_open box x ≡ o → term_has box z x ≡ true → is_possible box (filter (is_open box) xs) (open_entries box xs zs) ≡ true → is_possible box (filter (is_open box) (x ∷ xs)) (open_entries box (x ∷ xs) (z ∷ zs)) ≡ true
    by_test true f has rest = rw f ((and_both (term_has box z x) (is_possible box (filter (is_open box) xs) (open_entries box xs zs))).1 (has, rest))
    by_test false f has rest = rw f rest

-- each row that is left comes from a row of the table
pub left_from : (box : List (List ℤ)) (xs : List Term) (rows : List ℤ) (row : List ℤ) → Contains (rows_left box xs rows) row
    → (whole : List ℤ) × Contains (rows_below rows (length xs) (length rows / length xs)) whole × (is_possible box xs whole ≡ true) × (open_entries box xs whole ≡ row)
unfolding rows_left rows_possible
left_from box xs rows row has =
    let below = rows_below rows (length xs) (length rows / length xs) in
    let left = filter (is_possible box xs) below in
    let (whole, among, is) = map_from (open_entries box xs) left row ((rows_have (map (open_entries box xs) left) row).0 has) in
    (whole, filter_kept (is_possible box xs) below whole among, filter_passed (is_possible box xs) below whole among, is)

left_sorted : (box : List (List ℤ)) (xs : List Term) (rows : List ℤ) → IsStrictlySortedBy (slice_cmp int_cmp) (rows_left box xs rows)
unfolding rows_left
left_sorted box xs rows = rows_sorted (rows_possible box xs rows)

pub left_over : (box : List (List ℤ)) (xs : List Term) (rows : List ℤ) → AreRowsOver box (open_terms box xs) (rows_left box xs rows)
left_over box xs rows = record {
  rising = left_sorted box xs rows;
  width = λ row has. let (whole, among, e, is) = left_from box xs rows row has in ap length (sym is) ∙ entries_wide box xs whole (below_wide rows (length xs) whole among);
  within = λ row has. let (whole, among, e, is) = left_from box xs rows row has in
      subst (λ (r : List ℤ). is_possible box (open_terms box xs) r ≡ true) is (entries_possible box xs whole (below_wide rows (length xs) whole among) e);
}

pub rows_over : (box : List (List ℤ)) (xs members : List Term) (rows : List ℤ) (left : List (List ℤ)) → members ≡ open_terms box xs → left ≡ rows_left box xs rows → AreRowsOver box members left
rows_over box xs members rows left one other = rw (one, other) (left_over box xs rows)

-- ---- numbers that differ, as many as some values
filled : (xs ys : List ℤ) (z : ℤ) → IsDistinct int_eq xs → ((w : ℤ) → Contains xs w → Contains ys w) → length ys ≤ length xs → Contains ys z → (t : Bool) → list_any (int_eq z) xs ≡ t → Contains xs z
filled xs ys z distinct within many has true e = test_among z xs e
filled xs ys z distinct within many has false e = absurd (pigeons_fill xs ys z distinct within many has (λ h. false≢true (sym e ∙ among_test z xs h)))

-- ---- rows of one column
abbrev head : List ℤ → ℤ
head row = slice_index_or row 0 (pos 0)

record AreSingle (rows : List (List ℤ)) : Type 0 where
  single : (row : List ℤ) → Contains rows row → row ≡ head row ∷ []

one_entry : (row : List ℤ) → length row ≡ 1 → row ≡ head row ∷ []
one_entry [] h = absurd (omega (arith, h))
one_entry (z ∷ []) h = refl
one_entry (z ∷ y ∷ zs) h = absurd (omega (arith, h))

heads_differ : (row : List ℤ) (rows : List (List ℤ)) → row ≡ head row ∷ [] → AreSingle rows → AllByRecursion (λ other. slice_cmp int_cmp row other ≡ Less) rows → AllByRecursion (λ y. int_eq (head row) y ≡ false) (map head rows)
heads_differ row [] one single below = tt
heads_differ row (other ∷ rows) one single (less, below) = (
  false_from_ne_true (int_eq (head row) (head other)) (λ e. same_row (one ∙ ap (λ (z : ℤ). z ∷ []) ((Decides-int_eq (head row) (head other)).0 e) ∙ sym (single.single other (has_first other rows other refl)))),
  heads_differ row rows one (record { single = λ r has. single.single r (has_later other rows r has) }) below,
)
  where
    not_less : Equal ≡ Less → ⊥
    not_less e = (cc)

    same_row : row ≡ other → ⊥
    same_row same = not_less (sym (tied_itself rows_total row) ∙ subst (λ (r : List ℤ). slice_cmp int_cmp row r ≡ Less) (sym same) less)

heads_distinct : (rows : List (List ℤ)) → IsStrictlySortedBy (slice_cmp int_cmp) rows → AreSingle rows → IsDistinct int_eq (map head rows)
heads_distinct [] sorted single = distinct_none
heads_distinct (row ∷ rows) sorted single =
    let rest : AreSingle rows = record { single = λ r has. single.single r (has_later row rows r has) } in
    IsDistinct-cons int_eq (head row) (map head rows)
    (heads_differ row rows (single.single row (has_first row rows row refl)) rest (sorted_head (slice_cmp int_cmp) row rows sorted))
    (heads_distinct rows (sorted_tail (slice_cmp int_cmp) row rows sorted) rest)

values_distinct : (xs : List ℤ) → IsDomain xs → IsDistinct int_eq xs
values_distinct xs domain = IsDistinct-from_AllPairs Decides-int_eq xs (λ i j d lt h same. let less : slice_index_or xs i d <ℤ slice_index_or xs j d = domain.rising i j d lt h in omega (arith, ints, less, same))

module _ (box : List (List ℤ)) (x : Term) (rows : List (List ℤ)) (domain : IsDomain (term_values box x)) (over : AreRowsOver box (x ∷ []) rows) where
  all_single : AreSingle rows
  all_single = record { single = λ row has. one_entry row (over.width row has) }

  head_within : (z : ℤ) → Contains (map head rows) z → Contains (term_values box x) z
  head_within z has =
      let (row, among, is) = map_from head rows z has in
      let e = subst (λ (r : List ℤ). is_possible box (x ∷ []) r ≡ true) (all_single.single row among) (over.within row among) in
      subst (λ (y : ℤ). Contains (term_values box x) y) is ((term_has_is box x (head row)).0 ((and_both (term_has box (head row) x) true).0 e).0)

  pub row_of : (z : ℤ) → Contains (map head rows) z → Contains rows (z ∷ [])
  row_of z has =
      let (row, among, is) = map_from head rows z has in
      subst (λ (r : List ℤ). Contains rows r) (all_single.single row among ∙ ap (λ (y : ℤ). y ∷ []) is) among

  has_head : (z : ℤ) → (list_any (λ row. int_eq z (head row)) rows ≡ true) ↔ Contains (map head rows) z
  has_head z = (
    (λ e. let (k, row, h, at, same) = Any-from_list_any (λ row. int_eq z (head row)) rows e in
        subst (λ (y : ℤ). Contains (map head rows) y) (sym ((Decides-int_eq z (head row)).0 same)) (map_has head rows row (k, h, at))),
    (λ has. let (row, (k, h, at), is) = map_from head rows z has in
        list_any-from_Any (λ row. int_eq z (head row)) rows (k, row, h, at, (Decides-int_eq z (head row)).1 (sym is))),
  )

  -- the one column is full exactly where each of its values is the head of a row
  pub full_has : (is_full box (x ∷ []) rows ≡ true) ↔ ((z : ℤ) → Contains (term_values box x) z → Contains (map head rows) z)
  full_has =
      let P = λ (z : ℤ). Contains (map head rows) z in
      let all = all_test (λ z. list_any (λ row. int_eq z (head row)) rows) P has_head (term_values box x) in (
        (λ e z has. All-contains P (term_values box x) z (all.0 e) has),
        (λ each. all.1 (All-weaker (Contains (term_values box x)) P each (term_values box x) (All-contains_itself (term_values box x)))),
      )

  pub full_count : (n m : ℕ) → n ≡ length rows → m ≡ length (term_values box x) → (n == m) ≡ is_full box (x ∷ []) rows
  full_count n m rows_are values_are =
      let distinct = heads_distinct rows over.rising all_single in
      let count = length-map rows head in
      alike (n == m) (is_full box (x ∷ []) rows)
      (λ e. let same : n ≡ m = (Decides-eqb n m).0 e in
      full_has.1 (λ z has. filled (map head rows) (term_values box x) z distinct head_within (omega (arith, same, count, rows_are, values_are)) has (list_any (int_eq z) (map head rows)) refl))
      (λ e.
      let fewer = pigeons (map head rows) (term_values box x) distinct head_within in
      let more = pigeons (term_values box x) (map head rows) (values_distinct (term_values box x) domain) (full_has.0 e) in
      (Decides-eqb n m).1 (omega (arith, fewer, more, count, rows_are, values_are)))

pub full_single : (box : List (List ℤ)) (members : List Term) (rows : List (List ℤ)) (d : Term) → length members ≡ 1 → IsDomain (term_values box (slice_index_or members 0 d)) → AreRowsOver box members rows
    → (n m : ℕ) → n ≡ length rows → m ≡ length (term_values box (slice_index_or members 0 d)) → (n == m) ≡ is_full box members rows
full_single box [] rows d one domain over n m rows_are values_are = absurd (omega (arith, one))
full_single box (x ∷ []) rows d one domain over n m rows_are values_are = full_count box x rows domain over n m rows_are values_are
full_single box (x ∷ y ∷ ys) rows d one domain over n m rows_are values_are = absurd (omega (arith, one))
