-- What is left of a table holds exactly where the table does, names open variables alone, and keeps the limits.
use Rattle.std.proofs.Common.{◌≡◌, ℕ, zero, suc, ◌+◌, ◌-◌, ◌*◌, ◌/◌, ◌<◌, ◌≤◌, List, [], ◌∷◌, length, take, drop, map, refl, sym, ap, subst, ◌∙◌, arith, ℤ, pos, Bool, true, false, inl, inr}
use Rattle.std.specs.Prelude.{All, Contains, ◌↔◌, not, filter, if◌then◌else◌, slice_index_or}
use Rattle.std.specs.Ordering.{int_cmp}
use Rattle.std.specs.Cmp.Lexicographic.{slice_cmp}
use Rattle.std.specs.List.{flat_map}
use Rattle.std.proofs.Math.Nat.{mul-le-mul, div-mul-le_self, mul-div_left}
use Rattle.std.proofs.Math.Seq.{take-append_seam, drop-append-add}
use Rattle.std.proofs.lemmas.Bool.{false≢true, cases_lt}
use Rattle.std.proofs.lemmas.Int.{ints}
use Rattle.std.proofs.lemmas.List.{length-append, length-map}
use Rattle.std.proofs.lemmas.List.Elements.{All-nil, All-cons, All-append, All-head, All-tail, All-take, All-drop, Contains-append_left, Contains-append_right}
use Rattle.std.proofs.lemmas.List.Filters.{length-filter_both}
use Rattle.fzn_model.specs.declared.term.Term.{Term}
use Rattle.fzn_model.specs.declared.con.Con.{Con}
use Rattle.fzn_model.specs.declared.con.Con.TheVariants as con
use Rattle.fzn_model.specs.Meaning.{val, Holds, IsRow, HasRow}
use Rattle.fzn_model.specs.Limits.{IsValue, TermIn, RowsInLimits}
use Rattle.fzn_model.specs.Boxes.{IsBox, InBox}
use Rattle.fzn_model.specs.Bounds.{is_open}
use Rattle.fzn_model.specs.Booleans.{FitsBox}
use Rattle.rest_basic.specs.Forms.{open_terms, empty_clause, term_values}
use Rattle.rest_basic.specs.Equivalence.{FormHolds, NamesOpen}
use Rattle.rest_basic.specs.declared.reduced.Reduced.{Reduced}
use Rattle.rest_basic.specs.declared.reduced.Reduced.TheVariants as reduced
use Rattle.fzn_model.proofs.Domains.{between}
use Rattle.rest_basic.proofs.TermsInBox.{value_among, shut_value}
use Rattle.rest_basic.proofs.Values.{domain_of, low_is_first, high_is_last}
use Rattle.rest_forms.specs.Forms.{term_has, is_possible, open_entries, row_at, rows_below, rows_possible, rows_left, is_full, are_some, table_form}
use Rattle.rest_forms.specs.Rows.{AreRowsOver}
use Rattle.rest_forms.proofs.ValueTests.{and_both, term_has_is}
use Rattle.rest_basic.proofs.ListMembers.{has_first, has_later, has_no, filter_has, map_has}
use Rattle.rest_forms.proofs.OpenAndFixed.{fewer}
use Rattle.rest_forms.proofs.RisingLists.{rising_count, rows_have}
use Rattle.rest_forms.proofs.FullTables.{row_wide, below_at, below_wide, left_from, left_over, row_of, full_has}
use Rattle.rest_basic.proofs.Substituting.{FormIsOpen, FormIsFit, never_holds, one_open, always_open, never_open, terms_left, always_fine, never_fine, open_in}

-- ---- a row of values
abbrev values : List Term → List ℤ → List ℤ
values ts θ = map (λ t. val t θ) ts

row_values : (xs : List Term) (row : List ℤ) (θ : List ℤ) → length row ≡ length xs → IsRow xs row θ → row ≡ values xs θ
unfolding IsRow
row_values [] [] θ same is = refl
row_values [] (z ∷ zs) θ same is = absurd (omega (arith, same))
row_values (x ∷ xs) [] θ same is = absurd (omega (arith, same))
row_values (x ∷ xs) (z ∷ zs) θ same is =
    let first : z ≡ val x θ = is zero x (omega arith) in
    let rest : zs ≡ values xs θ = row_values xs zs θ (omega (arith, same)) (λ j d h. is (suc j) d (omega (arith, h))) in
    (cc)

values_row : (xs : List Term) (θ : List ℤ) → IsRow xs (values xs θ) θ
unfolding IsRow
values_row [] θ = λ j d h. absurd (omega (arith, h))
values_row (x ∷ xs) θ = by_place (values_row xs θ)
  where
    by_place : ((j : ℕ) (d : Term) → j < length xs → slice_index_or (values xs θ) j (pos 0) ≡ val (slice_index_or xs j d) θ) → (j : ℕ) (d : Term) → j < length (x ∷ xs) → slice_index_or (values (x ∷ xs) θ) j (pos 0) ≡ val (slice_index_or (x ∷ xs) j d) θ
    by_place rest zero d h = refl
    by_place rest (suc j) d h = rest j d (omega (arith, h))

-- the rows below one, by place
at_below : (rows : List ℤ) (w k j : ℕ) → j < k → Contains (rows_below rows w k) (row_at rows w j)
at_below rows w zero j h = absurd (omega (arith, h))
at_below rows w (suc k) j h = elim (cases_lt j k) [
  | inl before ↦ Contains-append_left (rows_below rows w k) (row_at rows w k ∷ []) (row_at rows w j) (at_below rows w k j before)
  | inr past ↦
      let last : j ≡ k = omega (arith, h, past) in
      Contains-append_right (rows_below rows w k) (row_at rows w k ∷ []) (row_at rows w j) (has_first (row_at rows w k) [] (row_at rows w j) (ap (λ i. row_at rows w i) (sym last)))
]

-- a table has the row of the values exactly where that is one of its rows
has_row : (xs : List Term) (rows : List ℤ) (θ : List ℤ) → HasRow xs rows θ ↔ Contains (rows_below rows (length xs) (length rows / length xs)) (values xs θ)
unfolding HasRow
has_row xs rows θ = (
  (λ (k, h, is). subst (λ (r : List ℤ). Contains (rows_below rows (length xs) (length rows / length xs)) r) (row_values xs (row_at rows (length xs) k) θ (row_wide rows (length xs) k h) is) (at_below rows (length xs) (length rows / length xs) k h)),
  (λ has. let (k, h, is) = below_at rows (length xs) (length rows / length xs) (values xs θ) has in
      (k, h, subst (λ (r : List ℤ). IsRow xs r θ) (sym is) (values_row xs θ))),
)

-- ---- the open columns
values_possible : (box : List (List ℤ)) (xs : List Term) (θ : List ℤ) → InBox box θ → All (TermIn (length box)) xs → is_possible box xs (values xs θ) ≡ true
values_possible box [] θ lies inside = refl
values_possible box (x ∷ xs) θ lies inside =
    (and_both (term_has box (val x θ) x) (is_possible box xs (values xs θ))).1
    ((term_has_is box x (val x θ)).1 (value_among box x θ lies (All-head (TermIn (length box)) x xs inside)), values_possible box xs θ lies (All-tail (TermIn (length box)) x xs inside))

values_open : (box : List (List ℤ)) (xs : List Term) (θ : List ℤ) → open_entries box xs (values xs θ) ≡ values (open_terms box xs) θ
unfolding open_terms
values_open box [] θ = refl
values_open box (x ∷ xs) θ = by_test (is_open box x) refl (values_open box xs θ)
  where
    by_test : (o : Bool) → is_open box x ≡ o → open_entries box xs (values xs θ) ≡ values (filter (is_open box) xs) θ → open_entries box (x ∷ xs) (values (x ∷ xs) θ) ≡ values (filter (is_open box) (x ∷ xs)) θ
    by_test true e rest = rw e (ap (λ (zs : List ℤ). val x θ ∷ zs) rest)
    by_test false e rest = rw e rest

-- a fixed term can have its one value alone
fixed_entry : (box : List (List ℤ)) (x : Term) (z : ℤ) (θ : List ℤ) → IsBox box → InBox box θ → TermIn (length box) x → is_open box x ≡ false → term_has box z x ≡ true → z ≡ val x θ
fixed_entry box x z θ well_formed lies inside shut has =
    let one = shut_value box x θ well_formed lies inside shut in
    let ends = between (term_values box x) z (domain_of box x well_formed inside) ((term_has_is box x z).0 has) in
    let first = low_is_first box x in
    let last = high_is_last box x in
    omega (arith, ints, one, ends.0, ends.1, first, last, shut)

-- a possible row whose open entries are the values is the row of the values
same_row : (box : List (List ℤ)) (xs : List Term) (row : List ℤ) (θ : List ℤ) → IsBox box → InBox box θ → All (TermIn (length box)) xs → length row ≡ length xs → is_possible box xs row ≡ true → open_entries box xs row ≡ values (open_terms box xs) θ → row ≡ values xs θ
unfolding open_terms
same_row box [] [] θ well_formed lies inside same e is = refl
same_row box [] (z ∷ zs) θ well_formed lies inside same e is = absurd (omega (arith, same))
same_row box (x ∷ xs) [] θ well_formed lies inside same e is = absurd (omega (arith, same))
same_row box (x ∷ xs) (z ∷ zs) θ well_formed lies inside same e is =
    let both = (and_both (term_has box z x) (is_possible box xs zs)).0 e in
    let rest = same_row box xs zs θ well_formed lies (All-tail (TermIn (length box)) x xs inside) (omega (arith, same)) both.1 in
    by_test (is_open box x) refl both.0 rest is
  where
    by_test : (o : Bool) → is_open box x ≡ o → term_has box z x ≡ true → (open_entries box xs zs ≡ values (filter (is_open box) xs) θ → zs ≡ values xs θ) → open_entries box (x ∷ xs) (z ∷ zs) ≡ values (filter (is_open box) (x ∷ xs)) θ → (z ∷ zs) ≡ values (x ∷ xs) θ
    by_test true f has rest same_entries =
        let whole : z ∷ open_entries box xs zs ≡ val x θ ∷ values (filter (is_open box) xs) θ = rw f at same_entries in
        let first : z ≡ val x θ = (cc) in
        let later : open_entries box xs zs ≡ values (filter (is_open box) xs) θ = (cc) in
        let others : zs ≡ values xs θ = rest later in
        (cc)
    by_test false f has rest same_entries =
        let first : z ≡ val x θ = fixed_entry box x z θ well_formed lies (All-head (TermIn (length box)) x xs inside) f has in
        let others : zs ≡ values xs θ = rest (rw f at same_entries) in
        (cc)

to_left : (box : List (List ℤ)) (xs : List Term) (rows whole : List ℤ) → Contains (rows_below rows (length xs) (length rows / length xs)) whole → is_possible box xs whole ≡ true → Contains (rows_left box xs rows) (open_entries box xs whole)
unfolding rows_left rows_possible
to_left box xs rows whole has e =
    let below = rows_below rows (length xs) (length rows / length xs) in
    let left = filter (is_possible box xs) below in
    (rows_have (map (open_entries box xs) left) (open_entries box xs whole)).1 (map_has (open_entries box xs) left whole (filter_has (is_possible box xs) below whole has e))

-- the table has the row of the values exactly where the open columns have what is left of it
left_has : (box : List (List ℤ)) (xs : List Term) (rows : List ℤ) (θ : List ℤ) → IsBox box → InBox box θ → All (TermIn (length box)) xs → Contains (rows_left box xs rows) (values (open_terms box xs) θ) ↔ HasRow xs rows θ
left_has box xs rows θ well_formed lies inside = (
  (λ has. let (whole, among, e, is) = left_from box xs rows (values (open_terms box xs) θ) has in
      (has_row xs rows θ).1 (subst (λ (r : List ℤ). Contains (rows_below rows (length xs) (length rows / length xs)) r) (same_row box xs whole θ well_formed lies inside (below_wide rows (length xs) whole among) e is) among)),
  (λ has. subst (λ (r : List ℤ). Contains (rows_left box xs rows) r) (values_open box xs θ) (to_left box xs rows (values xs θ) ((has_row xs rows θ).0 has) (values_possible box xs θ lies inside))),
)

-- ---- rows of one width, one after the other
abbrev flat : List (List ℤ) → List ℤ
flat rows = flat_map (λ row. row) rows

record AreWide (w : ℕ) (rows : List (List ℤ)) : Type 0 where
  wide : (row : List ℤ) → Contains rows row → length row ≡ w

later_wide : (w : ℕ) (row : List ℤ) (rows : List (List ℤ)) → AreWide w (row ∷ rows) → AreWide w rows
later_wide w row rows all = record { wide = λ r has. all.wide r (has_later row rows r has) }

flat_length : (w : ℕ) (rows : List (List ℤ)) → AreWide w rows → length (flat rows) ≡ length rows * w
flat_length w [] all = omega arith
flat_length w (row ∷ rows) all =
    let here = all.wide row (has_first row rows row refl) in
    let rest = flat_length w rows (later_wide w row rows all) in
    let both = length-append row (flat rows) in
    let next : suc (length rows) * w ≡ w + length rows * w = omega arith in
    omega (arith, here, rest, both, next)

piece : (w k : ℕ) (rows : List (List ℤ)) (d : List ℤ) → AreWide w rows → k < length rows → take w (drop (k * w) (flat rows)) ≡ slice_index_or rows k d
piece w k [] d all h = absurd (omega (arith, h))
piece w zero (row ∷ rows) d all h =
    let here : w ≡ length row = sym (all.wide row (has_first row rows row refl)) in
    let none : zero * w ≡ zero = omega arith in
    rw (none, here) (take-append_seam row (flat rows))
piece w (suc k) (row ∷ rows) d all h =
    let here = all.wide row (has_first row rows row refl) in
    let next : suc k * w ≡ length row + k * w = omega (arith, here) in
    rw (next, drop-append-add row (flat rows) (k * w)) (piece w k rows d (later_wide w row rows all) (omega (arith, h)))

row_piece : (w k : ℕ) (rows : List (List ℤ)) (d : List ℤ) → AreWide w rows → k < length rows → row_at (flat rows) w k ≡ slice_index_or rows k d
row_piece w k rows d all h =
    let span : k * w + w - k * w ≡ w = omega arith in
    rw span (piece w k rows d all h)

flat_count : (w : ℕ) (rows : List (List ℤ)) → AreWide w rows → 0 < w → length (flat rows) / w ≡ length rows
flat_count w rows all some = rw (flat_length w rows all) (mul-div_left (length rows) some)

-- a table of such rows has the row of the values exactly where it is one of them
flat_has : (ts : List Term) (rows : List (List ℤ)) (θ : List ℤ) → AreWide (length ts) rows → 0 < length ts → HasRow ts (flat rows) θ ↔ Contains rows (values ts θ)
flat_has ts rows θ all some =
    let both = has_row ts (flat rows) θ in
    let count = flat_count (length ts) rows all some in (
      (λ h. let (k, less, is) = below_at (flat rows) (length ts) (length (flat rows) / length ts) (values ts θ) (both.0 h) in
          let inside : k < length rows = omega (arith, less, count) in
          (k, inside, sym (row_piece (length ts) k rows (values ts θ) all inside) ∙ is)),
      (λ (k, inside, is).
          both.1 (subst (λ (r : List ℤ). Contains (rows_below (flat rows) (length ts) (length (flat rows) / length ts)) r) (row_piece (length ts) k rows (values ts θ) all inside ∙ is) (at_below (flat rows) (length ts) (length (flat rows) / length ts) k (omega (arith, inside, count))))),
    )

-- ---- the form
none_some : (rows : List (List ℤ)) (row : List ℤ) → are_some rows ≡ false → Contains rows row → ⊥
none_some [] row e has = has_no row has
none_some (r ∷ rows) row e has = false≢true (sym e)

empty_row : (row : List ℤ) → length row ≡ 0 → row ≡ []
empty_row [] h = refl
empty_row (z ∷ zs) h = absurd (omega (arith, h))

some_has : (rows : List (List ℤ)) → are_some rows ≡ true → ((row : List ℤ) → Contains rows row → length row ≡ 0) → Contains rows []
some_has [] e wide = absurd (false≢true e)
some_has (row ∷ rows) e wide = has_first row rows [] (empty_row row (wide row (has_first row rows row refl)))

-- where they are full, the rows have that of the values
full_holds : (box : List (List ℤ)) (ts : List Term) (rows : List (List ℤ)) (θ : List ℤ) → IsBox box → InBox box θ → All (TermIn (length box)) ts → AreRowsOver box ts rows → are_some rows ≡ true → is_full box ts rows ≡ true → Contains rows (values ts θ)
full_holds box [] rows θ well_formed lies inside over some full = some_has rows some over.width
full_holds box (x ∷ []) rows θ well_formed lies inside over some full =
    let here = All-head (TermIn (length box)) x [] inside in
    let domain = domain_of box x well_formed here in
    row_of box x rows domain over (val x θ) ((full_has box x rows domain over).0 full (val x θ) (value_among box x θ lies here))
full_holds box (x ∷ y ∷ ys) rows θ well_formed lies inside over some full = absurd (false≢true full)

not_full : (box : List (List ℤ)) (ts : List Term) (rows : List (List ℤ)) → is_full box ts rows ≡ false → 0 < length ts
not_full box [] rows e = absurd (false≢true (sym e))
not_full box (x ∷ ts) rows e = omega arith

table_by : (box : List (List ℤ)) (xs : List Term) (rows : List ℤ) (θ : List ℤ) → IsBox box → InBox box θ → All (TermIn (length box)) xs
    → (a b : Bool) → are_some (rows_left box xs rows) ≡ a → is_full box (open_terms box xs) (rows_left box xs rows) ≡ b
    → FormHolds (if not a then reduced.Is empty_clause else (if b then reduced.Holds else reduced.Is (con.Table (open_terms box xs) (flat (rows_left box xs rows))))) θ ↔ HasRow xs rows θ
table_by box xs rows θ well_formed lies inside false b e f = ((λ h. absurd (never_holds θ h)), (λ h. absurd (none_some (rows_left box xs rows) (values (open_terms box xs) θ) e ((left_has box xs rows θ well_formed lies inside).1 h))))
table_by box xs rows θ well_formed lies inside true true e f =
    ((λ _. (left_has box xs rows θ well_formed lies inside).0 (full_holds box (open_terms box xs) (rows_left box xs rows) θ well_formed lies (open_in box xs inside) (left_over box xs rows) e f)), (λ _. tt))
table_by box xs rows θ well_formed lies inside true false e f =
    let left = left_has box xs rows θ well_formed lies inside in
    let wide : AreWide (length (open_terms box xs)) (rows_left box xs rows) = record { wide = (left_over box xs rows).width } in
    let said = flat_has (open_terms box xs) (rows_left box xs rows) θ wide (not_full box (open_terms box xs) (rows_left box xs rows) f) in
    ((λ h. left.0 (said.0 h)), (λ h. said.1 (left.1 h)))

pub table_law : (box : List (List ℤ)) (xs : List Term) (rows : List ℤ) (θ : List ℤ) → IsBox box → InBox box θ → All (TermIn (length box)) xs → FormHolds (table_form box xs rows) θ ↔ Holds (con.Table xs rows) θ
unfolding table_form
table_law box xs rows θ well_formed lies inside = table_by box xs rows θ well_formed lies inside (are_some (rows_left box xs rows)) (is_full box (open_terms box xs) (rows_left box xs rows)) refl refl

-- ---- what is named
table_names : (box : List (List ℤ)) (xs : List Term) (rows : List ℤ) → FormIsOpen box (table_form box xs rows)
unfolding table_form
table_names box xs rows =
    let left : FormIsOpen box (reduced.Is (con.Table (open_terms box xs) (flat (rows_left box xs rows)))) = record { over = terms_left box xs } in
    one_open box (not (are_some (rows_left box xs rows))) (never_open box) (one_open box (is_full box (open_terms box xs) (rows_left box xs rows)) (always_open box) left)

pub table_open : (box : List (List ℤ)) (xs : List Term) (rows : List ℤ) → NamesOpen box (table_form box xs rows)
table_open box xs rows = (table_names box xs rows).over

-- ---- what is kept
below_count : (rows : List ℤ) (w k : ℕ) → length (rows_below rows w k) ≡ k
below_count rows w zero = refl
below_count rows w (suc k) = omega (arith, length-append (rows_below rows w k) (row_at rows w k ∷ []), below_count rows w k)

left_count : (box : List (List ℤ)) (xs : List Term) (rows : List ℤ) → length (rows_left box xs rows) ≤ length rows / length xs
unfolding rows_left rows_possible
left_count box xs rows =
    let below = rows_below rows (length xs) (length rows / length xs) in
    let left = filter (is_possible box xs) below in
    omega (arith, rising_count (slice_cmp int_cmp) (map (open_entries box xs) left), length-map left (open_entries box xs), length-filter_both (is_possible box xs) (λ r. not (is_possible box xs r)) (λ r. refl) below, below_count rows (length xs) (length rows / length xs))

entries_values : (box : List (List ℤ)) (xs : List Term) (row : List ℤ) → All IsValue row → All IsValue (open_entries box xs row)
entries_values box [] row each = All-nil IsValue
entries_values box (x ∷ xs) [] each = All-nil IsValue
entries_values box (x ∷ xs) (z ∷ zs) each = by_test (is_open box x) refl (All-head IsValue z zs each) (entries_values box xs zs (All-tail IsValue z zs each))
  where
    by_test : (o : Bool) → is_open box x ≡ o → IsValue z → All IsValue (open_entries box xs zs) → All IsValue (open_entries box (x ∷ xs) (z ∷ zs))
    by_test true e here rest = rw e (All-cons IsValue z (open_entries box xs zs) here rest)
    by_test false e here rest = rw e rest

left_values : (box : List (List ℤ)) (xs : List Term) (rows : List ℤ) → All IsValue rows → (row : List ℤ) → Contains (rows_left box xs rows) row → All IsValue row
left_values box xs rows each row has =
    let w = length xs in
    let (whole, among, e, is) = left_from box xs rows row has in
    let (j, h, at) = below_at rows w (length rows / w) whole among in
    let taken : All IsValue (row_at rows w j) = All-take IsValue (j * w + w - j * w) (drop (j * w) rows) (All-drop IsValue (j * w) rows each) in
    subst (λ (r : List ℤ). All IsValue r) is (entries_values box xs whole (subst (λ (r : List ℤ). All IsValue r) at taken))

flat_values : (rows : List (List ℤ)) → ((row : List ℤ) → Contains rows row → All IsValue row) → All IsValue (flat rows)
flat_values [] each = All-nil IsValue
flat_values (row ∷ rows) each = All-append IsValue row (flat rows) (each row (has_first row rows row refl)) (flat_values rows (λ r has. each r (has_later row rows r has)))

few : (a n w v : ℕ) → a ≤ n / w → v ≤ w → a * v ≤ n
few a n w v h k =
    let most : a * v ≤ n / w * w = mul-le-mul h k in
    omega (arith, most, div-mul-le_self n w)

table_fine : (box : List (List ℤ)) (xs : List Term) (rows : List ℤ) → IsBox box → RowsInLimits (length box) xs rows → (a b : Bool) → is_full box (open_terms box xs) (rows_left box xs rows) ≡ b
    → FormIsFit box (if not a then reduced.Is empty_clause else (if b then reduced.Holds else reduced.Is (con.Table (open_terms box xs) (flat (rows_left box xs rows)))))
table_fine box xs rows well_formed keeps false b e = never_fine box
table_fine box xs rows well_formed keeps true true e = always_fine box
table_fine box xs rows well_formed keeps true false e =
    let ts = open_terms box xs in
    let left = rows_left box xs rows in
    let wide : AreWide (length ts) left = record { wide = (left_over box xs rows).width } in
    let long = flat_length (length ts) left wide in
    let narrow : length ts ≤ length xs = omega (arith, fewer box xs) in
    record {
      fine = record {
        kept = record {
          columns = record {
            some = not_full box ts left e;
            terms = record { count = omega (arith, narrow, keeps.columns.terms.count); terms = open_in box xs keeps.columns.terms.terms };
          };
          count = omega (arith, long, few (length left) (length rows) (length xs) (length ts) (left_count box xs rows) narrow, keeps.count);
          whole = (length left, long);
          values = flat_values left (left_values box xs rows keeps.values);
        };
        booleans = tt;
      };
    }

pub table_suits : (box : List (List ℤ)) (xs : List Term) (rows : List ℤ) (d : Con) → IsBox box → FitsBox box (con.Table xs rows) → table_form box xs rows ≡ reduced.Is d → FitsBox box d
unfolding table_form
table_suits box xs rows d well_formed fits_box is =
    (subst (λ (f : Reduced). FormIsFit box f) is (table_fine box xs rows well_formed fits_box.kept (are_some (rows_left box xs rows)) (is_full box (open_terms box xs) (rows_left box xs rows)) refl)).fine
