-- Rows of a table, column by column and row by row.
use Rattle.std.proofs.Common.{◌≡◌, ℕ, ◌+◌, ◌/◌, ◌<◌, ◌≤◌, List, [], ◌∷◌, ◌++◌, length, get_or, drop, map, refl, sym, ap, ◌∙◌, arith, ℤ, pos, Bool, true, false, cond, inl, inr, add-one, drop-cons}
use Rattle.std.specs.Prelude.{filter, if◌then◌else◌}
use Rattle.std.specs.Ordering.{int_cmp}
use Rattle.std.specs.Cmp.Lexicographic.{slice_cmp}
use Rattle.std.specs.BTreeSet.{insert_key}
use Rattle.std.proofs.lemmas.List.{append-nil, append_assoc, drop_all, map-append}
use Rattle.std.proofs.lemmas.List.Elements.{filter-append, Contains-append_cases, Contains-append_left, Contains-append_right}
use Rattle.fzn_model.specs.declared.term.Term.{Term}
use Rattle.fzn_model.specs.Bounds.{is_open}
use Rattle.rest_forms.specs.Forms.{is_possible, open_entries, row_at, rows_below, rows_possible, rising_by, rows_left}
use Rattle.rest_basic.proofs.ListMembers.{has_first, has_cases, has_no}
use Rattle.rest_forms.proofs.RisingLists.{insert_has, insert_sorted, same_members, exact_rows, rows_total, rows_sorted, rows_have}

-- ---- whether each entry is a value of its column
pub possible_all : (box : List (List ℤ)) (xs : List Term) (row : List ℤ) (k : ℕ) (all : Bool) → length xs ≤ k → is_possible box (drop k xs) (drop k row) ≡ all → true ≡ all
possible_all box xs row k all h told = let none = drop_all k xs h in rw none at told

-- ---- the entries of the open columns
entries_front : (box : List (List ℤ)) (xs : List Term) (row : List ℤ) (k : ℕ) (d : Term) (e : ℤ) (o : Bool) → is_open box (get_or xs k d) ≡ o → k < length xs → length row ≡ length xs
    → open_entries box (drop k xs) (drop k row) ≡ cond o (get_or row k e ∷ open_entries box (drop (k + 1) xs) (drop (k + 1) row)) (open_entries box (drop (k + 1) xs) (drop (k + 1) row))
entries_front box xs row k d e true is h same =
    let inside : k < length row = omega (arith, h, same) in
    rw (add-one, drop-cons xs k d h, drop-cons row k e inside, is) refl
entries_front box xs row k d e false is h same =
    let inside : k < length row = omega (arith, h, same) in
    rw (add-one, drop-cons xs k d h, drop-cons row k e inside, is) refl

pub entries_open : (box : List (List ℤ)) (xs : List Term) (row made more all : List ℤ) (k : ℕ) (d : Term) (e : ℤ) → k < length xs → length row ≡ length xs → made ++ open_entries box (drop k xs) (drop k row) ≡ all → is_open box (get_or xs k d) ≡ true → more ≡ made ++ get_or row k e ∷ []
    → more ++ open_entries box (drop (k + 1) xs) (drop (k + 1) row) ≡ all
entries_open box xs row made more all k d e h same told shows is =
    let rest = open_entries box (drop (k + 1) xs) (drop (k + 1) row) in
    let front = entries_front box xs row k d e true shows h same in
    rw is (append_assoc made (get_or row k e ∷ []) rest ∙ ap (λ (ys : List ℤ). made ++ ys) (sym front) ∙ told)

pub entries_shut : (box : List (List ℤ)) (xs : List Term) (row made all : List ℤ) (k : ℕ) (d : Term) → k < length xs → length row ≡ length xs → made ++ open_entries box (drop k xs) (drop k row) ≡ all → is_open box (get_or xs k d) ≡ false
    → made ++ open_entries box (drop (k + 1) xs) (drop (k + 1) row) ≡ all
entries_shut box xs row made all k d h same told shut =
    let front = entries_front box xs row k d (pos 0) false shut h same in
    ap (λ (ys : List ℤ). made ++ ys) (sym front) ∙ told

pub entries_all : (box : List (List ℤ)) (xs : List Term) (row made all : List ℤ) (k : ℕ) → length xs ≤ k → made ++ open_entries box (drop k xs) (drop k row) ≡ all → made ≡ all
entries_all box xs row made all k h told =
    let none = drop_all k xs h in
    sym (append-nil made) ∙ rw none at told

-- ---- the rows so far
abbrev pub left_below : List (List ℤ) → List Term → List ℤ → ℕ → List (List ℤ)
left_below box xs rows k = rising_by (slice_cmp int_cmp) (map (open_entries box xs) (filter (is_possible box xs) (rows_below rows (length xs) k)))

push_row : (ys : List (List ℤ)) (row : List ℤ) → rising_by (slice_cmp int_cmp) (ys ++ row ∷ []) ≡ insert_key (slice_cmp int_cmp) (rising_by (slice_cmp int_cmp) ys) row
push_row ys row =
    same_members (slice_cmp int_cmp) rows_total exact_rows (rising_by (slice_cmp int_cmp) (ys ++ row ∷ [])) (insert_key (slice_cmp int_cmp) (rising_by (slice_cmp int_cmp) ys) row)
    (rows_sorted (ys ++ row ∷ [])) (insert_sorted (slice_cmp int_cmp) rows_total exact_rows (rising_by (slice_cmp int_cmp) ys) row (rows_sorted ys)) (λ w.
    let all = rows_have (ys ++ row ∷ []) w in
    let some = rows_have ys w in
    let step = insert_has (slice_cmp int_cmp) rows_total exact_rows (rising_by (slice_cmp int_cmp) ys) row w in (
      (λ h. elim (Contains-append_cases ys (row ∷ []) w (all.0 h)) [
        | inl old ↦ step.1 (inr (some.1 old))
        | inr new ↦ elim (has_cases row [] w new) [ inl is ↦ step.1 (inl (sym is)) | inr none ↦ absurd (has_no w none) ]
      ]),
      (λ h. all.1 (elim (step.0 h) [
        | inl is ↦ Contains-append_right ys (row ∷ []) w (has_first row [] w (sym is))
        | inr old ↦ Contains-append_left ys (row ∷ []) w (some.0 old)
      ])),
    ))

row_by : (box : List (List ℤ)) (xs : List Term) (ys : List (List ℤ)) (row : List ℤ) (t : Bool) → is_possible box xs row ≡ t
    → (if t then insert_key (slice_cmp int_cmp) (rising_by (slice_cmp int_cmp) (map (open_entries box xs) (filter (is_possible box xs) ys))) (open_entries box xs row) else rising_by (slice_cmp int_cmp) (map (open_entries box xs) (filter (is_possible box xs) ys)))
    ≡ rising_by (slice_cmp int_cmp) (map (open_entries box xs) (filter (is_possible box xs) ys ++ cond t (row ∷ []) []))
row_by box xs ys row true e =
    let left = filter (is_possible box xs) ys in
    sym (push_row (map (open_entries box xs) left) (open_entries box xs row)) ∙ ap (λ (zs : List (List ℤ)). rising_by (slice_cmp int_cmp) zs) (sym (map-append (open_entries box xs) left (row ∷ [])))
row_by box xs ys row false e = ap (λ (zs : List (List ℤ)). rising_by (slice_cmp int_cmp) (map (open_entries box xs) zs)) (sym (append-nil (filter (is_possible box xs) ys)))

pub rows_none : (box : List (List ℤ)) (xs : List Term) (rows : List ℤ) (keys : List (List ℤ)) → keys ≡ [] → keys ≡ left_below box xs rows 0
rows_none box xs rows keys none = none

pub rows_more : (box : List (List ℤ)) (xs : List Term) (rows : List ℤ) (old new : List (List ℤ)) (k : ℕ) → old ≡ left_below box xs rows k
    → new ≡ (if is_possible box xs (row_at rows (length xs) k) then insert_key (slice_cmp int_cmp) old (open_entries box xs (row_at rows (length xs) k)) else old)
    → new ≡ left_below box xs rows (k + 1)
rows_more box xs rows old new k told is =
    let row = row_at rows (length xs) k in
    let below = rows_below rows (length xs) k in
    let possible = is_possible box xs in
    let split : filter possible (below ++ row ∷ []) ≡ filter possible below ++ cond (possible row) (row ∷ []) [] = filter-append possible below (row ∷ []) in
    rw (add-one, is, told) (row_by box xs below row (possible row) refl ∙ ap (λ (zs : List (List ℤ)). rising_by (slice_cmp int_cmp) (map (open_entries box xs) zs)) (sym split))

pub rows_all : (box : List (List ℤ)) (xs : List Term) (rows : List ℤ) (keys : List (List ℤ)) (k : ℕ) → keys ≡ left_below box xs rows k → length rows / length xs ≤ k → k ≤ length rows / length xs → keys ≡ rows_left box xs rows
unfolding rows_left rows_possible
rows_all box xs rows keys k told from to =
    let end : k ≡ length rows / length xs = omega (arith, from, to) in
    rw end at told
