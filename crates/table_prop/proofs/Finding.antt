-- The rows that are possible, and their entries in a column.
use Rattle.std.proofs.Common.{◌≡◌, ℕ, ◌+◌, ◌-◌, ◌*◌, ◌/◌, ◌<◌, ◌≤◌, List, [], ◌∷◌, ◌++◌, length, take, drop, sym, subst, ◌∙◌, arith, inl, inr}
use Rattle.std.specs.Prelude.{ℤ, pos, Contains, slice_index_or, slice_range}
use Rattle.std.proofs.lemmas.List.{get_or-take, get_or-drop, take_more, take_all}
use Rattle.std.proofs.lemmas.List.Elements.{All-push, All-weaker, Contains-append_left, Contains-push, Contains-push_cases}
use Rattle.std.proofs.lemmas.Bool.{cases_lt}
use Rattle.fzn_model.specs.declared.term.Term.{Term}
use Rattle.fzn_model.specs.Meaning.{val, IsRow, HasRow}
use Rattle.fzn_model.specs.Boxes.{InBox}
use Rattle.fzn_model.specs.Bounds.{TermHas}
use Rattle.dom_store.specs.Strength.{entry}
use Rattle.fzn_model.proofs.Terms.{val_has}
use Rattle.table_prop.specs.Rows.{IsReady, CanHaveRow, IsNumber, IsPossible, ArePossible, IsRowAt, AreChosen, IsEntry, IsAdded, AreEntries}
use Rattle.dom_store.proofs.Stepping.{Box}

-- a member of a row that is cut out of the list
pub range_entry : (rows : List ℤ) (from width j : ℕ) → j < width → slice_index_or (slice_range rows from (from + width)) j (pos 0) ≡ slice_index_or rows (from + j) (pos 0)
range_entry rows from width j h =
    let n : from + width - from ≡ width = omega arith in
    rw n (get_or-take width (drop from rows) j (pos 0) h ∙ get_or-drop from rows j (pos 0))

-- a row that the columns can have is possible
pub possible_row : (box : Box) (xs : List Term) (rows : List ℤ) (row : ℕ) → row < length rows / length xs → CanHaveRow box xs (slice_range rows (row * length xs) (row * length xs + length xs)) → IsPossible box xs rows row
unfolding CanHaveRow
possible_row box xs rows row inside can = record {
  number = record { inside = inside };
  has = λ j d h. subst (TermHas box (slice_index_or xs j d)) (range_entry rows (row * length xs) (length xs) j h) (can j d h);
}

pub possible_can : (box : Box) (xs : List Term) (rows : List ℤ) (row : ℕ) → IsPossible box xs rows row → CanHaveRow box xs (slice_range rows (row * length xs) (row * length xs + length xs))
unfolding CanHaveRow
possible_can box xs rows row is j d h = subst (TermHas box (slice_index_or xs j d)) (sym (range_entry rows (row * length xs) (length xs) j h)) (is.has j d h)

-- one row more
more_all : (P : ℕ → Type 0) (Q : ℕ → Type 0) (n : ℕ) → ((row : ℕ) → row < n → P row → Q row) → (P n → Q n) → (row : ℕ) → row < n + 1 → P row → Q row
more_all P Q n before here row h is = elim (cases_lt row n) [
  | inl less ↦ before row less is
  | inr most ↦ let same : n ≡ row = omega (arith, h, most) in subst Q same (here (subst P (sym same) is))
]

pub possible_more : (box : Box) (xs : List Term) (rows : List ℤ) (n : ℕ) (found : List ℕ) → IsPossible box xs rows n → ArePossible box xs rows n found → ArePossible box xs rows (n + 1) (found ++ n ∷ [])
possible_more box xs rows n found is before = record {
  each = All-push (IsPossible box xs rows) found n before.each is;
  all = more_all (IsPossible box xs rows) (Contains (found ++ n ∷ [])) n (λ row h has. Contains-append_left found (n ∷ []) row (before.all row h has)) (λ has. Contains-push found n);
}

pub possible_less : (box : Box) (xs : List Term) (rows : List ℤ) (n : ℕ) (found : List ℕ) → (IsPossible box xs rows n → ⊥) → ArePossible box xs rows n found → ArePossible box xs rows (n + 1) found
possible_less box xs rows n found not_ before = record {
  each = before.each;
  all = more_all (IsPossible box xs rows) (Contains found) n before.all (λ has. absurd (not_ has));
}

-- each assignment of the box with the constraint has a possible row
has_row : (box : Box) (xs : List Term) (rows : List ℤ) (found : List ℕ) → IsReady box xs → ArePossible box xs rows (length rows / length xs) found → (θ : List ℤ) → InBox box θ → HasRow xs rows θ → (row : ℕ) × Contains found row × IsRowAt xs rows row θ
unfolding HasRow IsRow IsRowAt
has_row box xs rows found ready possible θ lies (row, inside, is) =
    let at : (j : ℕ) (d : Term) → j < length xs → entry rows (length xs) row j ≡ val (slice_index_or xs j d) θ = λ j d h. sym (range_entry rows (row * length xs) (length xs) j h) ∙ is j d h in (
      row,
      possible.all row inside (record {
        number = record { inside = inside };
        has = λ j d h. subst (TermHas box (slice_index_or xs j d)) (sym (at j d h)) (val_has box (slice_index_or xs j d) θ (ready.columns j d h) lies);
      }),
      at,
    )

pub chosen_from : (box : Box) (xs : List Term) (rows : List ℤ) (found : List ℕ) → IsReady box xs → ArePossible box xs rows (length rows / length xs) found → AreChosen box xs rows found
chosen_from box xs rows found ready possible = record {
  each = All-weaker (IsPossible box xs rows) (IsNumber rows (length xs)) (λ row is. is.number) found possible.each;
  one = has_row box xs rows found ready possible;
}

-- ---- the entries in a column
pub pushed : (v : ℤ) (old new : List ℤ) → new ≡ old ++ v ∷ [] → IsAdded v old new
pushed v old new is = subst (IsAdded v old) (sym is) (record {
  has = Contains-push old v;
  keeps = λ z there. Contains-append_left old (v ∷ []) z there;
  only = λ z there. elim (Contains-push_cases old v z there) [ inl before ↦ inl before | inr same ↦ inr (sym same) ];
})

pub entries_none : (rows : List ℤ) (width column : ℕ) → AreEntries rows width column [] []
entries_none rows width column = record { each = λ v there. absurd (omega (arith, there.1)); all = λ row there. absurd (omega (arith, there.1)) }

entry_kept : (rows : List ℤ) (width column row : ℕ) (found : List ℕ) (v : ℤ) → IsEntry rows width column found v → IsEntry rows width column (found ++ row ∷ []) v
unfolding IsEntry
entry_kept rows width column row found v (at, has, is) = (at, Contains-append_left found (row ∷ []) at has, is)

entry_new : (rows : List ℤ) (width column row : ℕ) (found : List ℕ) (v : ℤ) → v ≡ entry rows width row column → IsEntry rows width column (found ++ row ∷ []) v
unfolding IsEntry
entry_new rows width column row found v same = (row, Contains-push found row, sym same)

entries_push : (rows : List ℤ) (width column row : ℕ) (found : List ℕ) (vs ws : List ℤ) → AreEntries rows width column found vs → IsAdded (entry rows width row column) vs ws → AreEntries rows width column (found ++ row ∷ []) ws
entries_push rows width column row found vs ws are added = record {
  each = λ v there. elim (added.only v there) [
    | inl before ↦ entry_kept rows width column row found v (are.each v before)
    | inr same ↦ entry_new rows width column row found v same
  ];
  all = λ at there. elim (Contains-push_cases found row at there) [
    | inl before ↦ added.keeps _ (are.all at before)
    | inr same ↦ subst (λ k. Contains ws (entry rows width k column)) same added.has
  ];
}

pub entries_more : (rows : List ℤ) (width column i : ℕ) (found : List ℕ) (vs ws : List ℤ) → i < length found → AreEntries rows width column (take i found) vs → IsAdded (entry rows width (slice_index_or found i 0) column) vs ws → AreEntries rows width column (take (i + 1) found) ws
entries_more rows width column i found vs ws h are added = rw (take_more found i 0 h) (entries_push rows width column (slice_index_or found i 0) (take i found) vs ws are added)

pub entries_all : (rows : List ℤ) (width column n : ℕ) (found : List ℕ) (vs : List ℤ) → length found ≤ n → AreEntries rows width column (take n found) vs → AreEntries rows width column found vs
entries_all rows width column n found vs far are = rw (take_all n found far) at are
