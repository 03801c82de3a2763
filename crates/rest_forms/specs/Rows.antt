-- Rows over some columns.
use Rattle.std.specs.Prelude.{◌≡◌, true, List, ℤ, length, Contains}
use Rattle.std.specs.Ordering.{int_cmp}
use Rattle.std.specs.Cmp.Lexicographic.{slice_cmp}
use Rattle.std.specs.List.Sorted.{IsStrictlySortedBy}
use Rattle.fzn_model.specs.declared.term.Term.{Term}
use Rattle.rest_forms.specs.Forms.{is_possible}

-- rows that rise, one entry for each column, each a value of it
pub record AreRowsOver (box : List (List ℤ)) (xs : List Term) (rows : List (List ℤ)) : Type 0 where
  pub rising : IsStrictlySortedBy (slice_cmp int_cmp) rows
  pub width : (row : List ℤ) → Contains rows row → length row ≡ length xs
  pub within : (row : List ℤ) → Contains rows row → is_possible box xs row ≡ true
