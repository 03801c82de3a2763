-- What is printed for an answer (FlatZinc specification, "Output": a line for each output, `----------` after a solution,
-- `==========` after a complete search, `=====UNSATISFIABLE=====`, `=====UNKNOWN=====`). This project's own are the line
-- that says why a problem is undecided, one solution without `==========` where any will do, and the spaces within arrays.
use Rattle.std.specs.Prelude.{ℕ, List, [], ◌∷◌, ◌++◌, Bool, true, false, if◌then◌else◌, ℤ, pos, codes, decimal, length, slice_index_or, Some, None}
use Rattle.std.specs.Fmt.{signed_decimal}
use Rattle.std.specs.List.{flat_map, join_by}
use Rattle.std.specs.Ordering.{int_eq}
use Rattle.fzn_model.specs.Parts.{Parts}
use Rattle.fzn_model.specs.Meaning.{val}
use Rattle.fzn_model.specs.declared.out.Out.{Out}
use Rattle.fzn_model.specs.declared.term.Term.{Term}
use Rattle.fzn_model.specs.declared.term.Term.TheVariants as term
use Rattle.incumbent_board.specs.declared.answer.Answer.{Answer}
use Rattle.incumbent_board.specs.declared.answer.Answer.TheVariants as answer
use Rattle.incumbent_board.specs.declared.why.Why.{Why}
use Rattle.incumbent_board.specs.declared.why.Why.TheVariants as why

-- a number in decimal; a Boolean is `true` exactly where it is 1
unfoldable pub value_text : Bool → ℤ → List ℕ
value_text false z = signed_decimal z
value_text true z = if int_eq z (pos 1) then codes "true" else codes "false"

-- the value of a term under an assignment
unfoldable pub term_text : Bool → List ℤ → Term → List ℕ
term_text truth θ t = value_text truth (val t θ)

-- the values of the terms, with `, ` between two
unfoldable pub values_text : Bool → List ℤ → List Term → List ℕ
values_text truth θ ts = join_by (term_text truth θ) (codes ", ") ts

-- a value after the one before it
unfoldable pub next_text : Bool → List ℤ → Term → List ℕ
next_text truth θ t = codes ", " ++ term_text truth θ t

-- an index range
unfoldable pub range_text : ℤ → ℤ → List ℕ
range_text low high = signed_decimal low ++ codes ".." ++ signed_decimal high

-- an index range as an argument before the values
unfoldable pub range_argument : ℤ × ℤ → List ℕ
range_argument range = range_text range.0 range.1 ++ codes ", "

-- the index ranges of the dimensions, each as an argument
unfoldable pub ranges_text : List (ℤ × ℤ) → List ℕ
ranges_text dims = flat_map range_argument dims

-- `array2d(` and the index ranges, where there are two of them
unfoldable pub array_head : List (ℤ × ℤ) → List ℕ
array_head dims = codes "array" ++ decimal (length dims) ++ codes "d(" ++ ranges_text dims

-- an array, row after row
unfoldable pub array_text : Bool → List ℤ → List (ℤ × ℤ) → List Term → List ℕ
array_text truth θ dims ts = array_head dims ++ codes "[" ++ values_text truth θ ts ++ codes "])"

-- the value of the one term where there are no dimensions, and else the array
unfoldable pub output_text : Bool → List ℤ → List (ℤ × ℤ) → List Term → List ℕ
output_text truth θ [] ts = term_text truth θ (slice_index_or ts 0 (term.Const (pos 0)))
output_text truth θ (d ∷ ds) ts = array_text truth θ (d ∷ ds) ts

-- a name, and what it is
unfoldable pub line_text : List ℕ → Bool → List ℤ → List (ℤ × ℤ) → List Term → List ℕ
line_text name truth θ dims ts = name ++ codes " = " ++ output_text truth θ dims ts ++ codes ";\n"

-- the line of an output
unfoldable pub line : List ℤ → Out → List ℕ
line θ o = line_text o.name o.truth θ o.dims o.terms

-- the lines of all outputs, in order
unfoldable pub lines : List Out → List ℤ → List ℕ
lines os θ = flat_map (line θ) os

-- the lines of a solution, and the line that ends it
unfoldable pub solution_text : List Out → List ℤ → List ℕ
solution_text os θ = lines os θ ++ codes "----------\n"

-- why a problem is undecided
unfoldable pub reason_text : Why → List ℕ
reason_text why.Budget = codes "% undecided: node budget\n"
reason_text why.Memory = codes "% undecided: memory\n"

-- What is printed for an answer.
abbrev pub shows : Parts → Answer → List ℕ
shows m answer.Unsat = codes "=====UNSATISFIABLE=====\n"
shows m (answer.Sat θ) = solution_text m.outs θ
shows m (answer.Best θ) = solution_text m.outs θ ++ codes "==========\n"
shows m (answer.Undecided None why) = codes "=====UNKNOWN=====\n" ++ reason_text why
shows m (answer.Undecided (Some θ) why) = solution_text m.outs θ ++ reason_text why
