-- What the names of the table say of their arguments, a line a name, beside the table and without it (MiniZinc Handbook,
-- FlatZinc built-ins; division rounds towards zero, a divisor 0 and an index outside the list are false).
use Rattle.std.specs.Prelude.{◌≡◌, ℕ, ◌+◌, ◌%◌, ◌<◌, ◌⊎◌, ◌↔◌, List, [], ◌∷◌, Some, None, map, length, codes, if◌then◌else◌, ◌&&◌, slice_index_or, ℤ, pos, ◌+ℤ◌, ◌*ℤ◌, ◌≤ℤ◌, ◌<ℤ◌, int_le, int_lt, int_div, int_rem, unsigned_abs, Any, All, AllPairs, ⊤}
use Rattle.fzn_model.specs.declared.term.Term.{Term}
use Rattle.fzn_model.specs.declared.term.Term.TheVariants.{Const}
use Rattle.fzn_model.specs.declared.con.Con.{Con}
use Rattle.fzn_model.specs.Meaning.{val, Holds, HasRow}
use Rattle.fzn_model.specs.Sets.{IsIn}
use Rattle.fzn_builtin.specs.declared.arg.Arg.{Arg}
use Rattle.fzn_builtin.specs.declared.arg.Arg.TheVariants.{Int, Bool, Set, Ints, Bools}
use Rattle.fzn_builtin.specs.Builtins.{numbered, needs_of, shape_of, IsArgumentCount}
use Rattle.fzn_builtin.specs.Arguments.{Fits}
use Rattle.fzn_builtin.specs.Constraints.{constraint_of}

-- a bool is true, or false
abbrev pub IsTrueIn : List ℤ → Term → Type 0
IsTrueIn θ p = val p θ ≡ pos 1

abbrev pub IsFalseIn : List ℤ → Term → Type 0
IsFalseIn θ p = val p θ ≡ pos 0

abbrev pub IsBoolIn : List ℤ → Term → Type 0
IsBoolIn θ p = IsFalseIn θ p ⊎ IsTrueIn θ p

-- each bool among the arguments is true or false
abbrev pub AreBools : List Arg → List ℤ → Type 0
AreBools [] θ = ⊤
AreBools (Bool p ∷ args) θ = IsBoolIn θ p × AreBools args θ
AreBools (Bools ps ∷ args) θ = All (IsBoolIn θ) ps × AreBools args θ
AreBools (a ∷ args) θ = AreBools args θ

-- The name is in the table, the arguments fit its needs and are a whole list, and the constraint of them is there and
-- holds exactly under the assignments under which P does.
pub record Means (name : List ℕ) (args : List Arg) (P : List ℤ → Type 0) : Type 0 where
  pub number : ℕ
  pub named : numbered name ≡ Some number
  pub fits : Fits (needs_of number) args
  pub whole : IsArgumentCount number (length args)
  pub constraint : Con
  pub there : constraint_of (shape_of number) args ≡ Some constraint
  pub holds : (θ : List ℤ) → AreBools args θ → Holds constraint θ ↔ P θ

-- The name is in the table, which refuses the lengths of these arguments.
pub record Refuses (name : List ℕ) (args : List Arg) : Type 0 where
  pub number : ℕ
  pub named : numbered name ≡ Some number
  pub refused : constraint_of (shape_of number) args ≡ None

-- constants
abbrev pub consts : List ℤ → List Term
consts zs = map (λ z. Const z) zs

-- the sum of coefficient times value
abbrev pub weighted : List ℤ → List Term → List ℤ → ℤ
weighted (c ∷ cs) (x ∷ xs) θ = (c *ℤ val x θ) +ℤ weighted cs xs θ
weighted cs xs θ = pos 0

-- some term has the value of z
abbrev pub HasValueOf : List ℤ → List Term → Term → Type 0
HasValueOf θ xs z = Any (λ x. val x θ ≡ val z θ) xs

-- i counts from 1, and the member there has the value of c
abbrev pub IsMemberAt : List ℤ → Term → List Term → Term → Type 0
IsMemberAt θ i xs c = (k : ℕ) × (k < length xs) × (val i θ ≡ pos (k + 1)) × (val (slice_index_or xs k c) θ ≡ val c θ)

-- the values differ in pairs
abbrev pub AreDifferent : List ℤ → List Term → Type 0
AreDifferent θ xs = AllPairs (λ x y. val x θ ≡ val y θ → ⊥) xs

-- what the tasks of these starts, lengths and uses use at a moment
abbrev pub used_at : List ℤ → ℤ → List Term → List Term → List Term → ℤ
used_at θ t (s ∷ ss) (d ∷ ds) (r ∷ rs) = (if int_le (val s θ) t && int_lt t (val s θ +ℤ val d θ) then val r θ else pos 0) +ℤ used_at θ t ss ds rs
used_at θ t ss ds rs = pos 0

-- lengths and uses aren't negative, and at each moment the tasks use at most the capacity
abbrev pub FitsCapacity : List ℤ → List Term → List Term → List Term → Term → Type 0
FitsCapacity θ ss ds rs b = All (λ d. pos 0 ≤ℤ val d θ) ds × All (λ r. pos 0 ≤ℤ val r θ) rs × ((t : ℤ) → used_at θ t ss ds rs ≤ℤ val b θ)

pub record NamesMean : Type 0 where
  -- comparisons of two terms
  pub int_eq_means : (a b : Term) → Means (codes "int_eq") (Int a ∷ Int b ∷ []) (λ θ. val a θ ≡ val b θ)
  pub int_ne_means : (a b : Term) → Means (codes "int_ne") (Int a ∷ Int b ∷ []) (λ θ. val a θ ≡ val b θ → ⊥)
  pub int_le_means : (a b : Term) → Means (codes "int_le") (Int a ∷ Int b ∷ []) (λ θ. val a θ ≤ℤ val b θ)
  pub int_lt_means : (a b : Term) → Means (codes "int_lt") (Int a ∷ Int b ∷ []) (λ θ. val a θ <ℤ val b θ)
  pub bool_eq_means : (p q : Term) → Means (codes "bool_eq") (Bool p ∷ Bool q ∷ []) (λ θ. val p θ ≡ val q θ)
  pub bool_le_means : (p q : Term) → Means (codes "bool_le") (Bool p ∷ Bool q ∷ []) (λ θ. val p θ ≤ℤ val q θ)
  pub bool_lt_means : (p q : Term) → Means (codes "bool_lt") (Bool p ∷ Bool q ∷ []) (λ θ. val p θ <ℤ val q θ)
  pub bool2int_means : (p a : Term) → Means (codes "bool2int") (Bool p ∷ Int a ∷ []) (λ θ. val p θ ≡ val a θ)
  pub bool_not_means : (p q : Term) → Means (codes "bool_not") (Bool p ∷ Bool q ∷ []) (λ θ. val p θ ≡ val q θ → ⊥)
  pub bool_xor_means : (p q : Term) → Means (codes "bool_xor") (Bool p ∷ Bool q ∷ []) (λ θ. val p θ ≡ val q θ → ⊥)
  pub bool_xor_reif_means : (p q r : Term) → Means (codes "bool_xor") (Bool p ∷ Bool q ∷ Bool r ∷ []) (λ θ. (val p θ ≡ val q θ → ⊥) ↔ IsTrueIn θ r)
  -- linear relations
  pub int_lin_eq_means : (cs : List ℤ) (xs : List Term) (k : ℤ) → length cs ≡ length xs → Means (codes "int_lin_eq") (Ints (consts cs) ∷ Ints xs ∷ Int (Const k) ∷ []) (λ θ. weighted cs xs θ ≡ k)
  pub int_lin_le_means : (cs : List ℤ) (xs : List Term) (k : ℤ) → length cs ≡ length xs → Means (codes "int_lin_le") (Ints (consts cs) ∷ Ints xs ∷ Int (Const k) ∷ []) (λ θ. weighted cs xs θ ≤ℤ k)
  pub int_lin_ne_means : (cs : List ℤ) (xs : List Term) (k : ℤ) → length cs ≡ length xs → Means (codes "int_lin_ne") (Ints (consts cs) ∷ Ints xs ∷ Int (Const k) ∷ []) (λ θ. weighted cs xs θ ≡ k → ⊥)
  pub int_lin_eq_refuses : (cs xs : List Term) (k : Term) → (length cs ≡ length xs → ⊥) → Refuses (codes "int_lin_eq") (Ints cs ∷ Ints xs ∷ Int k ∷ [])
  pub int_lin_le_refuses : (cs xs : List Term) (k : Term) → (length cs ≡ length xs → ⊥) → Refuses (codes "int_lin_le") (Ints cs ∷ Ints xs ∷ Int k ∷ [])
  pub int_lin_ne_refuses : (cs xs : List Term) (k : Term) → (length cs ≡ length xs → ⊥) → Refuses (codes "int_lin_ne") (Ints cs ∷ Ints xs ∷ Int k ∷ [])
  -- the same, where a bool tells whether they hold
  pub int_eq_reif_means : (a b r : Term) → Means (codes "int_eq_reif") (Int a ∷ Int b ∷ Bool r ∷ []) (λ θ. (val a θ ≡ val b θ) ↔ IsTrueIn θ r)
  pub int_ne_reif_means : (a b r : Term) → Means (codes "int_ne_reif") (Int a ∷ Int b ∷ Bool r ∷ []) (λ θ. (val a θ ≡ val b θ → ⊥) ↔ IsTrueIn θ r)
  pub int_le_reif_means : (a b r : Term) → Means (codes "int_le_reif") (Int a ∷ Int b ∷ Bool r ∷ []) (λ θ. (val a θ ≤ℤ val b θ) ↔ IsTrueIn θ r)
  pub int_lt_reif_means : (a b r : Term) → Means (codes "int_lt_reif") (Int a ∷ Int b ∷ Bool r ∷ []) (λ θ. (val a θ <ℤ val b θ) ↔ IsTrueIn θ r)
  pub bool_eq_reif_means : (p q r : Term) → Means (codes "bool_eq_reif") (Bool p ∷ Bool q ∷ Bool r ∷ []) (λ θ. (val p θ ≡ val q θ) ↔ IsTrueIn θ r)
  pub bool_le_reif_means : (p q r : Term) → Means (codes "bool_le_reif") (Bool p ∷ Bool q ∷ Bool r ∷ []) (λ θ. (val p θ ≤ℤ val q θ) ↔ IsTrueIn θ r)
  pub bool_lt_reif_means : (p q r : Term) → Means (codes "bool_lt_reif") (Bool p ∷ Bool q ∷ Bool r ∷ []) (λ θ. (val p θ <ℤ val q θ) ↔ IsTrueIn θ r)
  pub int_lin_eq_reif_means : (cs : List ℤ) (xs : List Term) (k : ℤ) (r : Term) → length cs ≡ length xs → Means (codes "int_lin_eq_reif") (Ints (consts cs) ∷ Ints xs ∷ Int (Const k) ∷ Bool r ∷ []) (λ θ. (weighted cs xs θ ≡ k) ↔ IsTrueIn θ r)
  pub int_lin_le_reif_means : (cs : List ℤ) (xs : List Term) (k : ℤ) (r : Term) → length cs ≡ length xs → Means (codes "int_lin_le_reif") (Ints (consts cs) ∷ Ints xs ∷ Int (Const k) ∷ Bool r ∷ []) (λ θ. (weighted cs xs θ ≤ℤ k) ↔ IsTrueIn θ r)
  pub int_lin_ne_reif_means : (cs : List ℤ) (xs : List Term) (k : ℤ) (r : Term) → length cs ≡ length xs → Means (codes "int_lin_ne_reif") (Ints (consts cs) ∷ Ints xs ∷ Int (Const k) ∷ Bool r ∷ []) (λ θ. (weighted cs xs θ ≡ k → ⊥) ↔ IsTrueIn θ r)
  pub int_lin_eq_reif_refuses : (cs xs : List Term) (k r : Term) → (length cs ≡ length xs → ⊥) → Refuses (codes "int_lin_eq_reif") (Ints cs ∷ Ints xs ∷ Int k ∷ Bool r ∷ [])
  pub int_lin_le_reif_refuses : (cs xs : List Term) (k r : Term) → (length cs ≡ length xs → ⊥) → Refuses (codes "int_lin_le_reif") (Ints cs ∷ Ints xs ∷ Int k ∷ Bool r ∷ [])
  pub int_lin_ne_reif_refuses : (cs xs : List Term) (k r : Term) → (length cs ≡ length xs → ⊥) → Refuses (codes "int_lin_ne_reif") (Ints cs ∷ Ints xs ∷ Int k ∷ Bool r ∷ [])
  -- logic
  pub bool_and_means : (p q r : Term) → Means (codes "bool_and") (Bool p ∷ Bool q ∷ Bool r ∷ []) (λ θ. (IsTrueIn θ p × IsTrueIn θ q) ↔ IsTrueIn θ r)
  pub array_bool_and_means : (ps : List Term) (r : Term) → Means (codes "array_bool_and") (Bools ps ∷ Bool r ∷ []) (λ θ. All (IsTrueIn θ) ps ↔ IsTrueIn θ r)
  pub bool_or_means : (p q r : Term) → Means (codes "bool_or") (Bool p ∷ Bool q ∷ Bool r ∷ []) (λ θ. (IsTrueIn θ p ⊎ IsTrueIn θ q) ↔ IsTrueIn θ r)
  pub array_bool_or_means : (ps : List Term) (r : Term) → Means (codes "array_bool_or") (Bools ps ∷ Bool r ∷ []) (λ θ. Any (IsTrueIn θ) ps ↔ IsTrueIn θ r)
  pub bool_clause_means : (ps qs : List Term) → Means (codes "bool_clause") (Bools ps ∷ Bools qs ∷ []) (λ θ. Any (IsTrueIn θ) ps ⊎ Any (IsFalseIn θ) qs)
  pub bool_clause_reif_means : (ps qs : List Term) (r : Term) → Means (codes "bool_clause_reif") (Bools ps ∷ Bools qs ∷ Bool r ∷ []) (λ θ. (Any (IsTrueIn θ) ps ⊎ Any (IsFalseIn θ) qs) ↔ IsTrueIn θ r)
  pub set_in_means : (x : Term) (s : List (ℤ × ℤ)) → Means (codes "set_in") (Int x ∷ Set s ∷ []) (λ θ. IsIn s (val x θ))
  pub set_in_reif_means : (x : Term) (s : List (ℤ × ℤ)) (r : Term) → Means (codes "set_in_reif") (Int x ∷ Set s ∷ Bool r ∷ []) (λ θ. IsIn s (val x θ) ↔ IsTrueIn θ r)
  -- arithmetic
  pub int_plus_means : (a b c : Term) → Means (codes "int_plus") (Int a ∷ Int b ∷ Int c ∷ []) (λ θ. val a θ +ℤ val b θ ≡ val c θ)
  pub int_times_means : (a b c : Term) → Means (codes "int_times") (Int a ∷ Int b ∷ Int c ∷ []) (λ θ. val a θ *ℤ val b θ ≡ val c θ)
  pub int_div_means : (a b c : Term) → Means (codes "int_div") (Int a ∷ Int b ∷ Int c ∷ []) (λ θ. (val b θ ≡ pos 0 → ⊥) × (val c θ ≡ int_div (val a θ) (val b θ)))
  pub int_mod_means : (a b c : Term) → Means (codes "int_mod") (Int a ∷ Int b ∷ Int c ∷ []) (λ θ. (val b θ ≡ pos 0 → ⊥) × (val c θ ≡ int_rem (val a θ) (val b θ)))
  pub int_abs_means : (a b : Term) → Means (codes "int_abs") (Int a ∷ Int b ∷ []) (λ θ. val b θ ≡ pos (unsigned_abs (val a θ)))
  pub int_max_means : (a b c : Term) → Means (codes "int_max") (Int a ∷ Int b ∷ Int c ∷ []) (λ θ. HasValueOf θ (a ∷ b ∷ []) c × (val a θ ≤ℤ val c θ) × (val b θ ≤ℤ val c θ))
  pub int_min_means : (a b c : Term) → Means (codes "int_min") (Int a ∷ Int b ∷ Int c ∷ []) (λ θ. HasValueOf θ (a ∷ b ∷ []) c × (val c θ ≤ℤ val a θ) × (val c θ ≤ℤ val b θ))
  pub array_int_maximum_means : (m : Term) (xs : List Term) → 0 < length xs → Means (codes "array_int_maximum") (Int m ∷ Ints xs ∷ []) (λ θ. HasValueOf θ xs m × All (λ x. val x θ ≤ℤ val m θ) xs)
  pub array_int_minimum_means : (m : Term) (xs : List Term) → 0 < length xs → Means (codes "array_int_minimum") (Int m ∷ Ints xs ∷ []) (λ θ. HasValueOf θ xs m × All (λ x. val m θ ≤ℤ val x θ) xs)
  pub array_int_maximum_refuses : (m : Term) → Refuses (codes "array_int_maximum") (Int m ∷ Ints [] ∷ [])
  pub array_int_minimum_refuses : (m : Term) → Refuses (codes "array_int_minimum") (Int m ∷ Ints [] ∷ [])
  -- a member of a list
  pub array_int_element_means : (i : Term) (zs : List ℤ) (c : Term) → Means (codes "array_int_element") (Int i ∷ Ints (consts zs) ∷ Int c ∷ []) (λ θ. IsMemberAt θ i (consts zs) c)
  pub array_var_int_element_means : (i : Term) (xs : List Term) (c : Term) → Means (codes "array_var_int_element") (Int i ∷ Ints xs ∷ Int c ∷ []) (λ θ. IsMemberAt θ i xs c)
  pub array_bool_element_means : (i : Term) (zs : List ℤ) (p : Term) → Means (codes "array_bool_element") (Int i ∷ Bools (consts zs) ∷ Bool p ∷ []) (λ θ. IsMemberAt θ i (consts zs) p)
  pub array_var_bool_element_means : (i : Term) (ps : List Term) (p : Term) → Means (codes "array_var_bool_element") (Int i ∷ Bools ps ∷ Bool p ∷ []) (λ θ. IsMemberAt θ i ps p)
  -- global constraints
  pub fzn_all_different_int_means : (xs : List Term) → Means (codes "fzn_all_different_int") (Ints xs ∷ []) (λ θ. AreDifferent θ xs)
  pub all_different_int_means : (xs : List Term) → Means (codes "all_different_int") (Ints xs ∷ []) (λ θ. AreDifferent θ xs)
  pub fzn_cumulative_means : (ss ds rs : List Term) (b : Term) → length ss ≡ length ds → length ss ≡ length rs → Means (codes "fzn_cumulative") (Ints ss ∷ Ints ds ∷ Ints rs ∷ Int b ∷ []) (λ θ. FitsCapacity θ ss ds rs b)
  pub cumulative_means : (ss ds rs : List Term) (b : Term) → length ss ≡ length ds → length ss ≡ length rs → Means (codes "cumulative") (Ints ss ∷ Ints ds ∷ Ints rs ∷ Int b ∷ []) (λ θ. FitsCapacity θ ss ds rs b)
  pub fzn_cumulative_refuses : (ss ds rs : List Term) (b : Term) → ((length ss ≡ length ds) × (length ss ≡ length rs) → ⊥) → Refuses (codes "fzn_cumulative") (Ints ss ∷ Ints ds ∷ Ints rs ∷ Int b ∷ [])
  pub cumulative_refuses : (ss ds rs : List Term) (b : Term) → ((length ss ≡ length ds) × (length ss ≡ length rs) → ⊥) → Refuses (codes "cumulative") (Ints ss ∷ Ints ds ∷ Ints rs ∷ Int b ∷ [])
  pub fzn_table_int_means : (x : Term) (xs : List Term) (zs : List ℤ) → length zs % length (x ∷ xs) ≡ 0 → Means (codes "fzn_table_int") (Ints (x ∷ xs) ∷ Ints (consts zs) ∷ []) (λ θ. HasRow (x ∷ xs) zs θ)
  pub table_int_means : (x : Term) (xs : List Term) (zs : List ℤ) → length zs % length (x ∷ xs) ≡ 0 → Means (codes "table_int") (Ints (x ∷ xs) ∷ Ints (consts zs) ∷ []) (λ θ. HasRow (x ∷ xs) zs θ)
  pub fzn_table_int_refuses : (x : Term) (xs zs : List Term) → (length zs % length (x ∷ xs) ≡ 0 → ⊥) → Refuses (codes "fzn_table_int") (Ints (x ∷ xs) ∷ Ints zs ∷ [])
  pub table_int_refuses : (x : Term) (xs zs : List Term) → (length zs % length (x ∷ xs) ≡ 0 → ⊥) → Refuses (codes "table_int") (Ints (x ∷ xs) ∷ Ints zs ∷ [])
  pub fzn_table_int_refuses_none : (zs : List Term) → Refuses (codes "fzn_table_int") (Ints [] ∷ Ints zs ∷ [])
  pub table_int_refuses_none : (zs : List Term) → Refuses (codes "table_int") (Ints [] ∷ Ints zs ∷ [])
