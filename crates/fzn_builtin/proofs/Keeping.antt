-- What arguments keep, the constraint of them keeps too: variables in range, limits, Booleans.
use Rattle.std.proofs.Common.{◌≡◌, ℕ, zero, suc, ◌≤◌, ◌*◌, ◌%◌, ◌/◌, Bool, true, false, ◌&&◌, cond, eqb, List, [], ◌∷◌, length, map, refl, arith, ℤ, pos, negsuc, Option, Some, None, Result, Ok, Err, subst, lit≤}
use Rattle.std.proofs.lemmas.Bool.{eqb-true, eqb-false}
use Rattle.std.specs.Prelude.{All, IfOk, IfSome, option_map}
use Rattle.std.proofs.lemmas.List.Elements.{All-from_recursion, recursion_from_All, All-nil, All-head, All-tail}
use Rattle.std.specs.List.{zip, AllByRecursion as ByRecursion}
use Rattle.fzn_model.specs.declared.term.Term.{Term}
use Rattle.fzn_model.specs.declared.term.Term.TheVariants as term
use Rattle.fzn_model.specs.declared.lin.Rel.{Rel}
use Rattle.fzn_model.specs.declared.lin.Rel.TheVariants as rel
use Rattle.fzn_model.specs.declared.cumulative.CumTask.{CumTask}
use Rattle.fzn_model.specs.declared.con.Con.{Con}
use Rattle.fzn_model.specs.declared.con.Con.TheVariants as con
use Rattle.fzn_model.specs.Limits.{IsValue, TermIn, TermsIn, AreValues, SumInLimits, BaseInLimits, UsedInLimits, TakenInLimits, ConInLimits, of_model, IsTruth, BaseTruths, ConTruths}
use Rattle.fzn_builtin.specs.declared.arg.Arg.{Arg}
use Rattle.fzn_builtin.specs.declared.arg.Arg.TheVariants as arg
use Rattle.fzn_builtin.specs.declared.fault.BuildFault.{BuildFault}
use Rattle.fzn_builtin.specs.declared.shape.Relation.{Relation}
use Rattle.fzn_builtin.specs.declared.shape.Relation.TheVariants as relation
use Rattle.fzn_builtin.specs.declared.shape.Shape.{Shape}
use Rattle.fzn_builtin.specs.declared.shape.Shape.TheVariants as shape
use Rattle.fzn_builtin.specs.Arguments.{arg_at, number, term_of, terms_of, set_of, term_at, terms_at, set_at}
use Rattle.fzn_builtin.specs.Limits.{ArgKept, ArgTruth}
use Rattle.fzn_builtin.specs.Reading.{IsBoolArg, AreBoolArgs, IsBoolAt, AreBoolsAt, HasTruth, HasTruths, HasRelationArguments, HasArguments}
use Rattle.fzn_builtin.specs.Constraints.{linear, difference, balance, weighed, sum, clause, member, greatest, least, task, cumulative, rows, relation_of, count, differing, constraint_of, Builds}

zero_is_value : IsValue (pos 0)
zero_is_value = lit≤ tt

at_all : (P : Arg → Type 0) → P (arg.Int (term.Const (pos 0))) → (args : List Arg) (k : ℕ) → All P args → P (arg_at args k)
at_all P none [] k h = none
at_all P none (a ∷ args) zero h = All-head P a args h
at_all P none (a ∷ args) (suc k) h = at_all P none args k (All-tail P a args h)

-- a run lies within the values
abbrev IsRunKept : ℤ × ℤ → Type 0
IsRunKept run = IsValue run.0 × IsValue run.1

-- the parts of one argument
term_of_kept : (n : ℕ) (a : Arg) → ArgKept n a → TermIn n (term_of a)
term_of_kept n (arg.Int t) h = h
term_of_kept n (arg.Bool t) h = h
term_of_kept n a h = zero_is_value

none_kept : (n : ℕ) → TermsIn n []
none_kept n = record { count = lit≤ tt; terms = All-nil (TermIn n) }

terms_of_kept : (n : ℕ) (a : Arg) → ArgKept n a → TermsIn n (terms_of a)
terms_of_kept n (arg.Ints ts) h = h
terms_of_kept n (arg.Bools ts) h = h
terms_of_kept n a h = none_kept n

set_of_kept : (n : ℕ) (a : Arg) → ArgKept n a → All IsRunKept (set_of a)
set_of_kept n (arg.Set s) h = h
set_of_kept n a h = All-nil IsRunKept

truth_of_true : (ds : List (List (ℤ × ℤ))) (a : Arg) → IsBoolArg a → ArgTruth ds a → IsTruth ds (term_of a)
truth_of_true ds (arg.Bool t) b h = h
truth_of_true ds a b h = absurd b

truths_of_true : (ds : List (List (ℤ × ℤ))) (a : Arg) → AreBoolArgs a → ArgTruth ds a → All (IsTruth ds) (terms_of a)
truths_of_true ds (arg.Bools ts) b h = h
truths_of_true ds a b h = absurd b

-- the parts of the argument in a place
term_kept : (n : ℕ) (args : List Arg) (k : ℕ) → All (ArgKept n) args → TermIn n (term_at args k)
unfolding term_at
term_kept n args k h = term_of_kept n (arg_at args k) (at_all (ArgKept n) zero_is_value args k h)

terms_kept : (n : ℕ) (args : List Arg) (k : ℕ) → All (ArgKept n) args → TermsIn n (terms_at args k)
unfolding terms_at
terms_kept n args k h = terms_of_kept n (arg_at args k) (at_all (ArgKept n) zero_is_value args k h)

set_kept : (n : ℕ) (args : List Arg) (k : ℕ) → All (ArgKept n) args → All IsRunKept (set_at args k)
unfolding set_at
set_kept n args k h = set_of_kept n (arg_at args k) (at_all (ArgKept n) zero_is_value args k h)

truth_true : (ds : List (List (ℤ × ℤ))) (args : List Arg) (k : ℕ) → HasTruth args k → All (ArgTruth ds) args → IsTruth ds (term_at args k)
unfolding term_at IsBoolAt
truth_true ds args k b h = truth_of_true ds (arg_at args k) b.1 (at_all (ArgTruth ds) tt args k h)

truths_true : (ds : List (List (ℤ × ℤ))) (args : List Arg) (k : ℕ) → HasTruths args k → All (ArgTruth ds) args → All (IsTruth ds) (terms_at args k)
unfolding terms_at AreBoolsAt
truths_true ds args k b h = truths_of_true ds (arg_at args k) b.1 (at_all (ArgTruth ds) tt args k h)

-- numbers and lists
number_kept : (n : ℕ) (t : Term) → TermIn n t → IsValue (number t)
number_kept n (term.Const z) h = h
number_kept n (term.Var k) h = zero_is_value

numbers_by : (n : ℕ) (ts : List Term) → ByRecursion (TermIn n) ts → ByRecursion IsValue (map number ts)
numbers_by n [] h = tt
numbers_by n (t ∷ ts) h = (number_kept n t h.0, numbers_by n ts h.1)

numbers_kept : (n : ℕ) (ts : List Term) → All (TermIn n) ts → AreValues (map number ts)
numbers_kept n ts h = All-from_recursion IsValue (map number ts) (numbers_by n ts (recursion_from_All (TermIn n) ts h))

abbrev IsFactorKept : ℤ × Term → Type 0
IsFactorKept part = IsValue part.0

abbrev IsPartKept : ℕ → ℤ × Term → Type 0
IsPartKept n part = TermIn n part.1

factors_by : (n : ℕ) (fs ts : List Term) → ByRecursion (TermIn n) fs → ByRecursion IsFactorKept (map weighed (zip fs ts))
factors_by n [] ts h = tt
factors_by n (f ∷ fs) [] h = tt
factors_by n (f ∷ fs) (t ∷ ts) h = (number_kept n f h.0, factors_by n fs ts h.1)

factors_kept : (n : ℕ) (fs ts : List Term) → All (TermIn n) fs → All IsFactorKept (map weighed (zip fs ts))
factors_kept n fs ts h = All-from_recursion IsFactorKept (map weighed (zip fs ts)) (factors_by n fs ts (recursion_from_All (TermIn n) fs h))

parts_by : (n : ℕ) (fs ts : List Term) → ByRecursion (TermIn n) ts → ByRecursion (IsPartKept n) (map weighed (zip fs ts))
parts_by n [] ts h = tt
parts_by n (f ∷ fs) [] h = tt
parts_by n (f ∷ fs) (t ∷ ts) h = (h.0, parts_by n fs ts h.1)

parts_kept : (n : ℕ) (fs ts : List Term) → All (TermIn n) ts → All (IsPartKept n) (map weighed (zip fs ts))
parts_kept n fs ts h = All-from_recursion (IsPartKept n) (map weighed (zip fs ts)) (parts_by n fs ts (recursion_from_All (TermIn n) ts h))

parts_count : (fs ts : List Term) → length (map weighed (zip fs ts)) ≤ length ts
parts_count [] ts = omega arith
parts_count (f ∷ fs) [] = omega arith
parts_count (f ∷ fs) (t ∷ ts) = omega (arith, parts_count fs ts)

numbers_count : (ts : List Term) → length (map number ts) ≡ length ts
numbers_count [] = refl
numbers_count (t ∷ ts) = omega (arith, numbers_count ts)

abbrev IsTaskKept : ℕ → CumTask → Type 0
IsTaskKept n k = TermIn n k.s × TermIn n k.d × TermIn n k.r

tasks_by : (n : ℕ) (ss ds rs : List Term) → ByRecursion (TermIn n) ss → ByRecursion (TermIn n) ds → ByRecursion (TermIn n) rs → ByRecursion (IsTaskKept n) (map task (zip (zip ss ds) rs))
tasks_by n [] ds rs x y z = tt
tasks_by n (s ∷ ss) [] rs x y z = tt
tasks_by n (s ∷ ss) (d ∷ ds) [] x y z = tt
tasks_by n (s ∷ ss) (d ∷ ds) (r ∷ rs) x y z = ((x.0, y.0, z.0), tasks_by n ss ds rs x.1 y.1 z.1)

tasks_kept : (n : ℕ) (ss ds rs : List Term) → All (TermIn n) ss → All (TermIn n) ds → All (TermIn n) rs → All (IsTaskKept n) (map task (zip (zip ss ds) rs))
tasks_kept n ss ds rs x y z =
    All-from_recursion (IsTaskKept n) (map task (zip (zip ss ds) rs)) (tasks_by n ss ds rs (recursion_from_All (TermIn n) ss x) (recursion_from_All (TermIn n) ds y) (recursion_from_All (TermIn n) rs z))

tasks_count : (ss ds rs : List Term) → length (map task (zip (zip ss ds) rs)) ≤ length ss
tasks_count [] ds rs = omega arith
tasks_count (s ∷ ss) [] rs = omega arith
tasks_count (s ∷ ss) (d ∷ ds) [] = omega arith
tasks_count (s ∷ ss) (d ∷ ds) (r ∷ rs) = omega (arith, tasks_count ss ds rs)

whole_rows : (a b c : ℕ) → c ≡ a → a % b ≡ 0 → c ≡ (a / b) * b
whole_rows a b c e h = grind arith

-- optional values
if_true : {T : Type 0} (P : T → Type 0) (b : Bool) (x : T) → (b ≡ true → P x) → IfSome (cond b (Some x) None) P
if_true P true x h = h refl
if_true P false x h = tt

by_test : {T : Type 0} (P : T → Type 0) (b : Bool) (x y : T) → P x → (b ≡ false → P y) → P (cond b x y)
by_test P true x y h k = h
by_test P false x y h k = k refl

mapped : {S T : Type 0} (P : S → Type 0) (Q : T → Type 0) (f : S → T) (o : Option S) → ((x : S) → P x → Q (f x)) → IfSome o P → IfSome (option_map f o) Q
mapped P Q f None step h = tt
mapped P Q f (Some x) step h = step x h

none_used : UsedInLimits of_model []
none_used = record { count = lit≤ tt; moments = All-nil _; amounts = All-nil _ }

none_taken : TakenInLimits of_model []
none_taken = record { count = lit≤ tt; values = All-nil IsValue }

-- constraints of their parts
linear_kept : (n : ℕ) (rel : Rel) (parts : List (ℤ × Term)) (r : ℤ) → SumInLimits n parts → IsValue r → BaseInLimits of_model n (linear rel parts r)
unfolding linear
linear_kept n rel parts r s k = record { sum = s; constant = k }

difference_kept : (n : ℕ) (a b : Term) → TermIn n a → TermIn n b → SumInLimits n (difference a b)
difference_kept n a b x y = record { count = lit≤ tt; factors = All-from_recursion IsFactorKept (difference a b) (lit≤ tt, (lit≤ tt, tt)); terms = All-from_recursion (IsPartKept n) (difference a b) (x, (y, tt)) }

balance_kept : (n : ℕ) (a b c : Term) → TermIn n a → TermIn n b → TermIn n c → SumInLimits n (balance a b c)
balance_kept n a b c x y z = record { count = lit≤ tt; factors = All-from_recursion IsFactorKept (balance a b c) (lit≤ tt, (lit≤ tt, (lit≤ tt, tt))); terms = All-from_recursion (IsPartKept n) (balance a b c) (x, (y, (z, tt))) }

sum_kept : (n : ℕ) (rel : Rel) (fs ts : List Term) (r : ℤ) → TermsIn n fs → TermsIn n ts → IsValue r → IfSome (sum rel fs ts r) (BaseInLimits of_model n)
unfolding sum
sum_kept n rel fs ts r x y k =
    if_true (BaseInLimits of_model n) (eqb (length fs) (length ts)) _ (λ (e : eqb (length fs) (length ts) ≡ true). linear_kept n rel (map weighed (zip fs ts)) r (record { count = omega (arith, parts_count fs ts, y.count); factors = factors_kept n fs ts x.terms; terms = parts_kept n fs ts y.terms }) k)

clause_kept : (n : ℕ) (positive negative : List Term) → TermsIn n positive → TermsIn n negative → BaseInLimits of_model n (clause positive negative)
unfolding clause
clause_kept n positive negative x y = record { pos = x; neg = y }

member_kept : (n : ℕ) (x : Term) (set : List (ℤ × ℤ)) → TermIn n x → All IsRunKept set → BaseInLimits of_model n (member x set)
unfolding member
member_kept n x set h k = record { x = h; set = k }

greatest_kept : (n : ℕ) (m : Term) (ts : List Term) → TermIn n m → TermsIn n ts → IfSome (greatest m ts) (ConInLimits of_model n)
unfolding greatest
greatest_kept n m [] x y = tt
greatest_kept n m (t ∷ ts) x y = (x, record { some = omega arith; terms = y })

least_kept : (n : ℕ) (m : Term) (ts : List Term) → TermIn n m → TermsIn n ts → IfSome (least m ts) (ConInLimits of_model n)
unfolding least
least_kept n m [] x y = tt
least_kept n m (t ∷ ts) x y = (x, record { some = omega arith; terms = y })

cumulative_kept : (n : ℕ) (ss ds rs : List Term) (b : Term) → TermsIn n ss → TermsIn n ds → TermsIn n rs → TermIn n b → IfSome (cumulative ss ds rs b) (ConInLimits of_model n)
unfolding cumulative
cumulative_kept n ss ds rs b x y z k =
    if_true (ConInLimits of_model n) (eqb (length ss) (length ds) && eqb (length ss) (length rs)) _ (λ (e : (eqb (length ss) (length ds) && eqb (length ss) (length rs)) ≡ true). (record { count = omega (arith, tasks_count ss ds rs, x.count); terms = tasks_kept n ss ds rs x.terms y.terms z.terms }, none_used, k))

rows_kept : (n : ℕ) (ts ns : List Term) → TermsIn n ts → TermsIn n ns → IfSome (rows ts ns) (ConInLimits of_model n)
unfolding rows
rows_kept n [] ns x y = tt
rows_kept n (t ∷ ts) ns x y =
    if_true (ConInLimits of_model n) (eqb (length ns % length (t ∷ ts)) 0) _ (λ (e : eqb (length ns % length (t ∷ ts)) 0 ≡ true). record { columns = record { some = omega arith; terms = x }; count = omega (arith, numbers_count ns, y.count); whole = (length ns / length (t ∷ ts), whole_rows (length ns) (length (t ∷ ts)) (length (map number ns)) (numbers_count ns) (eqb-true _ _ e)); values = numbers_kept n ns y.terms })

relation_kept : (n : ℕ) (r : Relation) (args : List Arg) → All (ArgKept n) args → IfSome (relation_of r args) (BaseInLimits of_model n)
relation_kept n (relation.Difference rel) args h =
    linear_kept n rel _ (pos 0) (difference_kept n _ _ (term_kept n args 0 h) (term_kept n args 1 h)) (lit≤ tt)
relation_kept n relation.Below args h =
    linear_kept n _ _ (negsuc 0) (difference_kept n _ _ (term_kept n args 0 h) (term_kept n args 1 h)) (lit≤ tt)
relation_kept n (relation.Sum rel) args h =
    sum_kept n rel _ _ _ (terms_kept n args 0 h) (terms_kept n args 1 h) (number_kept n _ (term_kept n args 2 h))
relation_kept n relation.Disjunction args h = clause_kept n _ _ (terms_kept n args 0 h) (terms_kept n args 1 h)
relation_kept n relation.InSet args h = member_kept n _ _ (term_kept n args 0 h) (set_kept n args 1 h)

differing_kept : (n : ℕ) (args : List Arg) → All (ArgKept n) args → ConInLimits of_model n (differing args)
differing_kept n args h =
    let kept : BaseInLimits of_model n (linear rel.Ne (difference (term_at args 0) (term_at args 1)) (pos 0)) = linear_kept n rel.Ne _ (pos 0) (difference_kept n _ _ (term_kept n args 0 h) (term_kept n args 1 h)) (lit≤ tt) in
    by_test (ConInLimits of_model n) (eqb (length args) 2) _ _ kept (λ e. (kept, term_kept n args 2 h))

pair_kept : (n : ℕ) (a b : Term) → TermIn n a → TermIn n b → TermsIn n (a ∷ b ∷ [])
pair_kept n a b x y = record { count = lit≤ tt; terms = All-from_recursion (TermIn n) (a ∷ b ∷ []) (x, (y, tt)) }

both_kept : (n : ℕ) (args : List Arg) → All (ArgKept n) args → TermsIn n (term_at args 0 ∷ term_at args 1 ∷ [])
both_kept n args h = pair_kept n _ _ (term_kept n args 0 h) (term_kept n args 1 h)

three_kept : (n : ℕ) (args : List Arg) → All (ArgKept n) args → TermIn n (term_at args 0) × TermIn n (term_at args 1) × TermIn n (term_at args 2)
three_kept n args h = (term_kept n args 0 h, term_kept n args 1 h, term_kept n args 2 h)

constraint_kept : (n : ℕ) (s : Shape) (args : List Arg) → All (ArgKept n) args → IfSome (constraint_of s args) (ConInLimits of_model n)
constraint_kept n (shape.Posted r) args h = mapped (BaseInLimits of_model n) (ConInLimits of_model n) con.Base (relation_of r args) (λ b k. k) (relation_kept n r args h)
constraint_kept n (shape.Reified r) args h =
    mapped (BaseInLimits of_model n) (ConInLimits of_model n) _ (relation_of r args) (λ b k. (k, term_kept n args (count r) h)) (relation_kept n r args h)
constraint_kept n shape.Xor args h = differing_kept n args h
constraint_kept n shape.BothTrue args h = (clause_kept n [] _ (none_kept n) (both_kept n args h), term_kept n args 2 h)
constraint_kept n shape.EitherTrue args h = (clause_kept n _ [] (both_kept n args h) (none_kept n), term_kept n args 2 h)
constraint_kept n shape.AllTrue args h = (clause_kept n [] _ (none_kept n) (terms_kept n args 0 h), term_kept n args 1 h)
constraint_kept n shape.AnyTrue args h = (clause_kept n _ [] (terms_kept n args 0 h) (none_kept n), term_kept n args 1 h)
constraint_kept n shape.Plus args h =
    linear_kept n rel.Eq _ (pos 0) (balance_kept n _ _ _ (term_kept n args 0 h) (term_kept n args 1 h) (term_kept n args 2 h)) (lit≤ tt)
constraint_kept n shape.Times args h = three_kept n args h
constraint_kept n shape.Quotient args h = three_kept n args h
constraint_kept n shape.Remainder args h = three_kept n args h
constraint_kept n shape.Absolute args h = (term_kept n args 0 h, term_kept n args 1 h)
constraint_kept n shape.Larger args h =
    (term_kept n args 2 h, record { some = omega arith; terms = pair_kept n _ _ (term_kept n args 0 h) (term_kept n args 1 h) })
constraint_kept n shape.Smaller args h =
    (term_kept n args 2 h, record { some = omega arith; terms = pair_kept n _ _ (term_kept n args 0 h) (term_kept n args 1 h) })
constraint_kept n shape.Largest args h = greatest_kept n _ _ (term_kept n args 0 h) (terms_kept n args 1 h)
constraint_kept n shape.Smallest args h = least_kept n _ _ (term_kept n args 0 h) (terms_kept n args 1 h)
constraint_kept n shape.Element args h = (term_kept n args 0 h, terms_kept n args 1 h, term_kept n args 2 h)
constraint_kept n shape.Different args h = (terms_kept n args 0 h, none_taken)
constraint_kept n shape.Cumulative args h =
    cumulative_kept n _ _ _ _ (terms_kept n args 0 h) (terms_kept n args 1 h) (terms_kept n args 2 h) (term_kept n args 3 h)
constraint_kept n shape.Rows args h = rows_kept n _ _ (terms_kept n args 0 h) (terms_kept n args 1 h)

-- Booleans
linear_true : (ds : List (List (ℤ × ℤ))) (rel : Rel) (parts : List (ℤ × Term)) (r : ℤ) → BaseTruths ds (linear rel parts r)
unfolding linear
linear_true ds rel parts r = tt

sum_true : (ds : List (List (ℤ × ℤ))) (rel : Rel) (fs ts : List Term) (r : ℤ) → IfSome (sum rel fs ts r) (BaseTruths ds)
unfolding sum
sum_true ds rel fs ts r = if_true (BaseTruths ds) (eqb (length fs) (length ts)) _ (λ (e : eqb (length fs) (length ts) ≡ true). linear_true ds rel _ r)

clause_true : (ds : List (List (ℤ × ℤ))) (positive negative : List Term) → All (IsTruth ds) positive → All (IsTruth ds) negative → BaseTruths ds (clause positive negative)
unfolding clause
clause_true ds positive negative x y = (x, y)

member_true : (ds : List (List (ℤ × ℤ))) (x : Term) (set : List (ℤ × ℤ)) → BaseTruths ds (member x set)
unfolding member
member_true ds x set = tt

greatest_true : (ds : List (List (ℤ × ℤ))) (m : Term) (ts : List Term) → IfSome (greatest m ts) (ConTruths ds)
unfolding greatest
greatest_true ds m [] = tt
greatest_true ds m (t ∷ ts) = tt

least_true : (ds : List (List (ℤ × ℤ))) (m : Term) (ts : List Term) → IfSome (least m ts) (ConTruths ds)
unfolding least
least_true ds m [] = tt
least_true ds m (t ∷ ts) = tt

cumulative_true : (ds : List (List (ℤ × ℤ))) (ss ls rs : List Term) (b : Term) → IfSome (cumulative ss ls rs b) (ConTruths ds)
unfolding cumulative
cumulative_true ds ss ls rs b =
    if_true (ConTruths ds) (eqb (length ss) (length ls) && eqb (length ss) (length rs)) _ (λ (e : (eqb (length ss) (length ls) && eqb (length ss) (length rs)) ≡ true). tt)

rows_true : (ds : List (List (ℤ × ℤ))) (ts ns : List Term) → IfSome (rows ts ns) (ConTruths ds)
unfolding rows
rows_true ds [] ns = tt
rows_true ds (t ∷ ts) ns = if_true (ConTruths ds) (eqb (length ns % length (t ∷ ts)) 0) _ (λ (e : eqb (length ns % length (t ∷ ts)) 0 ≡ true). tt)

relation_true : (ds : List (List (ℤ × ℤ))) (r : Relation) (args : List Arg) → HasRelationArguments r args → All (ArgTruth ds) args → IfSome (relation_of r args) (BaseTruths ds)
relation_true ds (relation.Difference rel) args p h = linear_true ds rel _ (pos 0)
relation_true ds relation.Below args p h = linear_true ds _ _ (negsuc 0)
relation_true ds (relation.Sum rel) args p h = sum_true ds rel _ _ _
relation_true ds relation.Disjunction args p h = clause_true ds _ _ (truths_true ds args 0 p.0 h) (truths_true ds args 1 p.1 h)
relation_true ds relation.InSet args p h = member_true ds _ _

both_true : (ds : List (List (ℤ × ℤ))) (args : List Arg) → HasTruth args 0 → HasTruth args 1 → All (ArgTruth ds) args → All (IsTruth ds) (term_at args 0 ∷ term_at args 1 ∷ [])
both_true ds args p q h = All-from_recursion (IsTruth ds) (term_at args 0 ∷ term_at args 1 ∷ []) (truth_true ds args 0 p h, (truth_true ds args 1 q h, tt))

constraint_true : (ds : List (List (ℤ × ℤ))) (s : Shape) (args : List Arg) → HasArguments s args → All (ArgTruth ds) args → IfSome (constraint_of s args) (ConTruths ds)
constraint_true ds (shape.Posted r) args p h = mapped (BaseTruths ds) (ConTruths ds) con.Base (relation_of r args) (λ b k. k) (relation_true ds r args p h)
constraint_true ds (shape.Reified r) args p h =
    mapped (BaseTruths ds) (ConTruths ds) _ (relation_of r args) (λ b k. (k, truth_true ds args (count r) p.1 h)) (relation_true ds r args p.0 h)
constraint_true ds shape.Xor args p h =
    let base : BaseTruths ds (linear rel.Ne (difference (term_at args 0) (term_at args 1)) (pos 0)) = linear_true ds rel.Ne _ (pos 0) in
    by_test (ConTruths ds) (eqb (length args) 2) _ _ base (λ e. (base, truth_true ds args 2 (p.2 (eqb-false _ _ e)) h))
constraint_true ds shape.BothTrue args p h = (clause_true ds [] _ (All-nil (IsTruth ds)) (both_true ds args p.0 p.1 h), truth_true ds args 2 p.2 h)
constraint_true ds shape.EitherTrue args p h = (clause_true ds _ [] (both_true ds args p.0 p.1 h) (All-nil (IsTruth ds)), truth_true ds args 2 p.2 h)
constraint_true ds shape.AllTrue args p h = (clause_true ds [] _ (All-nil (IsTruth ds)) (truths_true ds args 0 p.0 h), truth_true ds args 1 p.1 h)
constraint_true ds shape.AnyTrue args p h = (clause_true ds _ [] (truths_true ds args 0 p.0 h) (All-nil (IsTruth ds)), truth_true ds args 1 p.1 h)
constraint_true ds shape.Plus args p h = linear_true ds rel.Eq _ (pos 0)
constraint_true ds shape.Largest args p h = greatest_true ds _ _
constraint_true ds shape.Smallest args p h = least_true ds _ _
constraint_true ds shape.Cumulative args p h = cumulative_true ds _ _ _ _
constraint_true ds shape.Rows args p h = rows_true ds _ _
constraint_true ds s args p h = tt

-- from what there is to what is answered
answered : {T : Type 0} (P : T → Type 0) (r : Result T BuildFault) (o : Option T) → Builds r o → IfSome o P → IfOk r P
answered P (Ok x) o m h = let Q : Option _ → Type 0 = λ v. IfSome v P in subst Q m h
answered P (Err e) o m h = tt

-- where each holds, all hold of the constraint
each : {A T : Type 0} (P : A → T → Type 0) (r : Result T BuildFault) → ((a : A) → IfOk r (P a)) → IfOk r (λ x. (a : A) → P a x)
each P (Ok x) h = h
each P (Err e) h = tt

where_all : {T : Type 0} (H : Type 0) (P : T → Type 0) (r : Result T BuildFault) → (H → IfOk r P) → IfOk r (λ x. H → P x)
where_all H P (Ok x) h = h
where_all H P (Err e) h = tt

pub answer_kept : (s : Shape) (args : List Arg) (r : Result Con BuildFault) → Builds r (constraint_of s args) → IfOk r (λ con. (n : ℕ) → All (ArgKept n) args → ConInLimits of_model n con)
answer_kept s args r m =
    each (λ (n : ℕ) (con : Con). All (ArgKept n) args → ConInLimits of_model n con) r (λ n. where_all (All (ArgKept n) args) (ConInLimits of_model n) r (λ h. answered (ConInLimits of_model n) r (constraint_of s args) m (constraint_kept n s args h)))

pub answer_true : (s : Shape) (args : List Arg) (r : Result Con BuildFault) → HasArguments s args → Builds r (constraint_of s args) → IfOk r (λ con. (ds : List (List (ℤ × ℤ))) → All (ArgTruth ds) args → ConTruths ds con)
answer_true s args r p m =
    each (λ (ds : List (List (ℤ × ℤ))) (con : Con). All (ArgTruth ds) args → ConTruths ds con) r (λ ds. where_all (All (ArgTruth ds) args) (ConTruths ds) r (λ h. answered (ConTruths ds) r (constraint_of s args) m (constraint_true ds s args p h)))
