-- Constraints, and what is sought: what the grammar spells is read to its end, or refused for another reason than its form.
use Rattle.std.proofs.Common.{◌≡◌, ℕ, ◌<◌, List, [], ◌++◌, Bool, true, false, cond, Option, Some, None, length, refl, inl, inr, codes, is_some, is_none, nat_lt}
use Rattle.std.specs.Prelude.{option_map, slice_get}
use Rattle.fzn_lexer.specs.Spots.{Spot, first, after_first}
use Rattle.fzn_lexer.specs.declared.kind.Kind.TheVariants as kind
use Rattle.fzn_model.specs.declared.goal.Goal.TheVariants as goal
use Rattle.fzn_builtin.specs.declared.needs.Need.{Need}
use Rattle.fzn_builtin.specs.declared.needs.Need.TheVariants as need
use Rattle.fzn_builtin.specs.Builtins.{numbered, needs_of, shape_of}
use Rattle.fzn_builtin.specs.Constraints.{constraint_of}
use Rattle.fzn_reader.specs.declared.code.Code.TheVariants as code
use Rattle.fzn_reader.specs.declared.decl.Decl.{Decl}
use Rattle.fzn_reader.specs.declared.scalar.Scalar.{Scalar}
use Rattle.fzn_reader.specs.declared.scalar.Scalar.TheVariants.{IntConst, IntTerm, BoolConst, BoolTerm}
use Rattle.fzn_reader.specs.Refusals.{is_kind, is_mark, is_word, most}
use Rattle.fzn_reader.specs.Names.{Names, find_name}
use Rattle.fzn_reader.specs.Exprs.{begins}
use Rattle.fzn_reader.specs.Drafts.{Stated}
use Rattle.fzn_reader.specs.Constraints.{misfit, fitting_list, named_list, written_list, list_by, list_arg_at, Args, arg_by, needed_by, one_arg, is_argument_count, built_at, known, call_at, constraint_at}
use Rattle.fzn_reader.specs.Solving.{solve_ann, goal_at, solve_at}
use Rattle.fzn_parser.specs.Grammar.{◌·◌, ◌∣◌, Mark, Keyword, ListOf, Expr, Ann, Call, Constraint, Solve}
use Rattle.fzn_parser.specs.Laws.{is_form}
use Rattle.fzn_parser.proofs.Lawful.{both, takes_spelled, after}
use Rattle.fzn_parser.proofs.Formed.{Spelled, at_front, IsFormed, ok_formed, other_code, value_formed, bind, made, chosen, passed, either, seq, taken, mark_formed, name_formed, behind_token, other_kind}
use Rattle.fzn_parser.proofs.FormedLists.{Follows, separated_formed}
use Rattle.fzn_parser.proofs.FormedBegins.{IsExpr, truth, number, range, braces, name, bracket, is_expr, expr_opens}
use Rattle.fzn_parser.proofs.FormedExprs.{set_formed, scalar_formed, terms_formed}
use Rattle.fzn_parser.proofs.FormedAnns.{ann_formed, passed_formed, annotations_formed}
use Rattle.fzn_parser.proofs.FormedDecls.{worded, no_word, annotated}

named_list_formed : (s : Scalar) (d : Option Decl) (used : ℕ) (ts rest : List Spot) → after_first ts ≡ rest → IsFormed is_form after rest (named_list s d used ts)
named_list_formed s None used ts rest e = other_code code.Undeclared ts refl
named_list_formed s (Some d) used ts rest e = value_formed code.WrongArguments (option_map (λ terms. (terms, used)) (fitting_list s d)) ts rest refl e

written_formed : (s : Scalar) (names : Names) (used : ℕ) (ts rest : List Spot) → Spelled ListOf ts rest → IsFormed is_form after rest (written_list s names used ts)
unfolding written_list ListOf
written_formed s names used ts rest p = seq (behind_token (takes_spelled kind.Mark (codes "[")) p) (λ mid a b. terms_formed used s names _ mid a (taken (takes_spelled kind.Mark (codes "]")) b).passes) (λ elements q. made _ (mark_formed _ elements.1 rest q) (λ x. refl))

name_code : (b : Bool) → is_form (cond b code.Undeclared code.WrongArguments) ≡ false
name_code true = refl
name_code false = refl

-- an expression of another type is not refused for its form
misfit_other : (names : Names) (ts rest : List Spot) → IsExpr ts rest → is_form (misfit names ts) ≡ false
unfolding misfit
misfit_other names ts rest (truth b e p) = rw e refl
misfit_other names ts rest (number e p) = rw e refl
misfit_other names ts rest (range e p) = rw e refl
misfit_other names ts rest (braces e p) = rw e refl
misfit_other names ts rest (name e p) = rw e (name_code (is_none (find_name names (first ts).text)))
misfit_other names ts rest (bracket e p) = rw e refl

list_by_formed : (s : Scalar) (names : Names) (used : ℕ) (ts rest : List Spot) → IsExpr ts rest → is_form (misfit names ts) ≡ false → IsFormed is_form after rest (list_by (begins ts) s names used ts)
list_by_formed s names used ts rest (truth b e p) m = rw e (other_code (misfit names ts) ts m)
list_by_formed s names used ts rest (number e p) m = rw e (other_code (misfit names ts) ts m)
list_by_formed s names used ts rest (range e p) m = rw e (other_code (misfit names ts) ts m)
list_by_formed s names used ts rest (braces e p) m = rw e (other_code (misfit names ts) ts m)
list_by_formed s names used ts rest (name e p) m = rw e (named_list_formed s (find_name names (first ts).text) used ts rest p)
list_by_formed s names used ts rest (bracket e p) m = rw e (written_formed s names used ts rest p)

list_arg_formed : (s : Scalar) (names : Names) (used : ℕ) (ts rest : List Spot) → Spelled Expr ts rest → IsFormed is_form after rest (list_arg_at s names used ts)
unfolding list_arg_at
list_arg_formed s names used ts rest p = list_by_formed s names used ts rest (is_expr ts rest p) (misfit_other names ts rest (is_expr ts rest p))

arg_formed : (n : Need) (names : Names) (used : ℕ) (ts rest : List Spot) → Spelled Expr ts rest → Follows rest → IsFormed is_form after rest (arg_by n names used ts)
arg_formed need.IntConst names used ts rest p f = made _ (scalar_formed IntConst names ts rest p) (λ x. refl)
arg_formed need.IntTerm names used ts rest p f = made _ (scalar_formed IntTerm names ts rest p) (λ x. refl)
arg_formed need.BoolTerm names used ts rest p f = made _ (scalar_formed BoolTerm names ts rest p) (λ x. refl)
arg_formed need.SetConst names used ts rest p f = made _ (set_formed true names ts rest p f) (λ x. refl)
arg_formed need.IntConsts names used ts rest p f = made _ (list_arg_formed IntConst names used ts rest p) (λ x. refl)
arg_formed need.IntTerms names used ts rest p f = made _ (list_arg_formed IntTerm names used ts rest p) (λ x. refl)
arg_formed need.BoolConsts names used ts rest p f = made _ (list_arg_formed BoolConst names used ts rest p) (λ x. refl)
arg_formed need.BoolTerms names used ts rest p f = made _ (list_arg_formed BoolTerm names used ts rest p) (λ x. refl)

needed_formed : (n : Option Need) (names : Names) (used : ℕ) (ts rest : List Spot) → Spelled Expr ts rest → Follows rest → IsFormed is_form after rest (needed_by n names used ts)
needed_formed None names used ts rest p f = other_code (misfit names ts) ts (misfit_other names ts rest (is_expr ts rest p))
needed_formed (Some n) names used ts rest p f = arg_formed n names used ts rest p f

one_arg_formed : (builtin : ℕ) (names : Names) (done : Args) (ts rest : List Spot) → Spelled Expr ts rest → Follows rest → IsFormed is_form after rest (one_arg builtin names done ts)
unfolding one_arg
one_arg_formed builtin names done ts rest p f = made _ (needed_formed (slice_get (needs_of builtin) (length done.0)) names done.1 ts rest p f) (λ x. refl)

built_at_formed : (builtin : ℕ) (args : Args) (ts rest : List Spot) → Spelled (Mark (codes ")")) ts rest → IsFormed is_form after rest (built_at builtin args ts)
unfolding built_at
built_at_formed builtin args ts rest p = let q = taken (takes_spelled kind.Mark (codes ")")) p in
    chosen (is_mark (codes ")") ts) _ q.passes (either (is_argument_count builtin (length args.0)) (λ h. value_formed code.Lengths (option_map (λ c. (c, args.1)) (constraint_of (shape_of builtin) args.0)) ts rest refl q.behind) (λ h. other_code code.WrongArguments ts refl))

known_formed : {rest : List Spot} (b : Option ℕ) (ts : List Spot) → IsFormed is_form (λ x. rest) rest (known b ts)
known_formed None ts = other_code code.UnknownConstraint ts refl
known_formed (Some b) ts = ok_formed _ refl

call_formed : (used : ℕ) (names : Names) (ts rest : List Spot) → Spelled Call ts rest → IsFormed is_form after rest (call_at used names ts)
unfolding call_at
call_formed used names ts rest p = seq p (λ mid a b. name_formed ts mid a) (λ name q. bind (known_formed {rest = rest} (numbered name.0) ts) (λ builtin e. seq q (λ mid a b. mark_formed _ name.1 mid a) (λ start q.
    seq q (λ mid a b. separated_formed (codes ")") refl refl refl (one_arg builtin names) (λ us m r. (expr_opens us m r).round) (one_arg_formed builtin names) ([], used) start mid a (taken (takes_spelled kind.Mark (codes ")")) b).passes)
    (λ args q. built_at_formed builtin args.0 args.1 rest q))))

pub constraint_formed : (d : Stated) (ts rest : List Spot) → Spelled Constraint ts rest → is_mark (codes ";") rest ≡ true → IsFormed is_form after rest (constraint_at d ts)
unfolding constraint_at Constraint
constraint_formed d ts rest p h = either (nat_lt d.items 200000)
    (λ e. seq (behind_token (takes_spelled kind.Word (codes "constraint")) p) (λ mid a b. call_formed d.elements d.names (after_first ts) mid a) (λ con q. made _ (annotated _ passed_formed (codes ";") refl refl tt con.1 rest q h) (λ x. refl)))
    (λ e. other_code code.TooMany ts refl)

solve_ann_formed : (found : Option (List Spot)) (ts rest : List Spot) → Spelled Ann ts rest → is_mark (codes "(") rest ≡ false → IsFormed is_form after rest (solve_ann found ts)
unfolding solve_ann
solve_ann_formed found ts rest p f = made _ (ann_formed ts rest p f) (λ x. refl)

-- what is sought
Goal : List Spot → Type 0
Goal = Keyword (codes "satisfy") ∣ ((Keyword (codes "minimize") ∣ Keyword (codes "maximize")) · Expr)

goal_by : (names : Names) (ts rest front : List Spot) → (Keyword (codes "satisfy") ∣ ((Keyword (codes "minimize") ∣ Keyword (codes "maximize")) · Expr)) front → ts ≡ front ++ rest → length front < most → IsFormed is_form after rest (goal_at names ts)
unfolding goal_at
goal_by names ts rest front (inl a) e k = let q = taken {rest = rest} (takes_spelled kind.Word (codes "satisfy")) (at_front front e k a) in
    chosen (is_word (codes "satisfy") ts) _ q.passes (ok_formed _ q.behind)
goal_by names ts rest front (inr a) e k = sought_by a.first
  where
    sought_by : (Keyword (codes "minimize") ∣ Keyword (codes "maximize")) a.front → IsFormed is_form after rest (goal_at names ts)
    sought_by (inl x) =
        let p : Spelled (Keyword (codes "minimize") · Expr) ts rest = at_front front e k (record { front = a.front; back = a.back; first = x; second = a.second; joined = a.joined }) in
        let h = worded (codes "minimize") p in
        passed (is_word (codes "satisfy") ts) _ (no_word (codes "minimize") (codes "satisfy") ts refl h) (chosen (is_word (codes "minimize") ts) _ h
        (made (λ z. (goal.Minimise z.0, z.1)) (scalar_formed IntTerm names (after_first ts) rest (behind_token (takes_spelled kind.Word (codes "minimize")) p)) (λ z. refl)))
    sought_by (inr x) =
        let p : Spelled (Keyword (codes "maximize") · Expr) ts rest = at_front front e k (record { front = a.front; back = a.back; first = x; second = a.second; joined = a.joined }) in
        let h = worded (codes "maximize") p in
        passed (is_word (codes "satisfy") ts) _ (no_word (codes "maximize") (codes "satisfy") ts refl h) (passed (is_word (codes "minimize") ts) _ (no_word (codes "maximize") (codes "minimize") ts refl h) (chosen (is_word (codes "maximize") ts) _ h
        (made (λ z. (goal.Maximise z.0, z.1)) (scalar_formed IntTerm names (after_first ts) rest (behind_token (takes_spelled kind.Word (codes "maximize")) p)) (λ z. refl))))

goal_formed : (names : Names) (ts rest : List Spot) → Spelled Goal ts rest → IsFormed is_form after rest (goal_at names ts)
unfolding Goal
goal_formed names ts rest p = goal_by names ts rest p.front p.spelled p.joined p.few

goal_word_by : (ts rest front : List Spot) → (Keyword (codes "satisfy") ∣ ((Keyword (codes "minimize") ∣ Keyword (codes "maximize")) · Expr)) front → ts ≡ front ++ rest → length front < most → is_kind kind.Word (first ts).seen ≡ true
goal_word_by ts rest front (inl a) e k = (both _ _ (taken {rest = rest} (takes_spelled kind.Word (codes "satisfy")) (at_front front e k a)).passes).0
goal_word_by ts rest front (inr a) e k = sought_word a.first
  where
    sought_word : (Keyword (codes "minimize") ∣ Keyword (codes "maximize")) a.front → is_kind kind.Word (first ts).seen ≡ true
    sought_word (inl x) = let p : Spelled (Keyword (codes "minimize") · Expr) ts rest = at_front front e k (record { front = a.front; back = a.back; first = x; second = a.second; joined = a.joined }) in (both _ _ (worded (codes "minimize") p)).0
    sought_word (inr x) = let p : Spelled (Keyword (codes "maximize") · Expr) ts rest = at_front front e k (record { front = a.front; back = a.back; first = x; second = a.second; joined = a.joined }) in (both _ _ (worded (codes "maximize") p)).0

-- no annotation and no parenthesis stands where it is said what is sought
goal_mark : (text : List ℕ) (ts rest : List Spot) → Spelled Goal ts rest → is_mark text ts ≡ false
unfolding Goal
goal_mark text ts rest p = other_kind kind.Word kind.Mark text (first ts) refl (goal_word_by ts rest p.front p.spelled p.joined p.few)

pub solve_formed : (d : Stated) (ts rest : List Spot) → Spelled Solve ts rest → IsFormed is_form after rest (solve_at d ts)
unfolding solve_at Solve Goal
solve_formed d ts rest p = either (is_some d.goal) (λ h. other_code code.TwoSolves ts refl)
    (λ h. seq (behind_token (takes_spelled kind.Word (codes "solve")) p) (λ mid a b. annotations_formed _ solve_ann_formed None (after_first ts) mid a (goal_mark (codes "(") mid rest b) (goal_mark (codes "::") mid rest b))
    (λ search q. made _ (goal_formed d.names search.1 rest q) (λ x. refl)))
