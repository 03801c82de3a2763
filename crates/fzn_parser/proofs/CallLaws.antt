-- Constraints, and what is sought: what is read is spelled by its rule, and a refusal is fair.
use Rattle.std.proofs.Common.{◌≡◌, ℕ, List, [], Bool, true, false, cond, ◌&&◌, Option, Some, None, Ok, length, refl, ap, ◌∙◌, inl, inr, codes, is_some, is_none, nat_lt}
use Rattle.std.specs.Prelude.{option_map, slice_get}
use Rattle.fzn_lexer.specs.Spots.{Spot, first, after_first, IsWhole}
use Rattle.fzn_lexer.specs.declared.kind.Kind.TheVariants as kind
use Rattle.fzn_model.specs.declared.goal.Goal.TheVariants as goal
use Rattle.fzn_builtin.specs.declared.needs.Need.{Need}
use Rattle.fzn_builtin.specs.declared.needs.Need.TheVariants as need
use Rattle.fzn_builtin.specs.Builtins.{numbered, needs_of, shape_of}
use Rattle.fzn_builtin.specs.Constraints.{constraint_of}
use Rattle.fzn_reader.specs.declared.begin.Begin.{Begin}
use Rattle.fzn_reader.specs.declared.begin.Begin.TheVariants as begin
use Rattle.fzn_reader.specs.declared.code.Code.TheVariants as code
use Rattle.fzn_reader.specs.declared.decl.Decl.{Decl}
use Rattle.fzn_reader.specs.declared.scalar.Scalar.{Scalar}
use Rattle.fzn_reader.specs.declared.scalar.Scalar.TheVariants.{IntConst, IntTerm, BoolConst, BoolTerm}
use Rattle.fzn_reader.specs.Refusals.{refuse, name_at, is_mark, is_word}
use Rattle.fzn_reader.specs.Names.{Names, find_name}
use Rattle.fzn_reader.specs.Exprs.{begins}
use Rattle.fzn_reader.specs.Drafts.{Stated}
use Rattle.fzn_reader.specs.Types.{set_at}
use Rattle.fzn_reader.specs.Scalars.{scalar_at}
use Rattle.fzn_reader.specs.Constraints.{misfit_by, misfit, fitting_list, named_list, written_list, list_by, list_arg_at, Args, arg_by, needed_by, one_arg, is_argument_count, built_at, known, call_at, constraint_at}
use Rattle.fzn_reader.specs.Solving.{solve_ann, goal_at, solve_at}
use Rattle.fzn_parser.specs.Grammar.{◌·◌, ◌∣◌, Mark, Keyword, Element, ListOf, Expr, Ann, Call, Constraint, Solve}
use Rattle.fzn_parser.specs.Laws.{is_name, may_show, Reads}
use Rattle.fzn_parser.proofs.Samples.{Sample, seq, before, behind_nothing, mark_sample, word_sample, name_sample, element_sample, expr_sample, annotations_sample, left_out, call_sample, satisfy_sample}
use Rattle.fzn_parser.proofs.Lawful.{IsLawful, first_passes, given_as, after, is_ok, refused, value_law, onward, given, next, finish, wider, widen, choice, nothing_read, took, takes_spelled, mark_law, name_law}
use Rattle.fzn_parser.proofs.ListLaws.{separated_law}
use Rattle.fzn_parser.proofs.BeginLaws.{Shown, shown, Begun, begun, name_expr, begun_expr, wrong, wrong_end, many_constraints, real_number, arguments_end}
use Rattle.fzn_parser.proofs.ExprLaws.{name_element, set_law, scalar_law, terms_law}
use Rattle.fzn_parser.proofs.AnnLaws.{ann_law, passed_law, annotations_law}
use Rattle.fzn_parser.proofs.DeclLaws.{took_word}

-- an expression, which is an element or a list of elements
any_expr : Sample (Element ∣ ListOf)
any_expr = let e = element_sample in (e.0, inl e.1)

named_list_law : {X : List Spot → Type 0} (s : Scalar) (d : Option Decl) (used : ℕ) (ts : List Spot) → IsWhole ts → is_name (first ts) ≡ true → Reads X ts (after_first ts) → IsLawful X after ts (named_list s d used ts)
named_list_law s None used ts w z r = refused code.Undeclared ts w z (r.front, r.spelled)
named_list_law s (Some d) used ts w z r = value_law code.WrongArguments (option_map (λ terms. (terms, used)) (fitting_list s d)) ts w (λ e. wrong (first ts) (name_expr (first ts) z)) r

-- from its "[" on
written_law : (s : Scalar) (names : Names) (used : ℕ) (ts : List Spot) → Reads (Mark (codes "[")) ts (after_first ts) → IsLawful ListOf after ts (written_list s names used ts)
unfolding written_list ListOf
written_law s names used ts r = onward r (next (terms_law used s names (after_first ts) r.whole) (mark_sample (codes "]")) (λ elements p. finish _ (mark_law _ elements.1 p) (λ x. refl)))

-- the code that a token shows where it begins an expression of another type
misfit_by_shows : (b : Begin) (names : Names) (ts : List Spot) → Shown b (first ts).seen (first ts).text → may_show (misfit_by b names ts) (first ts) ≡ true
misfit_by_shows begin.Number names ts z = wrong (first ts) (begun_expr begin.Number (first ts) z refl)
misfit_by_shows begin.Real names ts z = real_number (first ts) z
misfit_by_shows (begin.Truth b) names ts z = wrong (first ts) (begun_expr (begin.Truth b) (first ts) z refl)
misfit_by_shows begin.Name names ts z = by_name (is_none (find_name names (first ts).text))
  where
    by_name : (b : Bool) → may_show (cond b code.Undeclared code.WrongArguments) (first ts) ≡ true
    by_name true = z
    by_name false = wrong (first ts) (name_expr (first ts) z)
misfit_by_shows begin.Brace names ts z = wrong (first ts) (begun_expr begin.Brace (first ts) z refl)
misfit_by_shows begin.Bracket names ts z = wrong (first ts) (begun_expr begin.Bracket (first ts) z refl)
misfit_by_shows begin.Other names ts z = refl

misfit_shows : (names : Names) (ts : List Spot) → may_show (misfit names ts) (first ts) ≡ true
unfolding misfit
misfit_shows names ts = misfit_by_shows (begins ts) names ts (shown ts)

list_by_law : (b : Begin) (s : Scalar) (names : Names) (used : ℕ) (ts : List Spot) → IsWhole ts → Shown b (first ts).seen (first ts).text → Begun b ts → IsLawful Expr after ts (list_by b s names used ts)
unfolding Expr
list_by_law begin.Bracket s names used ts w z r = widen (λ us p. inr p) (written_law s names used ts r)
list_by_law begin.Name s names used ts w z r = named_list_law s (find_name names (first ts).text) used ts w z (wider (λ us p. inl p) (name_element ts r))
list_by_law b s names used ts w z r = refused (misfit names ts) ts w (misfit_shows names ts) any_expr

list_arg_law : (s : Scalar) (names : Names) (used : ℕ) (ts : List Spot) → IsWhole ts → IsLawful Expr after ts (list_arg_at s names used ts)
unfolding list_arg_at
list_arg_law s names used ts w = list_by_law (begins ts) s names used ts w (shown ts) (begun ts w)

scalar_arg_law : (s : Scalar) (names : Names) (ts : List Spot) → IsWhole ts → IsLawful Expr after ts (scalar_at s names ts)
unfolding Expr
scalar_arg_law s names ts w = widen (λ us p. inl p) (scalar_law s names ts w)

set_arg_law : (names : Names) (ts : List Spot) → IsWhole ts → IsLawful Expr after ts (set_at true names ts)
unfolding Expr
set_arg_law names ts w = widen (λ us p. inl p) (set_law true names ts w)

arg_law : (n : Need) (names : Names) (used : ℕ) (ts : List Spot) → IsWhole ts → IsLawful Expr after ts (arg_by n names used ts)
arg_law need.IntConst names used ts w = finish _ (scalar_arg_law IntConst names ts w) (λ x. refl)
arg_law need.IntTerm names used ts w = finish _ (scalar_arg_law IntTerm names ts w) (λ x. refl)
arg_law need.BoolTerm names used ts w = finish _ (scalar_arg_law BoolTerm names ts w) (λ x. refl)
arg_law need.SetConst names used ts w = finish _ (set_arg_law names ts w) (λ x. refl)
arg_law need.IntConsts names used ts w = finish _ (list_arg_law IntConst names used ts w) (λ x. refl)
arg_law need.IntTerms names used ts w = finish _ (list_arg_law IntTerm names used ts w) (λ x. refl)
arg_law need.BoolConsts names used ts w = finish _ (list_arg_law BoolConst names used ts w) (λ x. refl)
arg_law need.BoolTerms names used ts w = finish _ (list_arg_law BoolTerm names used ts w) (λ x. refl)

needed_law : (n : Option Need) (names : Names) (used : ℕ) (ts : List Spot) → IsWhole ts → IsLawful Expr after ts (needed_by n names used ts)
needed_law None names used ts w = refused (misfit names ts) ts w (misfit_shows names ts) expr_sample
needed_law (Some n) names used ts w = arg_law n names used ts w

one_arg_law : (builtin : ℕ) (names : Names) (done : Args) (ts : List Spot) → IsWhole ts → IsLawful Expr after ts (one_arg builtin names done ts)
unfolding one_arg
one_arg_law builtin names done ts w = finish _ (needed_law (slice_get (needs_of builtin) (length done.0)) names done.1 ts w) (λ x. refl)

built_at_law : (builtin : ℕ) (args : Args) (ts : List Spot) → IsWhole ts → IsLawful (Mark (codes ")")) after ts (built_at builtin args ts)
unfolding built_at
built_at_law builtin args ts w = choice (is_mark (codes ")") ts)
    (λ h. choice (is_argument_count builtin (length args.0)) (λ e. value_law code.Lengths (option_map (λ c. (c, args.1)) (constraint_of (shape_of builtin) args.0)) ts w (λ f. arguments_end (first ts) h) (took _ (takes_spelled kind.Mark (codes ")")) ts w h)) (λ e. refused code.WrongArguments ts w (wrong_end (first ts) h) (mark_sample (codes ")"))))
    (λ h. refused code.Syntax ts w refl (mark_sample (codes ")")))

known_law : (b : Option ℕ) (ts : List Spot) → IsWhole ts → (b ≡ None → may_show code.UnknownConstraint (first ts) ≡ true) → IsLawful (λ us. us ≡ []) (λ x. ts) ts (known b ts)
known_law None ts w h = refused code.UnknownConstraint ts w (h refl) ([], refl)
known_law (Some b) ts w h = is_ok _ (nothing_read ts refl w)

-- a name that the table lacks
unknown : (ts : List Spot) (name : List ℕ × List Spot) → name_at ts ≡ Ok name → is_name (first ts) ≡ true → numbered name.0 ≡ None → may_show code.UnknownConstraint (first ts) ≡ true
unfolding name_at
unknown ts name e z f = by_test (is_name (first ts)) z e
  where
    by_test : (b : Bool) → b ≡ true → cond b (Ok ((first ts).text, after_first ts)) (refuse code.Syntax ts) ≡ Ok name → (b && is_none (numbered (first ts).text)) ≡ true
    by_test true h g = let same : (first ts).text ≡ name.0 = cc in rw (ap numbered same ∙ f) refl
    by_test false h g = absurd (cc)

call_law : (used : ℕ) (names : Names) (ts : List Spot) → IsWhole ts → IsLawful Call after ts (call_at used names ts)
unfolding call_at
call_law used names ts w = given_as (name_law ts w) (before call_sample) (λ name e r. given (known_law (numbered name.0) ts w (λ f. unknown ts name e (first_passes r) f)) (behind_nothing (seq name_sample call_sample)) (λ builtin q. onward r (next (mark_law _ name.1 r.whole) (seq left_out (mark_sample (codes ")"))) (λ start p.
    next (separated_law _ (one_arg builtin names) (one_arg_law builtin names) expr_sample ([], used) start p) (mark_sample (codes ")")) (λ args p. built_at_law builtin args.0 args.1 p)))))

constraint_sample : Sample Constraint
unfolding Constraint
constraint_sample = seq (word_sample (codes "constraint")) (seq (seq name_sample call_sample) annotations_sample)

solve_sample : Sample Solve
unfolding Solve
solve_sample = seq (word_sample (codes "solve")) (seq annotations_sample satisfy_sample)

-- from its "constraint" on
pub constraint_law : (d : Stated) (ts : List Spot) → IsWhole ts → Reads (Keyword (codes "constraint")) ts (after_first ts) → IsLawful Constraint after ts (constraint_at d ts)
unfolding constraint_at Constraint
constraint_law d ts w r = choice (nat_lt d.items 200000)
    (λ h. onward r (next (call_law d.elements d.names (after_first ts) r.whole) annotations_sample (λ con p. finish _ (annotations_law _ passed_law tt con.1 p) (λ x. refl))))
    (λ h. refused code.TooMany ts w (many_constraints (first ts) (first_passes r)) constraint_sample)

solve_ann_law : (found : Option (List Spot)) (ts : List Spot) → IsWhole ts → IsLawful Ann after ts (solve_ann found ts)
unfolding solve_ann
solve_ann_law found ts w = finish _ (ann_law ts w) (λ x. refl)

goal_law : (names : Names) (ts : List Spot) → IsWhole ts → IsLawful (Keyword (codes "satisfy") ∣ ((Keyword (codes "minimize") ∣ Keyword (codes "maximize")) · Expr)) after ts (goal_at names ts)
unfolding goal_at
goal_law names ts w =
    choice (is_word (codes "satisfy") ts) (λ h. is_ok _ (wider (λ us p. inl p) (took_word _ ts w h)))
    (λ h. choice (is_word (codes "minimize") ts) (λ h. widen (λ us p. inr p) (let r = took_word (codes "minimize") ts w h in onward (wider (λ us p. inl p) r) (finish (λ x. (goal.Minimise x.0, x.1)) (scalar_arg_law IntTerm names (after_first ts) r.whole) (λ x. refl))))
    (λ h. choice (is_word (codes "maximize") ts) (λ h. widen (λ us p. inr p) (let r = took_word (codes "maximize") ts w h in onward (wider (λ us p. inr p) r) (finish (λ x. (goal.Maximise x.0, x.1)) (scalar_arg_law IntTerm names (after_first ts) r.whole) (λ x. refl))))
    (λ h. refused code.Syntax ts w refl satisfy_sample)))

-- from its "solve" on
pub solve_law : (d : Stated) (ts : List Spot) → IsWhole ts → Reads (Keyword (codes "solve")) ts (after_first ts) → IsLawful Solve after ts (solve_at d ts)
unfolding solve_at Solve
solve_law d ts w r = choice (is_some d.goal) (λ h. refused code.TwoSolves ts w (first_passes r) solve_sample)
    (λ h. onward r (next (annotations_law _ solve_ann_law None (after_first ts) r.whole) satisfy_sample (λ search p. finish _ (goal_law d.names search.1 p) (λ x. refl))))
