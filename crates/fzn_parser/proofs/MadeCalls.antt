-- Constraints, and what is sought: what is read is what their rules make, and what these make is read.
use Rattle.std.proofs.Common.{◌≡◌, ℕ, List, [], ◌∷◌, ◌++◌, length, Bool, true, false, cond, Option, Some, None, Result, Ok, Err, refl, sym, ap, subst, ◌∙◌, inl, inr, codes, is_some, nat_lt, arith}
use Rattle.std.specs.Prelude.{option_map, slice_get}
use Rattle.fzn_lexer.specs.Spots.{Spot, first, after_first}
use Rattle.fzn_lexer.specs.declared.kind.Kind.TheVariants as kind
use Rattle.fzn_model.specs.declared.term.Term.{Term}
use Rattle.fzn_model.specs.declared.con.Con.{Con}
use Rattle.fzn_model.specs.declared.goal.Goal.{Goal}
use Rattle.fzn_model.specs.declared.goal.Goal.TheVariants as goals
use Rattle.fzn_builtin.specs.declared.arg.Arg.{Arg}
use Rattle.fzn_builtin.specs.declared.arg.Arg.TheVariants as arg
use Rattle.fzn_builtin.specs.declared.needs.Need.{Need}
use Rattle.fzn_builtin.specs.declared.needs.Need.TheVariants as need
use Rattle.fzn_builtin.specs.Builtins.{numbered, needs_of, shape_of}
use Rattle.fzn_builtin.specs.Constraints.{constraint_of}
use Rattle.fzn_reader.specs.declared.code.Code.TheVariants as code
use Rattle.fzn_reader.specs.declared.scalar.Scalar.{Scalar}
use Rattle.fzn_reader.specs.declared.scalar.Scalar.TheVariants.{IntConst, IntTerm, BoolConst, BoolTerm}
use Rattle.fzn_reader.specs.declared.refused.Refused.{Refused}
use Rattle.fzn_reader.specs.Refusals.{◌>>=◌ as ◌then◌, value_or, is_kind, is_mark, is_word}
use Rattle.fzn_reader.specs.Names.{Names}
use Rattle.fzn_reader.specs.Scalars.{scalar_at}
use Rattle.fzn_reader.specs.Constraints.{Args, arg_by, needed_by, one_arg, is_argument_count, built_at, known, call_at, constraint_at}
use Rattle.fzn_reader.specs.Solving.{goal_at, solve_at}
use Rattle.fzn_reader.specs.Drafts.{Stated}
use Rattle.fzn_parser.specs.Rules.{Rule, ◌>>=◌, makes, some, holds, mark, word}
use Rattle.fzn_parser.specs.States.{scalar, argument, one_argument, call, constraint, goal, solve}
use Rattle.fzn_parser.proofs.Lawful.{takes_spelled}
use Rattle.fzn_parser.proofs.Formed.{other_kind}
use Rattle.fzn_parser.proofs.Made.{Ready, IsMade, Free, err_sound, choice, widen, behind, next_if, next, pass, done, tested, untested, from, mark_made, name_made}
use Rattle.fzn_parser.proofs.MadeLists.{At, marks, commas_made}
use Rattle.fzn_parser.proofs.MadeExprs.{NoDots, no_dots, set_made}
use Rattle.fzn_parser.proofs.MadeTerms.{scalar_made, scalar_no_mark, set_no_mark, list_no_mark, list_made}
use Rattle.fzn_parser.proofs.MadeAnns.{Ended, ended, passed_made, search_made}
use Rattle.fzn_parser.proofs.MadeItems.{words, alone}

int_made : {A : Type 0} (f : Term → A) (s : Scalar) (names : Names) (ts : List Spot) → Ready ts → IsMade (scalar s names >>= λ t. makes (f t)) NoDots ts (◌then◌ (scalar_at s names ts) (λ x. Ok (f x.0, x.1)))
int_made f s names ts w = next_if w (scalar_made s names ts w) (λ a mid rest b p q. subst NoDots (sym p.0) q) (λ x v. done _ v)

argument_made : (n : Need) (names : Names) (used : ℕ) (ts : List Spot) → Ready ts → IsMade (argument n names used) NoDots ts (arg_by n names used ts)
unfolding argument
argument_made need.IntConst names used ts w = int_made (λ t. (arg.Int t, used)) IntConst names ts w
argument_made need.IntTerm names used ts w = int_made (λ t. (arg.Int t, used)) IntTerm names ts w
argument_made need.BoolTerm names used ts w = int_made (λ t. (arg.Bool t, used)) BoolTerm names ts w
argument_made need.SetConst names used ts w = next w (set_made names ts w) (λ x v. done _ v)
argument_made need.IntConsts names used ts w = next w (list_made IntConst names used ts w) (λ x v. done _ v)
argument_made need.IntTerms names used ts w = next w (list_made IntTerm names used ts w) (λ x v. done _ v)
argument_made need.BoolConsts names used ts w = next w (list_made BoolConst names used ts w) (λ x v. done _ v)
argument_made need.BoolTerms names used ts w = next w (list_made BoolTerm names used ts w) (λ x v. done _ v)

-- what an option has
pub given : {A B : Type 0} {Y : A → Rule B} {Q : List Spot → Type 0} {ts : List Spot} {read : Result (B × List Spot) Refused} {o : Option A} (x : A) → o ≡ Some x → Ready ts → IsMade (Y x) Q ts read → IsMade (some o >>= Y) Q ts read
given {Y = Y} {ts = ts} x e w p = record {
  sound = behind (record { made = (refl, e); whole = w.whole; shorter = omega arith }) p.sound;
  exact = λ b rest q n. (
      let f = q.first.1 in
      let same : q.value ≡ x = cc in
      p.exact b rest (subst (λ y. Y y ts rest b) same (subst (λ (us : List Spot). Y q.value us rest b) (sym q.first.0) q.second)) n);
}

-- what an option lacks is not made
pub lacking : {A B : Type 0} {Y : A → Rule B} {Q : List Spot → Type 0} {ts : List Spot} {o : Option A} (r : Refused) → o ≡ None → IsMade (some o >>= Y) Q ts (Err r)
lacking r e = record { sound = err_sound _; exact = λ b rest q n. (let f = q.first.1 in absurd (cc)) }

needed_made : (builtin : ℕ) (names : Names) (before : Args) (ts : List Spot) → Ready ts → (o : Option Need) → slice_get (needs_of builtin) (length before.0) ≡ o
    → IsMade (one_argument builtin names before) NoDots ts (◌then◌ (needed_by o names before.1 ts) (λ a. Ok ((before.0 ++ a.0.0 ∷ [], a.0.1), a.1)))
unfolding one_argument
needed_made builtin names before ts w None e = lacking _ e
needed_made builtin names before ts w (Some n) e = given n e w (next_if w (argument_made n names before.1 ts w) (λ a mid rest b p q. subst NoDots (sym p.0) q) (λ x v. done _ v))

one_argument_made : (builtin : ℕ) (names : Names) (before : Args) (ts : List Spot) → Ready ts → IsMade (one_argument builtin names before) NoDots ts (one_arg builtin names before ts)
unfolding one_arg
one_argument_made builtin names before ts w = needed_made builtin names before ts w _ refl

argument_no_mark : (n : Need) (names : Names) (used : ℕ) (ts rest : List Spot) (a : Arg × ℕ) → argument n names used ts rest a → is_mark (codes ")") ts ≡ false
unfolding argument
argument_no_mark need.IntConst names used ts rest a p = scalar_no_mark (codes ")") IntConst names ts p.mid p.value p.first
argument_no_mark need.IntTerm names used ts rest a p = scalar_no_mark (codes ")") IntTerm names ts p.mid p.value p.first
argument_no_mark need.BoolTerm names used ts rest a p = scalar_no_mark (codes ")") BoolTerm names ts p.mid p.value p.first
argument_no_mark need.SetConst names used ts rest a p = set_no_mark (codes ")") refl names ts p.mid p.value p.first
argument_no_mark need.IntConsts names used ts rest a p = list_no_mark (codes ")") refl IntConst names used ts p.mid p.value p.first
argument_no_mark need.IntTerms names used ts rest a p = list_no_mark (codes ")") refl IntTerm names used ts p.mid p.value p.first
argument_no_mark need.BoolConsts names used ts rest a p = list_no_mark (codes ")") refl BoolConst names used ts p.mid p.value p.first
argument_no_mark need.BoolTerms names used ts rest a p = list_no_mark (codes ")") refl BoolTerm names used ts p.mid p.value p.first

one_argument_no_mark : (builtin : ℕ) (names : Names) (before after : Args) (ts mid : List Spot) → one_argument builtin names before ts mid after → is_mark (codes ")") ts ≡ false
unfolding one_argument
one_argument_no_mark builtin names before after ts mid p = ap (is_mark (codes ")")) p.first.0 ∙ argument_no_mark p.value names before.1 p.mid p.second.mid p.second.value p.second.first

-- the ")" behind the arguments, and the constraint that the table has for them
abbrev Built : Bool → Option Con → ℕ → Rule (Con × ℕ)
Built whole o used = holds whole >>= λ u. some o >>= λ con. mark (codes ")") >>= λ v. makes {A = Con × ℕ} (con, used)

build_by : (r s t : Refused) (used : ℕ) (ts : List Spot) → Ready ts → (m : Bool) → is_mark (codes ")") ts ≡ m → (b : Bool) (o : Option Con) → IsMade (Built b o used) Free ts (cond m (cond b (value_or code.Lengths (option_map (λ c. (c, used)) o) ts) (Err r)) (Err s))
build_by r s t used ts w true h true None = record { sound = err_sound _; exact = λ x rest p n. (let e = p.second.first.1 in absurd (cc)) }
build_by r s t used ts w true h true (Some con) = tested r true w (λ e. given con refl w (from (takes_spelled kind.Mark (codes ")")) w h (λ v. done _ v)))
build_by r s t used ts w true h false o = record { sound = err_sound _; exact = λ x rest p n. (let e = p.first.1 in absurd (cc)) }
build_by r s t used ts w false h b o = record { sound = err_sound _; exact = λ x rest p n. (let e : is_mark (codes ")") ts ≡ true = ap (is_mark (codes ")")) (p.first.0 ∙ p.second.first.0) ∙ marks p.second.second.first in absurd (cc)) }

built_made : (builtin : ℕ) (args : Args) (ts : List Spot) → Ready ts → IsMade (Built (is_argument_count builtin (length args.0)) (constraint_of (shape_of builtin) args.0) args.1) Free ts (built_at builtin args ts)
unfolding built_at
built_made builtin args ts w = build_by _ _ (record { code = code.Syntax; line = 0; from = 0; to = 0 }) args.1 ts w (is_mark (codes ")") ts) refl (is_argument_count builtin (length args.0)) (constraint_of (shape_of builtin) args.0)

known_made : {B : Type 0} {Y : ℕ → Rule B} {Q : List Spot → Type 0} {ts : List Spot} (us : List Spot) (o : Option ℕ) (f : ℕ → Result (B × List Spot) Refused) → Ready ts → ((b : ℕ) → IsMade (Y b) Q ts (f b)) → IsMade (some o >>= Y) Q ts (◌then◌ (known o us) f)
known_made us None f w k = lacking _ refl
known_made us (Some b) f w k = given b refl w (k b)

call_made : (used : ℕ) (names : Names) (ts : List Spot) → Ready ts → IsMade (call used names) Free ts (call_at used names ts)
unfolding call call_at
call_made used names ts w = next w (name_made ts w) (λ name v. known_made ts (numbered name.0) _ v (λ builtin. pass v (mark_made _ name.1 v) (λ open_ v.
    next_if v (commas_made NoDots (codes ")") refl (one_arg builtin names) (one_argument_made builtin names) (one_argument_no_mark builtin names) (no_dots (codes ")") refl) (no_dots (codes ",") refl) ([], used) open_ v)
    (λ a mid rest b p q. subst (At (codes ")")) (sym (p.first.0 ∙ p.second.first.0)) (marks p.second.second.first)) (λ args v. built_made builtin args.0 args.1 v))))

-- from its "constraint" on
pub constraint_made : (d : Stated) (ts : List Spot) → Ready ts → is_word (codes "constraint") ts ≡ true → IsMade (constraint d) (At (codes ";")) ts (constraint_at d ts)
unfolding constraint constraint_at
constraint_made d ts w h = tested _ (nat_lt d.items 200000) w (λ e. from (takes_spelled kind.Word (codes "constraint")) w h (λ v. next v (call_made d.elements d.names _ v) (λ con v.
    next_if v (passed_made con.1 v) (λ a mid rest b p q. ended (codes ";") refl refl mid (subst (At (codes ";")) (sym p.0) q)) (λ anns v. done _ v))))

sought : (text : List ℕ) (f : Term → Goal) (names : Names) (ts : List Spot) → Ready ts → is_word text ts ≡ true → IsMade (word text >>= λ u. scalar IntTerm names >>= λ t. makes (f t)) NoDots ts (◌then◌ (scalar_at IntTerm names (after_first ts)) (λ x. Ok (f x.0, x.1)))
sought text f names ts w h = from (takes_spelled kind.Word text) w h (λ v. int_made f IntTerm names _ v)

goal_made : (names : Names) (ts : List Spot) → Ready ts → IsMade (goal names) NoDots ts (goal_at names ts)
unfolding goal goal_at
goal_made names ts w = record {
  sound =
      choice (is_word (codes "satisfy") ts) (λ h. widen (λ rest a p. inl p) (alone _ _ ts w h).sound)
      (λ h. choice (is_word (codes "minimize") ts) (λ h. widen (λ rest a p. inr (inl p)) (sought _ goals.Minimise names ts w h).sound)
      (λ h. choice (is_word (codes "maximize") ts) (λ h. widen (λ rest a p. inr (inr p)) (sought _ goals.Maximise names ts w h).sound) (λ h. err_sound _)));
  exact = λ a rest p n. elim p [
    | inl p ↦ (let k = words p.first in let s = k.seen in let t = k.is in let e = k.behind ∙ p.second.0 in let f = p.second.1 in rw (s, t) cc)
    | inr p ↦ elim p [
      | inl p ↦ (let k = words p.first in let s = k.seen in let t = k.is in rw (s, t) ((sought (codes "minimize") goals.Minimise names ts w (rw (s, t) refl)).exact a rest p n))
      | inr p ↦ (let k = words p.first in let s = k.seen in let t = k.is in rw (s, t) ((sought (codes "maximize") goals.Maximise names ts w (rw (s, t) refl)).exact a rest p n))
    ]
  ];
}

word_ended : (ts : List Spot) → is_kind kind.Word (first ts).seen ≡ true → Ended ts
word_ended [] h = absurd (cc)
word_ended (s ∷ ss) h = record { beyond = record { round = other_kind kind.Word kind.Mark (codes "(") s refl h; some = omega arith }; colons = other_kind kind.Word kind.Mark (codes "::") s refl h }

goal_ended : (names : Names) (ts rest : List Spot) (a : Goal) → goal names ts rest a → Ended ts
unfolding goal
goal_ended names ts rest a p = elim p [
  | inl p ↦ word_ended ts (rw (words p.first).seen refl)
  | inr p ↦ elim p [ inl p ↦ word_ended ts (rw (words p.first).seen refl) | inr p ↦ word_ended ts (rw (words p.first).seen refl) ]
]

-- from its "solve" on
pub solve_made : (d : Stated) (ts : List Spot) → Ready ts → is_word (codes "solve") ts ≡ true → IsMade (solve d) (At (codes ";")) ts (solve_at d ts)
unfolding solve solve_at
solve_made d ts w h = untested _ (is_some d.goal) w (λ e. from (takes_spelled kind.Word (codes "solve")) w h (λ v. next_if v (search_made _ v) (λ a mid rest b p q. goal_ended d.names mid p.mid p.value p.first) (λ search v.
    next_if v (goal_made d.names search.1 v) (λ a mid rest b p q. no_dots (codes ";") refl mid (subst (At (codes ";")) (sym p.0) q)) (λ x v. done _ v))))
