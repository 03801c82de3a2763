-- The items that declare names: what is read is what their rules make, and what these make is read.
use Rattle.std.proofs.Common.{◌≡◌, ℕ, List, length, Bool, true, false, Option, Some, None, Result, Ok, refl, sym, subst, ◌∙◌, inl, inr, codes, is_some, nat_lt, ℤ, arith}
use Rattle.fzn_lexer.specs.Spots.{Spot, first, after_first}
use Rattle.fzn_lexer.specs.declared.seen.Seen.TheVariants.{Known}
use Rattle.fzn_lexer.specs.declared.kind.Kind.TheVariants as kind
use Rattle.fzn_model.specs.declared.term.Term.{Term}
use Rattle.fzn_reader.specs.declared.begin.Begin.{Begin}
use Rattle.fzn_reader.specs.declared.begin.Begin.TheVariants as begin
use Rattle.fzn_reader.specs.declared.par_type.ParType.{ParType}
use Rattle.fzn_reader.specs.declared.par_type.ParType.TheVariants as par
use Rattle.fzn_reader.specs.declared.scalar.Scalar.{Scalar}
use Rattle.fzn_reader.specs.declared.scalar.Scalar.TheVariants.{IntConst, BoolConst}
use Rattle.fzn_reader.specs.declared.refused.Refused.{Refused}
use Rattle.fzn_reader.specs.Refusals.{◌>>=◌ as ◌then◌, is_kind, is_spelled, is_mark, is_word, word_at}
use Rattle.fzn_reader.specs.Names.{Names, find_name}
use Rattle.fzn_reader.specs.Exprs.{begins}
use Rattle.fzn_reader.specs.Scalars.{scalar_at}
use Rattle.fzn_reader.specs.Types.{partype_at, vartype_at, set_type, set_type_by, new_name_at}
use Rattle.fzn_reader.specs.Items.{value_by, parameter_at, term_need, initialiser_at, variable_at}
use Rattle.fzn_reader.specs.Drafts.{Stated}
use Rattle.fzn_parser.specs.Rules.{Rule, ◌>>=◌, makes, Stands, mark, word}
use Rattle.fzn_parser.specs.States.{bounds, range, braces, scalar, partype, vartype, new_name, value, parameter, initialiser, variable}
use Rattle.fzn_parser.proofs.Lawful.{both, takes_spelled}
use Rattle.fzn_parser.proofs.BeginLaws.{Shown, shown}
use Rattle.fzn_parser.proofs.Formed.{seen_is, text_is}
use Rattle.fzn_parser.proofs.FormedBegins.{begins_kind_number, begins_mark}
use Rattle.fzn_parser.proofs.Made.{Ready, IsSound, IsMade, Free, ok_sound, err_sound, choice, widen, next_if, next, pass, done, tested, untested, stood, from, mark_made, word_made, name_made}
use Rattle.fzn_parser.proofs.MadeLists.{At, marks, apart}
use Rattle.fzn_parser.proofs.MadeExprs.{NoDots, no_dots, number_first, range_made, braces_made, set_made}
use Rattle.fzn_parser.proofs.MadeTerms.{scalar_made}
use Rattle.fzn_parser.proofs.MadeAnns.{Ended, ended, passed_made, output_var_made}

-- a word that stands first
pub record Worded (text : List ℕ) (ts rest : List Spot) : Type 0 where
  pub seen : (first ts).seen ≡ Known kind.Word
  pub is : (first ts).text ≡ text
  pub behind : after_first ts ≡ rest

pub words : {text : List ℕ} {ts rest : List Spot} → Stands (is_spelled kind.Word text) ts rest → Worded text ts rest
words {text} {ts} s = let k = stood (takes_spelled kind.Word text) s in record { seen = seen_is kind.Word (first ts).seen (both _ _ k.passes).0; is = text_is kind.Word text (first ts) k.passes; behind = k.behind }

-- nothing of a rule but a word
pub alone : {A : Type 0} (text : List ℕ) (a : A) (ts : List Spot) → Ready ts → is_word text ts ≡ true → IsMade (word text >>= λ u. makes a) Free ts (Ok (a, after_first ts))
alone text a ts w h = from (takes_spelled kind.Word text) w h (λ v. done _ v)

partype_set : (ts : List Spot) → Ready ts → is_word (codes "set") ts ≡ true → IsMade (word (codes "set") >>= λ u. word (codes "of") >>= λ v. word (codes "int") >>= λ x. makes par.Set) Free ts (◌then◌ (word_at (codes "of") (after_first ts)) (λ of. ◌then◌ (word_at (codes "int") of) (λ int. Ok (par.Set, int))))
partype_set ts w h = from (takes_spelled kind.Word (codes "set")) w h (λ v. pass v (word_made _ _ v) (λ of v. pass v (word_made _ of v) (λ int v. done _ v)))

pub partype_made : (ts : List Spot) → Ready ts → IsMade partype Free ts (partype_at ts)
unfolding partype partype_at
partype_made ts w = record {
  sound =
      choice (is_word (codes "bool") ts) (λ h. widen (λ rest a p. inl p) (alone _ _ ts w h).sound)
      (λ h. choice (is_word (codes "int") ts) (λ h. widen (λ rest a p. inr (inl p)) (alone _ _ ts w h).sound)
      (λ h. choice (is_word (codes "set") ts) (λ h. widen (λ rest a p. inr (inr p)) (partype_set ts w h).sound)
      (λ h. choice (is_word (codes "float") ts) (λ h. err_sound _) (λ h. err_sound _))));
  exact = λ a rest p n. elim p [
    | inl p ↦ (let k = words p.first in let s = k.seen in let t = k.is in let e = k.behind ∙ p.second.0 in let f = p.second.1 in rw (s, t) cc)
    | inr p ↦ elim p [
      | inl p ↦ (let k = words p.first in let s = k.seen in let t = k.is in let e = k.behind ∙ p.second.0 in let f = p.second.1 in rw (s, t) cc)
      | inr p ↦ (let k = words p.first in let s = k.seen in let t = k.is in rw (s, t) ((partype_set ts w (rw (s, t) refl)).exact a rest p tt))
    ]
  ];
}

-- what begins a set of a type
pub brace_mark : (ts : List Spot) → begins ts ≡ begin.Brace → At (codes "{") ts
brace_mark ts e = subst (λ (b : Begin). Shown b (first ts).seen (first ts).text) e (shown ts)

pub braces_mark : (ts rest : List Spot) (a : List (ℤ × ℤ)) → braces ts rest a → At (codes "{") ts
unfolding braces
braces_mark ts rest a p = marks p.first

range_number : (ts rest : List Spot) (a : List (ℤ × ℤ)) → range ts rest a → is_kind kind.Number (first ts).seen ≡ true
unfolding range bounds
range_number ts rest a p = number_first ts p.first.mid p.first.value p.first.first

set_type_made : {X : Rule (List (ℤ × ℤ))} {ts : List Spot} {read : Result (List (ℤ × ℤ) × List Spot) Refused} → Ready ts → IsMade X Free ts read → IsMade (X >>= λ set. makes (record { set = set; truth = false })) Free ts (◌then◌ read set_type)
set_type_made w p = next w p (λ set v. done _ v)

set_type_sound : (b : Begin) (ts : List Spot) → Ready ts → begins ts ≡ b → IsSound vartype ts (set_type_by b ts)
unfolding vartype
set_type_sound begin.Brace ts w e = widen (λ rest a p. inr (inr (inr p))) (set_type_made w (braces_made ts w (brace_mark ts e))).sound
set_type_sound b ts w e = widen (λ rest a p. inr (inr (inl p))) (set_type_made w (range_made ts w)).sound

pub vartype_made : (ts : List Spot) → Ready ts → IsMade vartype Free ts (vartype_at ts)
unfolding vartype vartype_at
vartype_made ts w = record {
  sound =
      choice (is_word (codes "bool") ts) (λ h. widen (λ rest a p. inl p) (alone _ _ ts w h).sound)
      (λ h. choice (is_word (codes "int") ts) (λ h. widen (λ rest a p. inr (inl p)) (alone _ _ ts w h).sound)
      (λ h. choice (is_word (codes "float") ts) (λ h. err_sound _)
      (λ h. choice (is_word (codes "set") ts) (λ h. err_sound _) (λ h. set_type_sound (begins ts) ts w refl))));
  exact = λ a rest p n. elim p [
    | inl p ↦ (let k = words p.first in let s = k.seen in let t = k.is in let e = k.behind ∙ p.second.0 in let f = p.second.1 in rw (s, t) cc)
    | inr p ↦ elim p [
      | inl p ↦ (let k = words p.first in let s = k.seen in let t = k.is in let e = k.behind ∙ p.second.0 in let f = p.second.1 in rw (s, t) cc)
      | inr p ↦ elim p [
        | inl p ↦ (let h = range_number ts p.mid p.value p.first in let s = seen_is kind.Number (first ts).seen h in rw (begins_kind_number ts h, s) ((set_type_made w (range_made ts w)).exact a rest p tt))
        | inr p ↦ (let h = braces_mark ts p.mid p.value p.first in let s = seen_is kind.Mark (first ts).seen (both _ _ h).0 in rw (begins_mark ts begin.Brace (codes "{") refl h, s) ((set_type_made w (braces_made ts w h)).exact a rest p tt))
      ]
    ]
  ];
}

pub new_name_made : (room : Bool) (names : Names) (ts : List Spot) → Ready ts → IsMade (new_name room names) Free ts (new_name_at room names ts)
unfolding new_name new_name_at
new_name_made room names ts w = next w (name_made ts w) (λ name v. untested _ (is_some (find_name names name.0)) v (λ h. tested _ room v (λ h. done name.0 v)))

-- behind the value of a rule stands what stands behind it
no_dots_at : {A : Type 0} {x a : A} (mid rest : List Spot) → makes x mid rest a → At (codes ";") rest → NoDots mid
no_dots_at mid rest p q = no_dots (codes ";") refl mid (subst (At (codes ";")) (sym p.0) q)

pub value_made : (ty : ParType) (names : Names) (ts : List Spot) → Ready ts → IsMade (value ty names) (At (codes ";")) ts (value_by ty names ts)
unfolding value
value_made par.Bool names ts w = next_if w (scalar_made BoolConst names ts w) (λ a mid rest b p q. no_dots_at mid rest p q) (λ x v. done _ v)
value_made par.Int names ts w = next_if w (scalar_made IntConst names ts w) (λ a mid rest b p q. no_dots_at mid rest p q) (λ x v. done _ v)
value_made par.Set names ts w = next w (set_made names ts w) (λ x v. done _ v)

pub parameter_made : (d : Stated) (ts : List Spot) → Ready ts → IsMade (parameter d) (At (codes ";")) ts (parameter_at d ts)
unfolding parameter parameter_at
parameter_made d ts w = next w (partype_made ts w) (λ ty v. pass v (mark_made _ ty.1 v) (λ colon v. next v (new_name_made true d.names colon v) (λ name v.
    next_if v (passed_made name.1 v) (λ a mid rest b p q. ended (codes "=") refl refl mid (marks p.first)) (λ anns v. pass v (mark_made _ anns.1 v) (λ equals v.
    next_if v (value_made ty.0 d.names equals v) (λ a mid rest b p q. subst (At (codes ";")) (sym p.0) q) (λ x v. done _ v))))))

initialiser_made : (s : Scalar) (names : Names) (ts : List Spot) → Ready ts → IsMade (initialiser s names) (At (codes ";")) ts (initialiser_at s names ts)
unfolding initialiser initialiser_at
initialiser_made s names ts w = record {
  sound = choice (is_mark (codes "=") ts) (λ h. widen (λ rest a p. inr p) (given h).sound) (λ h. ok_sound (None, ts) (record { made = inl (refl, refl); whole = w.whole; shorter = omega arith }));
  exact = λ a rest p q. elim p [
    | inl p ↦ (let e = p.0 in let f = p.1 in let h = apart (codes ";") (codes "=") ts refl (subst (At (codes ";")) (sym e) q) in rw h cc)
    | inr p ↦ (let h = marks p.first in rw h ((given h).exact a rest p q))
  ];
}
  where
    given : At (codes "=") ts → IsMade (mark (codes "=") >>= λ u. scalar s names >>= λ t. makes (Some t)) (At (codes ";")) ts (◌then◌ (scalar_at s names (after_first ts)) (λ x. Ok (Some x.0, x.1)))
    given h = from (takes_spelled kind.Mark (codes "=")) w h (λ v. next_if v (scalar_made s names _ v) (λ a mid rest b p q. no_dots_at mid rest p q) (λ x v. done _ v))

initialiser_ended : (s : Scalar) (names : Names) (ts mid rest : List Spot) (a : Option Term) → initialiser s names ts mid a → mid ≡ rest → At (codes ";") rest → Ended ts
unfolding initialiser
initialiser_ended s names ts mid rest a p e q = elim p [
  | inl p ↦ ended (codes ";") refl refl ts (subst (At (codes ";")) (sym (p.0 ∙ e)) q)
  | inr p ↦ ended (codes "=") refl refl ts (marks p.first)
]

-- from its "var" on
pub variable_made : (d : Stated) (ts : List Spot) → Ready ts → is_word (codes "var") ts ≡ true → IsMade (variable d) (At (codes ";")) ts (variable_at d ts)
unfolding variable variable_at
variable_made d ts w h = from (takes_spelled kind.Word (codes "var")) w h (λ v. next v (vartype_made _ v) (λ ty v. pass v (mark_made _ ty.1 v) (λ colon v. next v (new_name_made (nat_lt (length d.doms) 100000) d.names colon v) (λ name v.
    next_if v (output_var_made name.1 v) (λ a mid rest b p q. initialiser_ended (term_need ty.0.truth) d.names mid p.mid rest p.value p.first p.second.0 q) (λ output v.
    next_if v (initialiser_made (term_need ty.0.truth) d.names output.1 v) (λ a mid rest b p q. subst (At (codes ";")) (sym p.0) q) (λ x v. done _ v))))))
