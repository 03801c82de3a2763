-- Arrays: what is read is what their rules make, and what these make is read.
use Rattle.std.proofs.Common.{◌≡◌, ℕ, List, [], length, Bool, true, false, cond, ◌⊎◌, Result, Ok, Err, refl, sym, ap, subst, ◌∙◌, inl, inr, codes, nat_eq, arith}
use Rattle.std.specs.Str.{bytes_eq}
use Rattle.fzn_lexer.specs.Spots.{Spot, first, after_first}
use Rattle.fzn_lexer.specs.declared.kind.Kind.TheVariants as kind
use Rattle.fzn_reader.specs.declared.decl.Decl.{Decl}
use Rattle.fzn_reader.specs.declared.par_type.ParType.{ParType}
use Rattle.fzn_reader.specs.declared.par_type.ParType.TheVariants as par
use Rattle.fzn_reader.specs.declared.scalar.Scalar.{Scalar}
use Rattle.fzn_reader.specs.declared.scalar.Scalar.TheVariants.{IntConst, BoolConst}
use Rattle.fzn_reader.specs.declared.refused.Refused.{Refused}
use Rattle.fzn_reader.specs.Refusals.{◌>>=◌ as ◌then◌, is_kind, is_spelled, is_mark, is_word, mark_at, repeat, most}
use Rattle.fzn_reader.specs.Names.{Names}
use Rattle.fzn_reader.specs.Lists.{ends_list, elements_at}
use Rattle.fzn_reader.specs.Items.{term_need, one_at, length_at, opening_at, closing_at, list_at, one_set, sets_at, values_by, parameters_at, variables_at, array_at}
use Rattle.fzn_reader.specs.Drafts.{Stated}
use Rattle.fzn_parser.specs.Rules.{Rule, ◌>>=◌, makes, holds, token, mark, Listed}
use Rattle.fzn_parser.specs.States.{element, set_element, partype, size, listing, values, parameters, variables, array}
use Rattle.fzn_parser.proofs.Lawful.{takes_spelled}
use Rattle.fzn_parser.proofs.ListLaws.{regroup}
use Rattle.fzn_parser.proofs.Made.{Ready, IsMade, IsPassed, Free, err_sound, choice, widen, behind, next_if, next, pass, done, stood, from, token_made, mark_made, word_made}
use Rattle.fzn_parser.proofs.MadeLists.{At, marks}
use Rattle.fzn_parser.proofs.MadeExprs.{number_made}
use Rattle.fzn_parser.proofs.MadeTerms.{elements_made, sets_made}
use Rattle.fzn_parser.proofs.MadeAnns.{ended, passed_made, outputs_made}
use Rattle.fzn_parser.proofs.MadeItems.{words, partype_made, vartype_made, new_name_made}

one_made : (ts : List Spot) → Ready ts → IsPassed (token (is_spelled kind.Number (codes "1"))) Free ts (one_at ts)
unfolding one_at
one_made ts w = token_made _ (takes_spelled kind.Number (codes "1")) w

size_made : (ts : List Spot) → Ready ts → IsMade size Free ts (length_at ts)
unfolding size length_at
size_made ts w = pass w (mark_made _ ts w) (λ bracket v. pass v (one_made bracket v) (λ one v. pass v (mark_made _ one v) (λ dots v. next v (number_made dots v) (λ count v. pass v (mark_made _ count.1 v) (λ close v. pass v (word_made _ close v) (λ of v. done _ v))))))

-- the "]" of a list, where a test holds
abbrev Closing : {A : Type 0} → Bool → A → Rule A
Closing b a = holds b >>= λ u. mark (codes "]") >>= λ v. makes a

close_by : {A : Type 0} (r s : Refused) (a : A) (ts : List Spot) → Ready ts → (m : Bool) → is_mark (codes "]") ts ≡ m → (b : Bool) → IsMade (Closing b a) Free ts (◌then◌ (cond m (cond b (Ok (after_first ts)) (Err r)) (Err s)) (λ close. Ok (a, close)))
close_by r s a ts w true h true = record {
  sound = behind (record { made = (refl, refl); whole = w.whole; shorter = omega arith }) (from {Q = Free} (takes_spelled kind.Mark (codes "]")) w h (λ v. done a v)).sound;
  exact = λ x rest p n. (let e = ap after_first p.first.0 ∙ (stood (takes_spelled kind.Mark (codes "]")) p.second.first).behind ∙ p.second.second.0 in let f = p.second.second.1 in cc);
}
close_by r s a ts w true h false = record { sound = err_sound _; exact = λ x rest p n. (let e = p.first.1 in absurd (cc)) }
close_by r s a ts w false h b = record { sound = err_sound _; exact = λ x rest p n. (let e : is_mark (codes "]") ts ≡ true = ap (is_mark (codes "]")) p.first.0 ∙ marks p.second.first in absurd (cc)) }

closing_made : {A : Type 0} (count declared : ℕ) (a : A) (ts : List Spot) → Ready ts → IsMade (Closing (nat_eq count declared) a) Free ts (◌then◌ (closing_at count declared ts) (λ close. Ok (a, close)))
unfolding closing_at
closing_made count declared a ts w = close_by _ _ a ts w (is_mark (codes "]") ts) refl (nat_eq count declared)

listing_made : {S : Type 0} {X : S → Rule S} (s : S) (count : S → ℕ) (declared : ℕ) (read : List Spot → Result (S × List Spot) Refused) → ((ts : List Spot) → Ready ts → IsMade (Listed X s) (At (codes "]")) ts (read ts)) → (ts : List Spot) → Ready ts
    → IsMade (listing X s count declared) Free ts (◌then◌ (opening_at ts) (λ bracket. ◌then◌ (read bracket) (λ e. ◌then◌ (closing_at (count e.0) declared e.1) (λ close. Ok (e.0, close)))))
unfolding listing opening_at
listing_made {S = S} s count declared read law ts w = rw (regroup {D = S × List Spot} (mark_at (codes "=") ts) (λ equals. mark_at (codes "[") equals) (λ bracket. ◌then◌ (read bracket) (λ e. ◌then◌ (closing_at (count e.0) declared e.1) (λ close. Ok (e.0, close)))))
    (pass w (mark_made _ ts w) (λ equals v. pass v (mark_made _ equals v) (λ bracket v. next_if v (law bracket v) (λ a mid rest b p q. subst (At (codes "]")) (sym p.first.0) (marks p.second.first)) (λ e v. closing_made (count e.0) declared e.0 e.1 v))))

list_made : (declared used : ℕ) (s : Scalar) (names : Names) (ts : List Spot) → Ready ts → IsMade (listing (element used s names) [] length declared) Free ts (list_at declared used s names ts)
unfolding list_at
list_made declared used s names ts w = listing_made [] length declared (elements_at used s names) (elements_made used s names) ts w

all_sets_made : (declared used : ℕ) (names : Names) (ts : List Spot) → Ready ts → IsMade (listing (set_element used names) 0 (λ n. n) declared) Free ts (sets_at declared used names ts)
unfolding sets_at
all_sets_made declared used names ts w = listing_made 0 (λ n. n) declared (λ us. repeat ends_list (one_set used names) most 0 us) (sets_made used names) ts w

values_made : (ty : ParType) (declared used : ℕ) (names : Names) (ts : List Spot) → Ready ts → IsMade (values ty declared used names) Free ts (values_by ty declared used names ts)
unfolding values
values_made par.Bool declared used names ts w = next w (list_made declared used BoolConst names ts w) (λ x v. done _ v)
values_made par.Int declared used names ts w = next w (list_made declared used IntConst names ts w) (λ x v. done _ v)
values_made par.Set declared used names ts w = next w (all_sets_made declared used names ts w) (λ x v. done _ v)

listing_first : {S : Type 0} (X : S → Rule S) (s a : S) (count : S → ℕ) (declared : ℕ) (ts rest : List Spot) → listing X s count declared ts rest a → At (codes "=") ts
unfolding listing
listing_first X s a count declared ts rest p = marks p.first

values_first : (ty : ParType) (declared used : ℕ) (names : Names) (ts rest : List Spot) (a : Decl × ℕ) → values ty declared used names ts rest a → At (codes "=") ts
unfolding values
values_first par.Bool declared used names ts rest a p = listing_first (element used BoolConst names) [] p.value length declared ts p.mid p.first
values_first par.Int declared used names ts rest a p = listing_first (element used IntConst names) [] p.value length declared ts p.mid p.first
values_first par.Set declared used names ts rest a p = listing_first (set_element used names) 0 p.value (λ n. n) declared ts p.mid p.first

parameters_made : (declared : ℕ) (d : Stated) (ts : List Spot) → Ready ts → IsMade (parameters declared d) Free ts (parameters_at declared d ts)
unfolding parameters parameters_at
parameters_made declared d ts w = next w (partype_made ts w) (λ ty v. pass v (mark_made _ ty.1 v) (λ colon v. next v (new_name_made true d.names colon v) (λ name v.
    next_if v (passed_made name.1 v) (λ a mid rest b p q. ended (codes "=") refl refl mid (values_first ty.0 declared d.elements d.names mid p.mid p.value p.first)) (λ anns v.
    next v (values_made ty.0 declared d.elements d.names anns.1 v) (λ x v. done _ v)))))

-- from its "var" on
variables_made : (declared : ℕ) (d : Stated) (ts : List Spot) → Ready ts → is_word (codes "var") ts ≡ true → IsMade (variables declared d) Free ts (variables_at declared d (after_first ts))
unfolding variables variables_at
variables_made declared d ts w h = from (takes_spelled kind.Word (codes "var")) w h (λ v. next v (vartype_made _ v) (λ ty v. pass v (mark_made _ ty.1 v) (λ colon v. next v (new_name_made true d.names colon v) (λ name v.
    next_if v (outputs_made declared name.1 v) (λ a mid rest b p q. ended (codes "=") refl refl mid (listing_first (element d.elements (term_need ty.0.truth) d.names) [] p.value length declared mid p.mid p.first)) (λ made v.
    next v (list_made declared d.elements (term_need ty.0.truth) d.names made.1 v) (λ x v. done _ v))))))

-- the words that begin the type of a parameter
pub partype_first : (other : List ℕ) → bytes_eq (codes "bool") other ≡ false → bytes_eq (codes "int") other ≡ false → bytes_eq (codes "set") other ≡ false → (ts rest : List Spot) (a : ParType) → partype ts rest a → is_word other ts ≡ false
unfolding partype
partype_first other x y z ts rest a p = elim p [
  | inl p ↦ (let k = words p.first in let s = k.seen in let t = k.is in rw (s, t) x)
  | inr p ↦ elim p [
    | inl p ↦ (let k = words p.first in let s = k.seen in let t = k.is in rw (s, t) y)
    | inr p ↦ (let k = words p.first in let s = k.seen in let t = k.is in rw (s, t) z)
  ]
]

pub partype_word : (ts rest : List Spot) (a : ParType) → partype ts rest a → is_kind kind.Word (first ts).seen ≡ true
unfolding partype
partype_word ts rest a p = elim p [
  | inl p ↦ (rw (words p.first).seen refl)
  | inr p ↦ elim p [ inl p ↦ (rw (words p.first).seen refl) | inr p ↦ (rw (words p.first).seen refl) ]
]

parameters_first : (declared : ℕ) (d : Stated) (ts rest : List Spot) (a : Stated) → parameters declared d ts rest a → is_word (codes "var") ts ≡ false
unfolding parameters
parameters_first declared d ts rest a p = partype_first (codes "var") refl refl refl ts p.mid p.value p.first

variables_first : (declared : ℕ) (d : Stated) (ts rest : List Spot) (a : Stated) → variables declared d ts rest a → is_word (codes "var") ts ≡ true
unfolding variables
variables_first declared d ts rest a p = (stood (takes_spelled kind.Word (codes "var")) p.first).passes

abbrev Either : ℕ → Stated → Rule Stated
Either declared d ts rest a = parameters declared d ts rest a ⊎ variables declared d ts rest a

either_made : (declared : ℕ) (d : Stated) (ts : List Spot) → Ready ts → IsMade (Either declared d) Free ts (cond (is_word (codes "var") ts) (variables_at declared d (after_first ts)) (parameters_at declared d ts))
either_made declared d ts w = record {
  sound = choice (is_word (codes "var") ts) (λ h. widen (λ rest a p. inr p) (variables_made declared d ts w h).sound) (λ h. widen (λ rest a p. inl p) (parameters_made declared d ts w).sound);
  exact = λ a rest p n. elim p [
    | inl p ↦ (let h = parameters_first declared d ts rest a p in rw h ((parameters_made declared d ts w).exact a rest p tt))
    | inr p ↦ (let h = variables_first declared d ts rest a p in rw h ((variables_made declared d ts w h).exact a rest p tt))
  ];
}

-- from its "array" on
pub array_made : (d : Stated) (ts : List Spot) → Ready ts → is_word (codes "array") ts ≡ true → IsMade (array d) Free ts (array_at d ts)
unfolding array array_at
array_made d ts w h = from (takes_spelled kind.Word (codes "array")) w h (λ v. next v (size_made _ v) (λ count v. either_made count.0 d count.1 v))
