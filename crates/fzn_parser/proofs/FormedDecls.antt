-- The items that declare names: what the grammar spells is read to its end, or refused for another reason than its form.
use Rattle.std.proofs.Common.{◌≡◌, ℕ, ◌<◌, List, ◌++◌, length, Bool, true, false, Result, refl, sym, subst, inl, inr, codes, is_some, nat_lt}
use Rattle.std.specs.Str.{bytes_eq}
use Rattle.fzn_lexer.specs.Spots.{Spot, first, after_first}
use Rattle.fzn_lexer.specs.declared.seen.Seen.TheVariants.{Known}
use Rattle.fzn_lexer.specs.declared.kind.Kind.{Kind}
use Rattle.fzn_lexer.specs.declared.kind.Kind.TheVariants as kind
use Rattle.fzn_reader.specs.declared.code.Code.TheVariants as code
use Rattle.fzn_reader.specs.declared.par_type.ParType.{ParType as ParTypeValue}
use Rattle.fzn_reader.specs.declared.par_type.ParType.TheVariants as par
use Rattle.fzn_reader.specs.declared.scalar.Scalar.{Scalar}
use Rattle.fzn_reader.specs.declared.scalar.Scalar.TheVariants.{IntConst, BoolConst}
use Rattle.fzn_reader.specs.declared.refused.Refused.{Refused}
use Rattle.fzn_reader.specs.Refusals.{is_kind, is_mark, is_word, most}
use Rattle.fzn_reader.specs.Names.{Names, find_name}
use Rattle.fzn_reader.specs.Exprs.{begins}
use Rattle.fzn_reader.specs.Drafts.{Stated}
use Rattle.fzn_reader.specs.Types.{partype_at, vartype_at, set_type_by, new_name_at}
use Rattle.fzn_reader.specs.Outputs.{variable_ann}
use Rattle.fzn_reader.specs.Items.{value_by, parameter_at, term_need, initialiser_at, variable_at}
use Rattle.fzn_parser.specs.Grammar.{◌·◌, ◌∣◌, Optional, Mark, Keyword, Name, Range, Braces, ParType, VarType, Expr, Ann, Annotations, Parameter, Variable}
use Rattle.fzn_reader.specs.Annotations.{annotations_at}
use Rattle.fzn_parser.specs.Laws.{is_form}
use Rattle.fzn_parser.proofs.Lawful.{both, takes_spelled, takes_kind, after}
use Rattle.fzn_parser.proofs.Formed.{Spelled, at_front, IsFormed, ok_formed, other_code, bind, made, chosen, passed, either, split, seq, taken, mark_formed, word_formed, name_formed, behind_token, other_kind, other_text}
use Rattle.fzn_parser.proofs.FormedLists.{Follows, follows_mark, marked}
use Rattle.fzn_parser.proofs.FormedBegins.{begins_kind_number, brace_begins}
use Rattle.fzn_parser.proofs.FormedExprs.{range_formed, braces_formed, set_formed, scalar_formed}
use Rattle.fzn_parser.proofs.FormedAnns.{optional, ann_formed, passed_formed, annotations_formed}

-- a word that stands first is no other
pub worded : {Y : List Spot → Type 0} {ts rest : List Spot} (text : List ℕ) → Spelled (Keyword text · Y) ts rest → is_word text ts ≡ true
worded text p = (taken (takes_spelled kind.Word text) (split p).first).passes

pub no_word : (text other : List ℕ) (ts : List Spot) → bytes_eq text other ≡ false → is_word text ts ≡ true → is_word other ts ≡ false
no_word text other ts n h = other_text kind.Word text other (first ts) n h

pub no_mark : (text other : List ℕ) (ts : List Spot) → bytes_eq text other ≡ false → is_mark text ts ≡ true → is_mark other ts ≡ false
no_mark text other ts n h = other_text kind.Mark text other (first ts) n h

partype_by : (ts rest front : List Spot) → (Keyword (codes "bool") ∣ Keyword (codes "int") ∣ (Keyword (codes "set") · Keyword (codes "of") · Keyword (codes "int"))) front → ts ≡ front ++ rest → length front < most → IsFormed is_form after rest (partype_at ts)
unfolding partype_at
partype_by ts rest front (inl a) e k = let q = taken {rest = rest} (takes_spelled kind.Word (codes "bool")) (at_front front e k a) in
    chosen (is_word (codes "bool") ts) _ q.passes (ok_formed _ q.behind)
partype_by ts rest front (inr (inl a)) e k = let q = taken {rest = rest} (takes_spelled kind.Word (codes "int")) (at_front front e k a) in
    passed (is_word (codes "bool") ts) _ (no_word (codes "int") (codes "bool") ts refl q.passes) (chosen (is_word (codes "int") ts) _ q.passes (ok_formed _ q.behind))
partype_by ts rest front (inr (inr a)) e k =
    let p : Spelled (Keyword (codes "set") · Keyword (codes "of") · Keyword (codes "int")) ts rest = at_front front e k a in
    let h = worded (codes "set") p in
    passed (is_word (codes "bool") ts) _ (no_word (codes "set") (codes "bool") ts refl h) (passed (is_word (codes "int") ts) _ (no_word (codes "set") (codes "int") ts refl h) (chosen (is_word (codes "set") ts) _ h
    (seq (behind_token (takes_spelled kind.Word (codes "set")) p) (λ mid x y. word_formed _ _ mid x) (λ of q. made (λ int. (par.Set, int)) (word_formed _ of rest q) (λ x. refl)))))

pub partype_formed : (ts rest : List Spot) → Spelled ParType ts rest → IsFormed is_form after rest (partype_at ts)
unfolding ParType
partype_formed ts rest p = partype_by ts rest p.front p.spelled p.joined p.few

-- the first word of a type is one of three
first_by : {C : Type 0} (ts rest front : List Spot) → (Keyword (codes "bool") ∣ Keyword (codes "int") ∣ (Keyword (codes "set") · Keyword (codes "of") · Keyword (codes "int"))) front → ts ≡ front ++ rest → length front < most
    → (is_word (codes "bool") ts ≡ true → C) → (is_word (codes "int") ts ≡ true → C) → (is_word (codes "set") ts ≡ true → C) → C
first_by ts rest front (inl x) e k a b c = a (taken {rest = rest} (takes_spelled kind.Word (codes "bool")) (at_front front e k x)).passes
first_by ts rest front (inr (inl x)) e k a b c = b (taken {rest = rest} (takes_spelled kind.Word (codes "int")) (at_front front e k x)).passes
first_by ts rest front (inr (inr x)) e k a b c = let p : Spelled (Keyword (codes "set") · Keyword (codes "of") · Keyword (codes "int")) ts rest = at_front front e k x in c (worded (codes "set") p)

pub partype_first : (other : List ℕ) → bytes_eq (codes "bool") other ≡ false → bytes_eq (codes "int") other ≡ false → bytes_eq (codes "set") other ≡ false → (ts rest : List Spot) → Spelled ParType ts rest → is_word other ts ≡ false
unfolding ParType
partype_first other a b c ts rest p = first_by ts rest p.front p.spelled p.joined p.few (no_word (codes "bool") other ts a) (no_word (codes "int") other ts b) (no_word (codes "set") other ts c)

pub partype_word : (ts rest : List Spot) → Spelled ParType ts rest → is_kind kind.Word (first ts).seen ≡ true
unfolding ParType
partype_word ts rest p = first_by ts rest p.front p.spelled p.joined p.few (λ h. (both _ _ h).0) (λ h. (both _ _ h).0) (λ h. (both _ _ h).0)

-- no type begins with another kind of token
set_type_formed : (k : Kind) (ts rest : List Spot) → is_kind kind.Word (Known k) ≡ false → is_kind k (first ts).seen ≡ true → IsFormed is_form after rest (set_type_by (begins ts) ts) → IsFormed is_form after rest (vartype_at ts)
unfolding vartype_at
set_type_formed k ts rest n h p =
    passed (is_word (codes "bool") ts) _ (other_kind k kind.Word (codes "bool") (first ts) n h) (passed (is_word (codes "int") ts) _ (other_kind k kind.Word (codes "int") (first ts) n h)
    (passed (is_word (codes "float") ts) _ (other_kind k kind.Word (codes "float") (first ts) n h) (passed (is_word (codes "set") ts) _ (other_kind k kind.Word (codes "set") (first ts) n h) p)))

vartype_by : (ts rest front : List Spot) → (Keyword (codes "bool") ∣ Keyword (codes "int") ∣ Range ∣ Braces) front → ts ≡ front ++ rest → length front < most → IsFormed is_form after rest (vartype_at ts)
unfolding vartype_at
vartype_by ts rest front (inl a) e k = let q = taken {rest = rest} (takes_spelled kind.Word (codes "bool")) (at_front front e k a) in
    chosen (is_word (codes "bool") ts) _ q.passes (ok_formed _ q.behind)
vartype_by ts rest front (inr (inl a)) e k = let q = taken {rest = rest} (takes_spelled kind.Word (codes "int")) (at_front front e k a) in
    passed (is_word (codes "bool") ts) _ (no_word (codes "int") (codes "bool") ts refl q.passes) (chosen (is_word (codes "int") ts) _ q.passes (ok_formed _ q.behind))
vartype_by ts rest front (inr (inr (inl a))) e k =
    let p : Spelled Range ts rest = at_front front e k a in
    let h = (taken (takes_kind kind.Number) (split p).first).passes in
    set_type_formed kind.Number ts rest refl h (rw (begins_kind_number ts h) (made (λ set. (record { set = set.0; truth = false }, set.1)) (range_formed ts rest p) (λ x. refl)))
vartype_by ts rest front (inr (inr (inr a))) e k =
    let p : Spelled Braces ts rest = at_front front e k a in
    set_type_formed kind.Mark ts rest refl (both _ _ (marked (codes "{") p)).0 (rw (brace_begins ts rest p) (made (λ set. (record { set = set.0; truth = false }, set.1)) (braces_formed ts rest p) (λ x. refl)))

pub vartype_formed : (ts rest : List Spot) → Spelled VarType ts rest → IsFormed is_form after rest (vartype_at ts)
unfolding VarType
vartype_formed ts rest p = vartype_by ts rest p.front p.spelled p.joined p.few

pub new_name_formed : (room : Bool) (names : Names) (ts rest : List Spot) → Spelled Name ts rest → IsFormed is_form after rest (new_name_at room names ts)
unfolding new_name_at
new_name_formed room names ts rest p = bind (name_formed ts rest p) (λ name e. either (is_some (find_name names name.0)) (λ h. other_code code.DeclaredTwice ts refl) (λ h. either room (λ h. ok_formed name e) (λ h. other_code code.TooMany ts refl)))

-- the end of an item, where nothing goes on
pub semicolon : (ts : List Spot) → is_mark (codes ";") ts ≡ true → Follows ts
semicolon ts h = follows_mark (codes ";") ts refl refl h

value_formed : (ty : ParTypeValue) (names : Names) (ts rest : List Spot) → Spelled Expr ts rest → Follows rest → IsFormed is_form after rest (value_by ty names ts)
value_formed par.Bool names ts rest p f = made _ (scalar_formed BoolConst names ts rest p) (λ x. refl)
value_formed par.Int names ts rest p f = made _ (scalar_formed IntConst names ts rest p) (λ x. refl)
value_formed par.Set names ts rest p f = made _ (set_formed true names ts rest p f) (λ x. refl)

-- annotations, behind which this mark stands
pub annotated : {S : Type 0} (step : S → List Spot → Result (S × List Spot) Refused) → ((s : S) (ts mid : List Spot) → Spelled Ann ts mid → is_mark (codes "(") mid ≡ false → IsFormed is_form after mid (step s ts))
    → (text : List ℕ) → bytes_eq text (codes "(") ≡ false → bytes_eq text (codes "::") ≡ false → (s : S) (ts rest : List Spot) → Spelled Annotations ts rest → is_mark text rest ≡ true → IsFormed is_form after rest (annotations_at step s ts)
annotated step law text a b s ts rest p h = annotations_formed step law s ts rest p (no_mark text (codes "(") rest a h) (no_mark text (codes "::") rest b h)

pub parameter_formed : (d : Stated) (ts rest : List Spot) → Spelled Parameter ts rest → is_mark (codes ";") rest ≡ true → IsFormed is_form after rest (parameter_at d ts)
unfolding parameter_at Parameter
parameter_formed d ts rest p h = seq p (λ mid a b. partype_formed ts mid a) (λ ty q. seq q (λ mid a b. mark_formed _ ty.1 mid a) (λ colon q. seq q (λ mid a b. new_name_formed true d.names colon mid a) (λ name q.
    seq q (λ mid a b. annotated _ passed_formed (codes "=") refl refl tt name.1 mid a (marked (codes "=") b)) (λ anns q. seq q (λ mid a b. mark_formed _ anns.1 mid a) (λ equals q. made _ (value_formed ty.0 d.names equals rest q (semicolon rest h)) (λ x. refl))))))

initialiser_formed : (s : Scalar) (names : Names) (ts rest : List Spot) → Spelled (Optional (Mark (codes "=") · Expr)) ts rest → is_mark (codes ";") rest ≡ true → IsFormed is_form after rest (initialiser_at s names ts)
unfolding initialiser_at
initialiser_formed s names ts rest p h = optional p
    (λ e. passed (is_mark (codes "=") ts) _ (no_mark (codes ";") (codes "=") ts refl (subst (λ (us : List Spot). is_mark (codes ";") us ≡ true) (sym e) h)) (ok_formed _ e))
    (λ q. chosen (is_mark (codes "=") ts) _ (marked (codes "=") q) (made _ (scalar_formed s names (after_first ts) rest (behind_token (takes_spelled kind.Mark (codes "=")) q)) (λ x. refl)))

variable_ann_formed : (output : Bool) (ts rest : List Spot) → Spelled Ann ts rest → is_mark (codes "(") rest ≡ false → IsFormed is_form after rest (variable_ann output ts)
unfolding variable_ann
variable_ann_formed output ts rest p f = made _ (ann_formed ts rest p f) (λ x. refl)

variable_anns : (output : Bool) (ts mid rest : List Spot) → Spelled Annotations ts mid → Spelled (Optional (Mark (codes "=") · Expr)) mid rest → is_mark (codes ";") rest ≡ true → IsFormed is_form after mid (annotations_at variable_ann output ts)
variable_anns output ts mid rest p q h = optional q
    (λ e. annotated _ variable_ann_formed (codes ";") refl refl output ts mid p (subst (λ (us : List Spot). is_mark (codes ";") us ≡ true) (sym e) h))
    (λ r. annotated _ variable_ann_formed (codes "=") refl refl output ts mid p (marked (codes "=") r))

pub variable_formed : (d : Stated) (ts rest : List Spot) → Spelled Variable ts rest → is_mark (codes ";") rest ≡ true → IsFormed is_form after rest (variable_at d ts)
unfolding variable_at Variable
variable_formed d ts rest p h = seq (behind_token (takes_spelled kind.Word (codes "var")) p) (λ mid a b. vartype_formed _ mid a) (λ ty q. seq q (λ mid a b. mark_formed _ ty.1 mid a) (λ colon q. seq q (λ mid a b. new_name_formed (nat_lt (length d.doms) 100000) d.names colon mid a) (λ name q.
    seq q (λ mid a b. variable_anns false name.1 mid rest a b h) (λ output q. made _ (initialiser_formed (term_need ty.0.truth) d.names output.1 rest q h) (λ x. refl)))))
