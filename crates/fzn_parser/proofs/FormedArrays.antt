-- Arrays: what the grammar spells is read to its end, or refused for another reason than its form.
use Rattle.std.proofs.Common.{◌≡◌, ℕ, ◌+◌, List, ◌++◌, length, true, false, Option, Some, None, Result, refl, ap, ◌∙◌, append_assoc, inl, inr, codes, nat_eq, ℤ, if◌then◌else◌}
use Rattle.std.specs.Str.{bytes_eq}
use Rattle.fzn_lexer.specs.Spots.{Spot, first, after_first}
use Rattle.fzn_lexer.specs.declared.kind.Kind.TheVariants as kind
use Rattle.fzn_reader.specs.declared.code.Code.TheVariants as code
use Rattle.fzn_reader.specs.declared.par_type.ParType.{ParType as ParTypeValue}
use Rattle.fzn_reader.specs.declared.par_type.ParType.TheVariants as par
use Rattle.fzn_reader.specs.declared.scalar.Scalar.{Scalar}
use Rattle.fzn_reader.specs.declared.scalar.Scalar.TheVariants.{IntConst, BoolConst}
use Rattle.fzn_reader.specs.declared.refused.Refused.{Refused}
use Rattle.fzn_reader.specs.Refusals.{◌>>=◌, is_mark, is_word, is_spelled, mark_at}
use Rattle.fzn_reader.specs.Names.{Names}
use Rattle.fzn_reader.specs.Lists.{has_room}
use Rattle.fzn_reader.specs.Drafts.{Stated}
use Rattle.fzn_reader.specs.Types.{set_at}
use Rattle.fzn_reader.specs.Outputs.{array_ann, with_ranges, shaped, index_ranges_at}
use Rattle.fzn_reader.specs.Items.{term_need, one_at, length_at, opening_at, closing_at, list_at, one_set, sets_at, values_by, parameters_at, variables_at, array_at}
use Rattle.fzn_parser.specs.Grammar.{◌·◌, Token, Mark, Keyword, Name, ParType, VarType, Elements, ListOf, Ann, Annotations, Length, ElementType, Array}
use Rattle.fzn_parser.specs.Laws.{is_form}
use Rattle.fzn_parser.proofs.Lawful.{takes_spelled, after, here}
use Rattle.fzn_parser.proofs.ListLaws.{regroup}
use Rattle.fzn_parser.proofs.Formed.{Spelled, IsFormed, ok_formed, other_code, bind, made, chosen, passed, either, split, seq, taken, token_formed, mark_formed, word_formed, behind_token}
use Rattle.fzn_parser.proofs.FormedLists.{marked, elements_formed}
use Rattle.fzn_parser.proofs.FormedBegins.{element_opens, element_some}
use Rattle.fzn_parser.proofs.FormedExprs.{number_formed, set_formed, terms_formed, element_expr}
use Rattle.fzn_parser.proofs.FormedDecls.{worded, partype_formed, partype_first, vartype_formed, new_name_formed, annotated}
use Rattle.fzn_parser.proofs.FormedAnns.{ann_formed, passed_formed}

behind_lists : {A : Type 0} {v : A → List Spot} (ts rest : List Spot) (f : List Spot → Result A Refused) → Spelled (Mark (codes "=") · ListOf) ts rest → ((us : List Spot) → Spelled (Elements · Mark (codes "]")) us rest → IsFormed is_form v rest (f us)) → IsFormed is_form v rest (opening_at ts >>= f)
unfolding opening_at ListOf
behind_lists ts rest f p law = rw (regroup (mark_at (codes "=") ts) (λ equals. mark_at (codes "[") equals) f) (seq p (λ mid a b. mark_formed _ ts mid a) (λ equals q. seq q (λ mid a b. mark_formed _ equals mid a) law))

closing_formed : (count declared : ℕ) (ts rest : List Spot) → Spelled (Mark (codes "]")) ts rest → IsFormed is_form here rest (closing_at count declared ts)
unfolding closing_at
closing_formed count declared ts rest p = let q = taken (takes_spelled kind.Mark (codes "]")) p in
    chosen (is_mark (codes "]") ts) _ q.passes (either (nat_eq count declared) (λ h. ok_formed _ q.behind) (λ h. other_code code.Lengths ts refl))

closes : (ts rest : List Spot) → Spelled (Mark (codes "]")) ts rest → is_mark (codes "]") ts ≡ true
closes ts rest p = (taken (takes_spelled kind.Mark (codes "]")) p).passes

list_formed : (declared used : ℕ) (s : Scalar) (names : Names) (ts rest : List Spot) → Spelled (Mark (codes "=") · ListOf) ts rest → IsFormed is_form after rest (list_at declared used s names ts)
unfolding list_at
list_formed declared used s names ts rest p = behind_lists ts rest _ p (λ bracket q. seq q (λ mid a b. terms_formed used s names bracket mid a (closes mid rest b)) (λ elements q. made _ (closing_formed (length elements.0) declared elements.1 rest q) (λ x. refl)))

sets_formed : (declared used : ℕ) (names : Names) (ts rest : List Spot) → Spelled (Mark (codes "=") · ListOf) ts rest → IsFormed is_form after rest (sets_at declared used names ts)
unfolding sets_at one_set
sets_formed declared used names ts rest p = behind_lists ts rest _ p (λ bracket q.
    seq q (λ mid a b. elements_formed (λ count us. set_at (has_room (used + count)) names us) (λ count set. count + 1) (one_set used names) (λ count us. refl) element_some (λ us m r. (element_opens us m r).bracket)
    (λ count us m r f. set_formed (has_room (used + count)) names us m (element_expr r) f) 0 bracket mid a (closes mid rest b))
    (λ sets q. made _ (closing_formed sets.0 declared sets.1 rest q) (λ x. refl)))

values_formed : (ty : ParTypeValue) (declared used : ℕ) (names : Names) (ts rest : List Spot) → Spelled (Mark (codes "=") · ListOf) ts rest → IsFormed is_form after rest (values_by ty declared used names ts)
values_formed par.Bool declared used names ts rest p = made _ (list_formed declared used BoolConst names ts rest p) (λ x. refl)
values_formed par.Int declared used names ts rest p = made _ (list_formed declared used IntConst names ts rest p) (λ x. refl)
values_formed par.Set declared used names ts rest p = made _ (sets_formed declared used names ts rest p) (λ x. refl)

one_formed : (ts rest : List Spot) → Spelled (Token (is_spelled kind.Number (codes "1"))) ts rest → IsFormed is_form here rest (one_at ts)
unfolding one_at
one_formed ts rest p = token_formed (takes_spelled kind.Number (codes "1")) p _ _ refl

length_formed : (ts rest : List Spot) → Spelled Length ts rest → IsFormed is_form after rest (length_at ts)
unfolding length_at
length_formed ts rest p = seq p (λ mid a b. mark_formed _ ts mid a) (λ bracket q. seq q (λ mid a b. one_formed bracket mid a) (λ one q. seq q (λ mid a b. mark_formed _ one mid a) (λ dots q.
    seq q (λ mid a b. number_formed dots mid a) (λ count q. seq q (λ mid a b. mark_formed _ count.1 mid a) (λ close q. made _ (word_formed _ close rest q) (λ x. refl))))))

-- ":" name { "::" ann } "=" list
Rest : List Spot → Type 0
Rest = Mark (codes ":") · Name · Annotations · Mark (codes "=") · ListOf

parameters_formed : (declared : ℕ) (d : Stated) (ts rest : List Spot) → Spelled (ParType · Rest) ts rest → IsFormed is_form after rest (parameters_at declared d ts)
unfolding parameters_at Rest
parameters_formed declared d ts rest p = seq p (λ mid a b. partype_formed ts mid a) (λ ty q. seq q (λ mid a b. mark_formed _ ty.1 mid a) (λ colon q. seq q (λ mid a b. new_name_formed true d.names colon mid a) (λ name q.
    seq q (λ mid a b. annotated _ passed_formed (codes "=") refl refl tt name.1 mid a (marked (codes "=") b)) (λ anns q. made _ (values_formed ty.0 declared d.elements d.names anns.1 rest q) (λ x. refl)))))

with_ranges_formed : (given ranges : Option (List (ℤ × ℤ))) (ts us rest : List Spot) → us ≡ rest → IsFormed is_form after rest (with_ranges given ranges ts us)
with_ranges_formed given None ts us rest e = other_code code.WrongArguments ts refl
with_ranges_formed None (Some ranges) ts us rest e = ok_formed _ e
with_ranges_formed (Some given) (Some ranges) ts us rest e = ok_formed _ e

array_ann_formed : (count : ℕ) (given : Option (List (ℤ × ℤ))) (ts rest : List Spot) → Spelled Ann ts rest → is_mark (codes "(") rest ≡ false → IsFormed is_form after rest (array_ann count given ts)
unfolding array_ann
array_ann_formed count given ts rest p f = bind (ann_formed ts rest p f) (λ us e. either (bytes_eq (first ts).text (codes "output_array")) (λ h. with_ranges_formed given (shaped count (index_ranges_at (after_first ts))) ts us rest e) (λ h. ok_formed _ e))

variables_formed : (declared : ℕ) (d : Stated) (ts rest : List Spot) → Spelled (VarType · Rest) ts rest → IsFormed is_form after rest (variables_at declared d ts)
unfolding variables_at Rest
variables_formed declared d ts rest p = seq p (λ mid a b. vartype_formed ts mid a) (λ ty q. seq q (λ mid a b. mark_formed _ ty.1 mid a) (λ colon q. seq q (λ mid a b. new_name_formed true d.names colon mid a) (λ name q.
    seq q (λ mid a b. annotated _ (array_ann_formed declared) (codes "=") refl refl None name.1 mid a (marked (codes "=") b)) (λ given q. made _ (list_formed declared d.elements (term_need ty.0.truth) d.names given.1 rest q) (λ x. refl)))))

array_by : (count : ℕ) (d : Stated) (ts rest : List Spot) (p : Spelled (ElementType · Rest) ts rest) → ElementType p.spelled.front → IsFormed is_form after rest (if is_word (codes "var") ts then variables_at count d (after_first ts) else parameters_at count d ts)
array_by count d ts rest p (inl a) =
    let q : Spelled (ParType · Rest) ts rest = record { front = p.front; spelled = record { front = p.spelled.front; back = p.spelled.back; first = a; second = p.spelled.second; joined = p.spelled.joined }; joined = p.joined; few = p.few } in
    passed (is_word (codes "var") ts) _ (partype_first (codes "var") refl refl refl ts _ (split q).first) (parameters_formed count d ts rest q)
array_by count d ts rest p (inr a) =
    let q : Spelled (Keyword (codes "var") · VarType · Rest) ts rest = record {
      front = p.front;
      spelled = record {
        front = a.front;
        back = a.back ++ p.spelled.back;
        first = a.first;
        second = record { front = a.back; back = p.spelled.back; first = a.second; second = p.spelled.second; joined = refl };
        joined = p.spelled.joined ∙ ap (λ (us : List Spot). us ++ p.spelled.back) a.joined ∙ append_assoc a.front a.back p.spelled.back;
      };
      joined = p.joined;
      few = p.few;
    } in
    chosen (is_word (codes "var") ts) _ (worded (codes "var") q) (variables_formed count d (after_first ts) rest (behind_token (takes_spelled kind.Word (codes "var")) q))

pub array_formed : (d : Stated) (ts rest : List Spot) → Spelled Array ts rest → IsFormed is_form after rest (array_at d ts)
unfolding array_at Array Rest
array_formed d ts rest p = seq (behind_token (takes_spelled kind.Word (codes "array")) p) (λ mid a b. length_formed _ mid a) (λ count q. array_by count.0 d count.1 rest q q.spelled.first)
