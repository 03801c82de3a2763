-- Arrays: what is read of each is spelled by its rule, and a refusal is fair.
use Rattle.std.proofs.Common.{◌≡◌, ℕ, ◌+◌, List, ◌++◌, true, Option, Some, None, Result, refl, sym, ap, ◌∙◌, append_assoc, inl, inr, codes, nat_eq, ℤ}
use Rattle.std.specs.Str.{bytes_eq}
use Rattle.fzn_lexer.specs.Spots.{Spot, first, after_first, IsWhole}
use Rattle.fzn_lexer.specs.declared.kind.Kind.TheVariants as kind
use Rattle.fzn_reader.specs.declared.code.Code.TheVariants as code
use Rattle.fzn_reader.specs.declared.par_type.ParType.{ParType as ParTypeValue}
use Rattle.fzn_reader.specs.declared.par_type.ParType.TheVariants as par
use Rattle.fzn_reader.specs.declared.scalar.Scalar.{Scalar}
use Rattle.fzn_reader.specs.declared.scalar.Scalar.TheVariants.{IntConst, BoolConst}
use Rattle.fzn_reader.specs.declared.refused.Refused.{Refused}
use Rattle.fzn_reader.specs.Refusals.{◌>>=◌, is_mark, is_word, is_spelled, most, mark_at}
use Rattle.fzn_reader.specs.Names.{Names}
use Rattle.fzn_reader.specs.Lists.{has_room}
use Rattle.fzn_reader.specs.Drafts.{Stated}
use Rattle.fzn_reader.specs.Types.{set_at}
use Rattle.fzn_reader.specs.Outputs.{array_ann, with_ranges, shaped, index_ranges_at}
use Rattle.fzn_reader.specs.Items.{one_at, length_at, opening_at, closing_at, list_at, one_set, sets_at, values_by, parameters_at, variables_at, array_at}
use Rattle.fzn_parser.specs.Grammar.{◌·◌, Mark, Keyword, Token, Name, ParType, VarType, Elements, ListOf, Ann, Annotations, Length, ElementType, Array}
use Rattle.fzn_parser.specs.Laws.{is_name, Reads}
use Rattle.fzn_parser.proofs.Samples.{Sample, spot_of, token_sample, seq, whole_of, mark_sample, word_sample, name_sample, number_sample, elements_sample, annotations_sample, partype_sample, listed_sample}
use Rattle.fzn_parser.proofs.Lawful.{IsLawful, after, here, is_ok, refused, onward, given, next, finish, widen, choice, took, takes_spelled, token_law, mark_law, word_law}
use Rattle.fzn_parser.proofs.ListLaws.{regroup, elements_law}
use Rattle.fzn_parser.proofs.BeginLaws.{name_expr, wrong, list_end}
use Rattle.fzn_parser.proofs.ExprLaws.{number_law, set_law, terms_law}
use Rattle.fzn_parser.proofs.DeclLaws.{took_word, partype_law, vartype_law, new_name_law}
use Rattle.fzn_parser.proofs.AnnLaws.{ann_law, ann_name, passed_law, annotations_law}

closed_sample : Sample (Elements · Mark (codes "]"))
closed_sample = seq elements_sample (mark_sample (codes "]"))

behind_lists : {A : Type 0} {v : A → List Spot} (ts : List Spot) (f : List Spot → Result A Refused) → IsWhole ts → ((us : List Spot) → IsWhole us → IsLawful (Elements · Mark (codes "]")) v us (f us)) → IsLawful (Mark (codes "=") · ListOf) v ts (opening_at ts >>= f)
unfolding opening_at ListOf
behind_lists ts f w law = rw (regroup (mark_at (codes "=") ts) (λ equals. mark_at (codes "[") equals) f) (next (mark_law _ ts w) (seq (mark_sample (codes "[")) closed_sample) (λ equals p. next (mark_law _ equals p) closed_sample law))

closing_law : (count declared : ℕ) (ts : List Spot) → IsWhole ts → IsLawful (Mark (codes "]")) here ts (closing_at count declared ts)
unfolding closing_at
closing_law count declared ts w = choice (is_mark (codes "]") ts)
    (λ h. choice (nat_eq count declared) (λ e. is_ok _ (took _ (takes_spelled kind.Mark (codes "]")) ts w h)) (λ e. refused code.Lengths ts w (list_end (first ts) h) (mark_sample (codes "]"))))
    (λ h. refused code.Syntax ts w refl (mark_sample (codes "]")))

list_law : (declared used : ℕ) (s : Scalar) (names : Names) (ts : List Spot) → IsWhole ts → IsLawful (Mark (codes "=") · ListOf) after ts (list_at declared used s names ts)
unfolding list_at
list_law declared used s names ts w = behind_lists ts _ w (λ bracket p. next (terms_law used s names bracket p) (mark_sample (codes "]")) (λ elements q. finish _ (closing_law _ declared elements.1 q) (λ x. refl)))

sets_law : (declared used : ℕ) (names : Names) (ts : List Spot) → IsWhole ts → IsLawful (Mark (codes "=") · ListOf) after ts (sets_at declared used names ts)
unfolding sets_at one_set
sets_law declared used names ts w = behind_lists ts _ w (λ bracket p.
    next (elements_law (λ count us. set_at (has_room (used + count)) names us) (λ count set. count + 1) (one_set used names) (λ count us. refl) (λ count us q. set_law (has_room (used + count)) names us q) most 0 bracket p)
    (mark_sample (codes "]")) (λ sets q. finish _ (closing_law _ declared sets.1 q) (λ x. refl)))

values_law : (ty : ParTypeValue) (declared used : ℕ) (names : Names) (ts : List Spot) → IsWhole ts → IsLawful (Mark (codes "=") · ListOf) after ts (values_by ty declared used names ts)
values_law par.Bool declared used names ts w = finish _ (list_law declared used BoolConst names ts w) (λ x. refl)
values_law par.Int declared used names ts w = finish _ (list_law declared used IntConst names ts w) (λ x. refl)
values_law par.Set declared used names ts w = finish _ (sets_law declared used names ts w) (λ x. refl)

one_sample : Sample (Token (is_spelled kind.Number (codes "1")))
one_sample = token_sample (spot_of kind.Number (codes "1")) refl

one_law : (ts : List Spot) → IsWhole ts → IsLawful (Token (is_spelled kind.Number (codes "1"))) here ts (one_at ts)
unfolding one_at
one_law ts w = token_law _ (takes_spelled kind.Number (codes "1")) one_sample ts _ refl w

length_law : (ts : List Spot) → IsWhole ts → IsLawful Length after ts (length_at ts)
unfolding length_at
length_law ts w =
    let of = word_sample (codes "of") in
    let close = seq (mark_sample (codes "]")) of in
    let number = seq number_sample close in
    let dots = seq (mark_sample (codes "..")) number in
    next (mark_law _ ts w) (seq one_sample dots) (λ bracket p. next (one_law bracket p) dots (λ one p. next (mark_law _ one p) number (λ dots p. next (number_law dots p) close (λ count p. next (mark_law _ count.1 p) of (λ close p. finish _ (word_law _ close p) (λ x. refl))))))

-- ":" name { "::" ann } "=" list
Rest : List Spot → Type 0
Rest = Mark (codes ":") · Name · Annotations · Mark (codes "=") · ListOf

parameters_law : (declared : ℕ) (d : Stated) (ts : List Spot) → IsWhole ts → IsLawful (ParType · Rest) after ts (parameters_at declared d ts)
unfolding parameters_at Rest
parameters_law declared d ts w = next (partype_law ts w) (seq (mark_sample (codes ":")) (seq name_sample (seq annotations_sample listed_sample))) (λ ty p. next (mark_law _ ty.1 p) (seq name_sample (seq annotations_sample listed_sample)) (λ colon p. next (new_name_law true d.names colon p) (seq annotations_sample listed_sample) (λ name p.
    next (annotations_law _ passed_law tt name.1 p) listed_sample (λ anns p. finish _ (values_law ty.0 declared d.elements d.names anns.1 p) (λ x. refl)))))

with_ranges_law : {X : List Spot → Type 0} (made ranges : Option (List (ℤ × ℤ))) (ts rest : List Spot) → IsWhole ts → is_name (first ts) ≡ true → Reads X ts rest → IsLawful X after ts (with_ranges made ranges ts rest)
with_ranges_law made None ts rest w z r = refused code.WrongArguments ts w (wrong (first ts) (name_expr (first ts) z)) (r.front, r.spelled)
with_ranges_law None (Some ranges) ts rest w z r = is_ok _ r
with_ranges_law (Some made) (Some ranges) ts rest w z r = is_ok _ r

array_ann_law : (count : ℕ) (made : Option (List (ℤ × ℤ))) (ts : List Spot) → IsWhole ts → IsLawful Ann after ts (array_ann count made ts)
unfolding array_ann
array_ann_law count made ts w = given (ann_law ts w) (whole_of (λ us q. q)) (λ rest r. choice (bytes_eq (first ts).text (codes "output_array")) (λ h. with_ranges_law made (shaped count (index_ranges_at (after_first ts))) ts rest w (ann_name ts rest r) r) (λ h. is_ok _ r))

variables_law : (declared : ℕ) (d : Stated) (ts : List Spot) → IsWhole ts → IsLawful (VarType · Rest) after ts (variables_at declared d ts)
unfolding variables_at Rest
variables_law declared d ts w = next (vartype_law ts w) (seq (mark_sample (codes ":")) (seq name_sample (seq annotations_sample listed_sample))) (λ ty p. next (mark_law _ ty.1 p) (seq name_sample (seq annotations_sample listed_sample)) (λ colon p. next (new_name_law true d.names colon p) (seq annotations_sample listed_sample) (λ name p.
    next (annotations_law _ (array_ann_law declared) None name.1 p) listed_sample (λ made p. finish _ (list_law declared d.elements _ d.names made.1 p) (λ x. refl)))))

of_parameters : (us : List Spot) → (ParType · Rest) us → (ElementType · Rest) us
of_parameters us p = record { front = p.front; back = p.back; first = inl p.first; second = p.second; joined = p.joined }

of_variables : (us : List Spot) → (Keyword (codes "var") · VarType · Rest) us → (ElementType · Rest) us
of_variables us p = record {
  front = p.front ++ p.second.front;
  back = p.second.back;
  first = inr (record { front = p.front; back = p.second.front; first = p.first; second = p.second.first; joined = refl });
  second = p.second.second;
  joined = p.joined ∙ ap (λ (vs : List Spot). p.front ++ vs) p.second.joined ∙ sym (append_assoc p.front p.second.front p.second.back);
}

-- from its "array" on
pub array_law : (d : Stated) (ts : List Spot) → Reads (Keyword (codes "array")) ts (after_first ts) → IsLawful Array after ts (array_at d ts)
unfolding array_at Array Rest
array_law d ts r = onward r (next (length_law (after_first ts) r.whole) (let s = partype_sample in let k = seq s (seq (mark_sample (codes ":")) (seq name_sample (seq annotations_sample listed_sample))) in (k.0, record { front = k.1.front; back = k.1.back; first = inl k.1.first; second = k.1.second; joined = k.1.joined })) (λ count p. choice (is_word (codes "var") count.1)
    (λ h. widen of_variables (let v = took_word _ count.1 p h in onward v (variables_law count.0 d (after_first count.1) v.whole)))
    (λ h. widen of_parameters (parameters_law count.0 d count.1 p))))
