-- Numbers, sets, ints, bools and lists: what is read of each is spelled by its rule, and a refusal is fair.
use Rattle.std.proofs.Common.{◌≡◌, ℕ, ◌+◌, List, [], ◌∷◌, ◌++◌, Bool, true, false, ◌&&◌, not, Option, Some, None, Result, length, refl, ap, ◌∙◌, append_assoc, inl, inr, codes, ℤ}
use Rattle.fzn_lexer.specs.Spots.{Spot, first, after_first, IsWhole}
use Rattle.fzn_model.specs.declared.term.Term.TheVariants.{Const}
use Rattle.fzn_reader.specs.declared.begin.Begin.{Begin}
use Rattle.fzn_reader.specs.declared.begin.Begin.TheVariants as begin
use Rattle.fzn_reader.specs.declared.code.Code.TheVariants as code
use Rattle.fzn_reader.specs.declared.decl.Decl.{Decl}
use Rattle.fzn_reader.specs.declared.decl.Decl.TheVariants as decl
use Rattle.fzn_reader.specs.declared.scalar.Scalar.{Scalar}
use Rattle.fzn_reader.specs.declared.refused.Refused.{Refused}
use Rattle.fzn_reader.specs.Refusals.{is_mark, most}
use Rattle.fzn_reader.specs.Names.{Names, find_name}
use Rattle.fzn_reader.specs.Numbers.{number_in}
use Rattle.fzn_reader.specs.Exprs.{begins}
use Rattle.fzn_reader.specs.Sets.{number_by, number_at, range_at, one_number, braces_at}
use Rattle.fzn_reader.specs.Types.{named_set, room_at, set_by, set_at}
use Rattle.fzn_reader.specs.Scalars.{takes_numbers, named_term, fitting_term, scalar_by, scalar_at, limited}
use Rattle.fzn_reader.specs.Lists.{has_room, one_element, elements_at}
use Rattle.fzn_parser.specs.Grammar.{◌∣◌, Number, Mark, Keyword, Range, Braces, Name, Element, Elements}
use Rattle.fzn_parser.specs.Laws.{is_name, begins_expr, Reads}
use Rattle.fzn_parser.proofs.Samples.{seq, before, whole_of, behind_nothing, mark_sample, number_sample, range_sample, element_sample, braces_sample}
use Rattle.fzn_parser.proofs.Lawful.{IsLawful, token_first, after, is_ok, refused, value_law, onward, given, next, finish, widen, wider, choice, mark_law, nothing_read}
use Rattle.fzn_parser.proofs.ListLaws.{separated_law, elements_law}
use Rattle.fzn_parser.proofs.BeginLaws.{Shown, shown, Begun, begun, name_expr, begun_expr, wrong, too_many, real_number}

number_by_law : (b : Begin) (ts : List Spot) → IsWhole ts → Shown b (first ts).seen (first ts).text → Begun b ts → IsLawful Number after ts (number_by b ts)
number_by_law begin.Number ts w z h = value_law code.OutOfRange (number_in (first ts).text) ts w (λ e. rw (z, e) refl) h
number_by_law begin.Real ts w z h = refused code.Float ts w (real_number (first ts) z) number_sample
number_by_law b ts w z h = refused code.Syntax ts w refl number_sample

pub number_law : (ts : List Spot) → IsWhole ts → IsLawful Number after ts (number_at ts)
unfolding number_at
number_law ts w = number_by_law (begins ts) ts w (shown ts) (begun ts w)

pub range_law : (ts : List Spot) → IsWhole ts → IsLawful Range after ts (range_at ts)
unfolding range_at
range_law ts w = next (number_law ts w) (seq (mark_sample (codes "..")) number_sample) (λ low p. next (mark_law _ low.1 p) number_sample (λ dots q. finish _ (number_law dots q) (λ x. refl)))

one_number_law : (zs : List ℤ) (ts : List Spot) → IsWhole ts → IsLawful Number after ts (one_number zs ts)
unfolding one_number
one_number_law zs ts w = finish _ (number_law ts w) (λ x. refl)

-- from its "{" on
pub braces_law : (ts : List Spot) → Reads (Mark (codes "{")) ts (after_first ts) → IsLawful Braces after ts (braces_at ts)
unfolding braces_at
braces_law ts r = onward r (next (separated_law _ one_number one_number_law number_sample [] (after_first ts) r.whole) (mark_sample (codes "}")) (λ numbers p. finish _ (mark_law _ numbers.1 p) (λ x. refl)))

room_law : (room : Bool) (ts : List Spot) → IsWhole ts → begins_expr (first ts) ≡ true → IsLawful (λ us. us ≡ []) (λ x. ts) ts (room_at room ts)
room_law true ts w h = is_ok _ (nothing_read ts refl w)
room_law false ts w h = refused code.TooMany ts w (too_many (first ts) h) ([], refl)

named_set_law : (room : Bool) (d : Option Decl) (ts : List Spot) → IsWhole ts → is_name (first ts) ≡ true → Reads Element ts (after_first ts) → IsLawful Element after ts (named_set room d ts)
named_set_law room None ts w z r = refused code.Undeclared ts w z element_sample
named_set_law room (Some (decl.Set set)) ts w z r = choice room (λ h. is_ok _ r) (λ h. refused code.TooMany ts w (too_many (first ts) (name_expr (first ts) z)) element_sample)
named_set_law room (Some d) ts w z r = refused code.WrongArguments ts w (wrong (first ts) (name_expr (first ts) z)) element_sample

pub name_element : (ts : List Spot) → Reads Name ts (after_first ts) → Reads Element ts (after_first ts)
unfolding Element
name_element ts r = wider (λ us p. inr (inr (inr (inr (inr p))))) r

set_by_law : (b : Begin) (room : Bool) (names : Names) (ts : List Spot) → IsWhole ts → Shown b (first ts).seen (first ts).text → Begun b ts → IsLawful Element after ts (set_by b room names ts)
unfolding Element
set_by_law begin.Number room names ts w z r = choice (is_mark (codes "..") (after_first ts))
    (λ h. widen (λ us p. inr (inr (inr (inl p)))) (given (value_law code.OutOfRange (number_in (first ts).text) ts w (λ e. rw (z, e) refl) r) (before (seq (mark_sample (codes "..")) number_sample)) (λ low p. given (room_law room ts w (begun_expr begin.Number (first ts) z refl)) (behind_nothing range_sample) (λ x q. onward p (next (mark_law _ low.1 p.whole) number_sample (λ dots u. finish _ (number_law dots u) (λ y. refl)))))))
    (λ h. refused code.WrongArguments ts w (wrong (first ts) (begun_expr begin.Number (first ts) z refl)) element_sample)
set_by_law begin.Real room names ts w z r = refused code.Float ts w (real_number (first ts) z) element_sample
set_by_law (begin.Truth b) room names ts w z r = refused code.WrongArguments ts w (wrong (first ts) (begun_expr (begin.Truth b) (first ts) z refl)) element_sample
set_by_law begin.Name room names ts w z r = named_set_law room (find_name names (first ts).text) ts w z (name_element ts r)
set_by_law begin.Brace room names ts w z r = widen (λ us p. inr (inr (inr (inr (inl p))))) (given (room_law room ts w (begun_expr begin.Brace (first ts) z refl)) (behind_nothing braces_sample) (λ x q. braces_law ts r))
set_by_law begin.Bracket room names ts w z r = refused code.WrongArguments ts w (wrong (first ts) (begun_expr begin.Bracket (first ts) z refl)) element_sample
set_by_law begin.Other room names ts w z r = refused code.Syntax ts w refl element_sample

pub set_law : (room : Bool) (names : Names) (ts : List Spot) → IsWhole ts → IsLawful Element after ts (set_at room names ts)
unfolding set_at
set_law room names ts w = set_by_law (begins ts) room names ts w (shown ts) (begun ts w)

named_term_law : (s : Scalar) (d : Option Decl) (ts : List Spot) → IsWhole ts → is_name (first ts) ≡ true → Reads Element ts (after_first ts) → IsLawful Element after ts (named_term s d ts)
named_term_law s None ts w z r = refused code.Undeclared ts w z element_sample
named_term_law s (Some d) ts w z r = value_law code.WrongArguments (fitting_term s d) ts w (λ e. wrong (first ts) (name_expr (first ts) z)) r

scalar_by_law : (b : Begin) (s : Scalar) (names : Names) (ts : List Spot) → IsWhole ts → Shown b (first ts).seen (first ts).text → Begun b ts → IsLawful Element after ts (scalar_by b s names ts)
unfolding Element
scalar_by_law begin.Number s names ts w z r = choice (takes_numbers s && not (is_mark (codes "..") (after_first ts)))
    (λ h. widen (λ us p. inr (inr (inl p))) (finish (λ z. (Const z.0, z.1)) (value_law code.OutOfRange (number_in (first ts).text) ts w (λ e. rw (z, e) refl) r) (λ x. refl)))
    (λ h. refused code.WrongArguments ts w (wrong (first ts) (begun_expr begin.Number (first ts) z refl)) element_sample)
scalar_by_law begin.Real s names ts w z r = refused code.Float ts w (real_number (first ts) z) element_sample
scalar_by_law (begin.Truth true) s names ts w z r = choice (takes_numbers s) (λ h. refused code.WrongArguments ts w (wrong (first ts) (begun_expr (begin.Truth true) (first ts) z refl)) element_sample) (λ h. is_ok _ (wider (λ us p. inl p) r))
scalar_by_law (begin.Truth false) s names ts w z r = choice (takes_numbers s) (λ h. refused code.WrongArguments ts w (wrong (first ts) (begun_expr (begin.Truth false) (first ts) z refl)) element_sample) (λ h. is_ok _ (wider (λ us p. inr (inl p)) r))
scalar_by_law begin.Name s names ts w z r = named_term_law s (find_name names (first ts).text) ts w z (name_element ts r)
scalar_by_law begin.Brace s names ts w z r = refused code.WrongArguments ts w (wrong (first ts) (begun_expr begin.Brace (first ts) z refl)) element_sample
scalar_by_law begin.Bracket s names ts w z r = refused code.WrongArguments ts w (wrong (first ts) (begun_expr begin.Bracket (first ts) z refl)) element_sample
scalar_by_law begin.Other s names ts w z r = refused code.Syntax ts w refl element_sample

pub scalar_law : (s : Scalar) (names : Names) (ts : List Spot) → IsWhole ts → IsLawful Element after ts (scalar_at s names ts)
unfolding scalar_at
scalar_law s names ts w = scalar_by_law (begins ts) s names ts w (shown ts) (begun ts w)

-- what an element begins with
element_expr : (ts rest : List Spot) → Reads Element ts rest → begins_expr (first ts) ≡ true
unfolding Element
element_expr ts rest r = element_by r.front r.spelled r.joined
  where
    element_by : (us : List Spot) → (Keyword (codes "true") ∣ Keyword (codes "false") ∣ Number ∣ Range ∣ Braces ∣ Name) us → ts ≡ us ++ rest → begins_expr (first ts) ≡ true
    element_by us (inl a) e = begun_expr (begin.Truth true) (first ts) (token_first rest a e) refl
    element_by us (inr (inl a)) e = begun_expr (begin.Truth false) (first ts) (token_first rest a e) refl
    element_by us (inr (inr (inl a))) e = begun_expr begin.Number (first ts) (token_first rest a e) refl
    element_by us (inr (inr (inr (inl a)))) e = begun_expr begin.Number (first ts) (token_first (a.back ++ rest) a.first (e ∙ ap (λ (vs : List Spot). vs ++ rest) a.joined ∙ append_assoc a.front a.back rest)) refl
    element_by us (inr (inr (inr (inr (inl a))))) e = begun_expr begin.Brace (first ts) (token_first (a.back ++ rest) a.first (e ∙ ap (λ (vs : List Spot). vs ++ rest) a.joined ∙ append_assoc a.front a.back rest)) refl
    element_by us (inr (inr (inr (inr (inr a))))) e = name_expr (first ts) (token_first rest a e)

limited_law : {A : Type 0} {v : A → List Spot} {read : Result A Refused} (room : Bool) (ts : List Spot) → IsWhole ts → IsLawful Element v ts read → IsLawful Element v ts (limited room ts read)
limited_law true ts w p = p
limited_law false ts w p = given p (whole_of (λ us q. q)) (λ x r. refused code.TooMany ts w (too_many (first ts) (element_expr ts _ r)) element_sample)

pub terms_law : (used : ℕ) (s : Scalar) (names : Names) (ts : List Spot) → IsWhole ts → IsLawful Elements after ts (elements_at used s names ts)
unfolding elements_at one_element
terms_law used s names ts w = elements_law (λ done us. limited (has_room (used + length done)) us (scalar_at s names us)) (λ done t. done ++ t ∷ []) (one_element used s names) (λ done us. refl) (λ done us p. limited_law (has_room (used + length done)) us p (scalar_law s names us p)) most [] ts w
