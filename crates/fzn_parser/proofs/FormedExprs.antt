-- Numbers, sets, ints, bools and lists: what the grammar spells is read to its end, or refused for another reason than its form.
use Rattle.std.proofs.Common.{◌≡◌, ℕ, ◌+◌, List, [], ◌∷◌, ◌++◌, length, Bool, true, false, ◌&&◌, not, Option, Some, None, Result, refl, sym, ap, subst, inl, codes, ℤ}
use Rattle.fzn_lexer.specs.Spots.{Spot, first, after_first}
use Rattle.fzn_lexer.specs.declared.kind.Kind.TheVariants as kind
use Rattle.fzn_model.specs.declared.term.Term.TheVariants.{Const}
use Rattle.fzn_reader.specs.declared.code.Code.TheVariants as code
use Rattle.fzn_reader.specs.declared.decl.Decl.{Decl}
use Rattle.fzn_reader.specs.declared.decl.Decl.TheVariants as decl
use Rattle.fzn_reader.specs.declared.scalar.Scalar.{Scalar}
use Rattle.fzn_reader.specs.declared.refused.Refused.{Refused}
use Rattle.fzn_reader.specs.Refusals.{is_mark}
use Rattle.fzn_reader.specs.Names.{Names, find_name}
use Rattle.fzn_reader.specs.Numbers.{number_in}
use Rattle.fzn_reader.specs.Exprs.{begins}
use Rattle.fzn_reader.specs.Sets.{number_at, range_at, one_number, braces_at}
use Rattle.fzn_reader.specs.Types.{named_set, room_at, set_by, set_at}
use Rattle.fzn_reader.specs.Scalars.{takes_numbers, named_term, fitting_term, scalar_by, scalar_at, limited}
use Rattle.fzn_reader.specs.Lists.{has_room, one_element, elements_at}
use Rattle.fzn_parser.specs.Grammar.{◌·◌, Number, Mark, Range, Braces, Element, Elements, Expr}
use Rattle.fzn_parser.specs.Laws.{is_form}
use Rattle.fzn_parser.proofs.Lawful.{takes_kind, takes_spelled, after}
use Rattle.fzn_parser.proofs.Formed.{Spelled, IsFormed, ok_formed, other_code, value_formed, bind, made, chosen, passed, either, seq, taken, mark_formed, behind_token, narrow}
use Rattle.fzn_parser.proofs.FormedLists.{Follows, marked, separated_formed, elements_formed}
use Rattle.fzn_parser.proofs.FormedBegins.{begins_kind_number, number_opens, IsExpr, truth, number, range, braces, name, bracket, is_expr, element_opens, element_some}

pub number_formed : (ts rest : List Spot) → Spelled Number ts rest → IsFormed is_form after rest (number_at ts)
unfolding number_at
number_formed ts rest p = let q = taken (takes_kind kind.Number) p in rw (begins_kind_number ts q.passes) (value_formed code.OutOfRange (number_in (first ts).text) ts rest refl q.behind)

pub range_formed : (ts rest : List Spot) → Spelled Range ts rest → IsFormed is_form after rest (range_at ts)
unfolding range_at
range_formed ts rest p = seq p (λ mid a b. number_formed ts mid a) (λ low q. seq q (λ mid a b. mark_formed _ low.1 mid a) (λ dots r. made _ (number_formed dots rest r) (λ x. refl)))

one_number_formed : (zs : List ℤ) (ts rest : List Spot) → Spelled Number ts rest → IsFormed is_form after rest (one_number zs ts)
unfolding one_number
one_number_formed zs ts rest p = made _ (number_formed ts rest p) (λ x. refl)

pub braces_formed : (ts rest : List Spot) → Spelled Braces ts rest → IsFormed is_form after rest (braces_at ts)
unfolding braces_at
braces_formed ts rest p = seq (behind_token (takes_spelled kind.Mark (codes "{")) p)
    (λ mid a b. separated_formed (codes "}") refl refl refl one_number (λ us m q. (number_opens us m q).brace) (λ s us m q f. one_number_formed s us m q) [] (after_first ts) mid a (taken (takes_spelled kind.Mark (codes "}")) b).passes)
    (λ numbers q. made _ (mark_formed _ numbers.1 rest q) (λ x. refl))

room_formed : {rest : List Spot} (room : Bool) (ts : List Spot) → IsFormed is_form (λ x. rest) rest (room_at room ts)
room_formed true ts = ok_formed _ refl
room_formed false ts = other_code code.TooMany ts refl

named_set_formed : (room : Bool) (d : Option Decl) (ts rest : List Spot) → after_first ts ≡ rest → IsFormed is_form after rest (named_set room d ts)
named_set_formed room None ts rest e = other_code code.Undeclared ts refl
named_set_formed room (Some (decl.Set set)) ts rest e = either room (λ h. ok_formed _ e) (λ h. other_code code.TooMany ts refl)
named_set_formed room (Some d) ts rest e = other_code code.WrongArguments ts refl

-- a number, and no `..` behind it
no_dots : (ts rest : List Spot) → after_first ts ≡ rest → Follows rest → is_mark (codes "..") (after_first ts) ≡ false
no_dots ts rest e f = subst (λ (us : List Spot). is_mark (codes "..") us ≡ false) (sym e) f.dots

set_by_formed : (room : Bool) (names : Names) (ts rest : List Spot) → IsExpr ts rest → Follows rest → IsFormed is_form after rest (set_by (begins ts) room names ts)
set_by_formed room names ts rest (truth b e p) f = rw e (other_code code.WrongArguments ts refl)
set_by_formed room names ts rest (number e p) f = rw e (passed (is_mark (codes "..") (after_first ts)) _ (no_dots ts rest p f) (other_code code.WrongArguments ts refl))
set_by_formed room names ts rest (range e p) f = let q = behind_token (takes_kind kind.Number) p in
    rw e (chosen (is_mark (codes "..") (after_first ts)) _ (marked (codes "..") q) (bind (value_formed code.OutOfRange (number_in (first ts).text) ts (after_first ts) refl refl) (λ low g. bind (room_formed {rest = rest} room ts) (λ x h.
    seq (subst (λ (us : List Spot). Spelled (Mark (codes "..") · Number) us rest) (sym g) q) (λ mid a b. mark_formed _ low.1 mid a) (λ dots r. made _ (number_formed dots rest r) (λ y. refl))))))
set_by_formed room names ts rest (braces e p) f = rw e (bind (room_formed {rest = rest} room ts) (λ x h. braces_formed ts rest p))
set_by_formed room names ts rest (name e p) f = rw e (named_set_formed room (find_name names (first ts).text) ts rest p)
set_by_formed room names ts rest (bracket e p) f = rw e (other_code code.WrongArguments ts refl)

pub set_formed : (room : Bool) (names : Names) (ts rest : List Spot) → Spelled Expr ts rest → Follows rest → IsFormed is_form after rest (set_at room names ts)
unfolding set_at
set_formed room names ts rest p f = set_by_formed room names ts rest (is_expr ts rest p) f

named_term_formed : (s : Scalar) (d : Option Decl) (ts rest : List Spot) → after_first ts ≡ rest → IsFormed is_form after rest (named_term s d ts)
named_term_formed s None ts rest e = other_code code.Undeclared ts refl
named_term_formed s (Some d) ts rest e = value_formed code.WrongArguments (fitting_term s d) ts rest refl e

scalar_by_formed : (s : Scalar) (names : Names) (ts rest : List Spot) → IsExpr ts rest → IsFormed is_form after rest (scalar_by (begins ts) s names ts)
scalar_by_formed s names ts rest (truth b e p) = rw e (either (takes_numbers s) (λ h. other_code code.WrongArguments ts refl) (λ h. ok_formed _ p))
scalar_by_formed s names ts rest (number e p) = rw e (either (takes_numbers s && not (is_mark (codes "..") (after_first ts))) (λ h. made (λ z. (Const z.0, z.1)) (value_formed code.OutOfRange (number_in (first ts).text) ts rest refl p) (λ x. refl)) (λ h. other_code code.WrongArguments ts refl))
scalar_by_formed s names ts rest (range e p) = rw e (passed (takes_numbers s && not (is_mark (codes "..") (after_first ts))) _ (never (takes_numbers s) _ (marked (codes "..") (behind_token (takes_kind kind.Number) p))) (other_code code.WrongArguments ts refl))
  where
    never : (a b : Bool) → b ≡ true → (a && not b) ≡ false
    never true b h = ap not h
    never false b h = refl
scalar_by_formed s names ts rest (braces e p) = rw e (other_code code.WrongArguments ts refl)
scalar_by_formed s names ts rest (name e p) = rw e (named_term_formed s (find_name names (first ts).text) ts rest p)
scalar_by_formed s names ts rest (bracket e p) = rw e (other_code code.WrongArguments ts refl)

pub scalar_formed : (s : Scalar) (names : Names) (ts rest : List Spot) → Spelled Expr ts rest → IsFormed is_form after rest (scalar_at s names ts)
unfolding scalar_at
scalar_formed s names ts rest p = scalar_by_formed s names ts rest (is_expr ts rest p)

limited_formed : {A : Type 0} {v : A → List Spot} {rest : List Spot} {read : Result A Refused} (room : Bool) (ts : List Spot) → IsFormed is_form v rest read → IsFormed is_form v rest (limited room ts read)
limited_formed true ts p = p
limited_formed false ts p = bind p (λ x e. other_code code.TooMany ts refl)

pub element_expr : {ts rest : List Spot} → Spelled Element ts rest → Spelled Expr ts rest
unfolding Expr
element_expr p = narrow (λ us q. inl q) p

pub terms_formed : (used : ℕ) (s : Scalar) (names : Names) (ts rest : List Spot) → Spelled Elements ts rest → is_mark (codes "]") rest ≡ true → IsFormed is_form after rest (elements_at used s names ts)
unfolding elements_at one_element
terms_formed used s names ts rest p c = elements_formed (λ done us. limited (has_room (used + length done)) us (scalar_at s names us)) (λ done t. done ++ t ∷ []) (one_element used s names) (λ done us. refl) element_some (λ us m q. (element_opens us m q).bracket)
    (λ done us m q f. limited_formed (has_room (used + length done)) us (scalar_formed s names us m (element_expr q))) [] ts rest p c
