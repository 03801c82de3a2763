-- What begins at a token tells which tests the token passes.
use Rattle.std.proofs.Common.{◌≡◌, ℕ, List, Bool, true, false, cond, ◌&&◌, ◌||◌, not, refl, ap, codes}
use Rattle.std.specs.Prelude.{⊤}
use Rattle.std.specs.Str.{bytes_eq}
use Rattle.fzn_lexer.specs.Spots.{Spot, first, after_first, IsWhole}
use Rattle.fzn_lexer.specs.declared.seen.Seen.{Seen}
use Rattle.fzn_lexer.specs.declared.seen.Seen.TheVariants.{Known, End, Bad}
use Rattle.fzn_lexer.specs.declared.kind.Kind.TheVariants as kind
use Rattle.fzn_reader.specs.declared.begin.Begin.{Begin}
use Rattle.fzn_reader.specs.declared.begin.Begin.TheVariants as begin
use Rattle.fzn_reader.specs.declared.code.Code.TheVariants as code
use Rattle.fzn_reader.specs.Refusals.{is_kind, is_spelled, is_reserved}
use Rattle.fzn_reader.specs.Exprs.{begins, token_begins}
use Rattle.fzn_parser.specs.Grammar.{Number, Mark, Keyword, Name}
use Rattle.fzn_parser.specs.Laws.{is_name, is_truth, opens_many, begins_expr, may_show, Reads}
use Rattle.fzn_parser.proofs.Lawful.{or_left, or_right, took, takes_spelled, takes_kind, takes_name}

abbrev pub Shown : Begin → Seen → List ℕ → Type 0
Shown begin.Number k text = is_kind kind.Number k ≡ true
Shown begin.Real k text = is_kind kind.Real k ≡ true
Shown (begin.Truth true) k text = (is_kind kind.Word k && bytes_eq text (codes "true")) ≡ true
Shown (begin.Truth false) k text = (is_kind kind.Word k && bytes_eq text (codes "false")) ≡ true
Shown begin.Name k text = (is_kind kind.Word k && not (is_reserved text)) ≡ true
Shown begin.Brace k text = (is_kind kind.Mark k && bytes_eq text (codes "{")) ≡ true
Shown begin.Bracket k text = (is_kind kind.Mark k && bytes_eq text (codes "[")) ≡ true
Shown begin.Other k text = ⊤

word_by : (text : List ℕ) (a b c : Bool) → bytes_eq text (codes "true") ≡ a → bytes_eq text (codes "false") ≡ b → is_reserved text ≡ c → Shown (cond a (begin.Truth true) (cond b (begin.Truth false) (cond c begin.Other begin.Name))) (Known kind.Word) text
word_by text true b c p q r = p
word_by text false true c p q r = q
word_by text false false true p q r = tt
word_by text false false false p q r = ap not r

mark_by : (text : List ℕ) (a b : Bool) → bytes_eq text (codes "{") ≡ a → bytes_eq text (codes "[") ≡ b → Shown (cond a begin.Brace (cond b begin.Bracket begin.Other)) (Known kind.Mark) text
mark_by text true b p q = p
mark_by text false true p q = q
mark_by text false false p q = tt

shown_by : (k : Seen) (text : List ℕ) → Shown (token_begins k text) k text
shown_by (Known kind.Word) text = word_by text (bytes_eq text (codes "true")) (bytes_eq text (codes "false")) (is_reserved text) refl refl refl
shown_by (Known kind.Number) text = refl
shown_by (Known kind.Real) text = refl
shown_by (Known kind.Text) text = tt
shown_by (Known kind.Mark) text = mark_by text (bytes_eq text (codes "{")) (bytes_eq text (codes "[")) refl refl
shown_by End text = tt
shown_by Bad text = tt

-- the token that is read where it begins so
abbrev pub Begun : Begin → List Spot → Type 0
Begun begin.Number ts = Reads Number ts (after_first ts)
Begun begin.Real ts = is_kind kind.Real (first ts).seen ≡ true
Begun (begin.Truth true) ts = Reads (Keyword (codes "true")) ts (after_first ts)
Begun (begin.Truth false) ts = Reads (Keyword (codes "false")) ts (after_first ts)
Begun begin.Name ts = Reads Name ts (after_first ts)
Begun begin.Brace ts = Reads (Mark (codes "{")) ts (after_first ts)
Begun begin.Bracket ts = Reads (Mark (codes "[")) ts (after_first ts)
Begun begin.Other ts = ⊤

begun_by : (b : Begin) (ts : List Spot) → IsWhole ts → Shown b (first ts).seen (first ts).text → Begun b ts
begun_by begin.Number ts w h = took _ (takes_kind kind.Number) ts w h
begun_by begin.Real ts w h = h
begun_by (begin.Truth true) ts w h = took _ (takes_spelled kind.Word (codes "true")) ts w h
begun_by (begin.Truth false) ts w h = took _ (takes_spelled kind.Word (codes "false")) ts w h
begun_by begin.Name ts w h = took _ takes_name ts w h
begun_by begin.Brace ts w h = took _ (takes_spelled kind.Mark (codes "{")) ts w h
begun_by begin.Bracket ts w h = took _ (takes_spelled kind.Mark (codes "[")) ts w h
begun_by begin.Other ts w h = tt

pub begun : (ts : List Spot) → IsWhole ts → Begun (begins ts) ts
unfolding begins
begun ts w = begun_by (token_begins (first ts).seen (first ts).text) ts w (shown_by (first ts).seen (first ts).text)

-- what begins here tells what the first token is
pub shown : (ts : List Spot) → Shown (begins ts) (first ts).seen (first ts).text
unfolding begins
shown ts = shown_by (first ts).seen (first ts).text

literal : (s : Spot) → (is_kind kind.Number s.seen || is_truth s) ≡ true → begins_expr s ≡ true
literal s h = or_left (is_kind kind.Number s.seen || is_truth s) (is_name s || opens_many s) h

no_literal : (s : Spot) → (is_name s || opens_many s) ≡ true → begins_expr s ≡ true
no_literal s h = or_right (is_kind kind.Number s.seen || is_truth s) (is_name s || opens_many s) h

-- a name begins an expression
pub name_expr : (s : Spot) → is_name s ≡ true → begins_expr s ≡ true
name_expr s h = no_literal s (or_left (is_name s) (opens_many s) h)

truth_expr : (s : Spot) → is_truth s ≡ true → begins_expr s ≡ true
truth_expr s h = literal s (or_right (is_kind kind.Number s.seen) (is_truth s) h)

square_opens : (s : Spot) → is_spelled kind.Mark (codes "[") s ≡ true → opens_many s ≡ true
square_opens s h = or_left (is_spelled kind.Mark (codes "[") s) (is_spelled kind.Mark (codes "{") s) h

brace_opens : (s : Spot) → is_spelled kind.Mark (codes "{") s ≡ true → opens_many s ≡ true
brace_opens s h = or_right (is_spelled kind.Mark (codes "[") s) (is_spelled kind.Mark (codes "{") s) h

-- what begins an expression
abbrev pub is_begun : Begin → Bool
is_begun begin.Real = false
is_begun begin.Other = false
is_begun b = true

pub begun_expr : (b : Begin) (s : Spot) → Shown b s.seen s.text → is_begun b ≡ true → begins_expr s ≡ true
begun_expr begin.Number s h k = literal s (or_left (is_kind kind.Number s.seen) (is_truth s) h)
begun_expr (begin.Truth true) s h k = truth_expr s (or_left (is_spelled kind.Word (codes "true") s) (is_spelled kind.Word (codes "false") s) h)
begun_expr (begin.Truth false) s h k = truth_expr s (or_right (is_spelled kind.Word (codes "true") s) (is_spelled kind.Word (codes "false") s) h)
begun_expr begin.Name s h k = name_expr s h
begun_expr begin.Brace s h k = no_literal s (or_right (is_name s) (opens_many s) (brace_opens s h))
begun_expr begin.Bracket s h k = no_literal s (or_right (is_name s) (opens_many s) (square_opens s h))
begun_expr begin.Real s h k = absurd (cc)
begun_expr begin.Other s h k = absurd (cc)

-- which token shows which code
pub wrong : (s : Spot) → begins_expr s ≡ true → may_show code.WrongArguments s ≡ true
wrong s h = or_left (begins_expr s) (is_spelled kind.Mark (codes ")") s) h

pub wrong_end : (s : Spot) → is_spelled kind.Mark (codes ")") s ≡ true → may_show code.WrongArguments s ≡ true
wrong_end s h = or_right (begins_expr s) (is_spelled kind.Mark (codes ")") s) h

pub too_many : (s : Spot) → begins_expr s ≡ true → may_show code.TooMany s ≡ true
too_many s h = or_left (begins_expr s) (is_spelled kind.Word (codes "constraint") s) h

pub many_constraints : (s : Spot) → is_spelled kind.Word (codes "constraint") s ≡ true → may_show code.TooMany s ≡ true
many_constraints s h = or_right (begins_expr s) (is_spelled kind.Word (codes "constraint") s) h

pub real_number : (s : Spot) → is_kind kind.Real s.seen ≡ true → may_show code.Float s ≡ true
real_number s h = or_left (is_kind kind.Real s.seen) (is_spelled kind.Word (codes "float") s) h

pub float_word : (s : Spot) → is_spelled kind.Word (codes "float") s ≡ true → may_show code.Float s ≡ true
float_word s h = or_right (is_kind kind.Real s.seen) (is_spelled kind.Word (codes "float") s) h

pub list_end : (s : Spot) → is_spelled kind.Mark (codes "]") s ≡ true → may_show code.Lengths s ≡ true
list_end s h = or_left (is_spelled kind.Mark (codes "]") s) (is_spelled kind.Mark (codes ")") s) h

pub arguments_end : (s : Spot) → is_spelled kind.Mark (codes ")") s ≡ true → may_show code.Lengths s ≡ true
arguments_end s h = or_right (is_spelled kind.Mark (codes "]") s) (is_spelled kind.Mark (codes ")") s) h

pub deep_round : (s : Spot) → is_spelled kind.Mark (codes "(") s ≡ true → may_show code.TooDeep s ≡ true
deep_round s h = or_left (is_spelled kind.Mark (codes "(") s) (opens_many s) h

pub deep_square : (s : Spot) → is_spelled kind.Mark (codes "[") s ≡ true → may_show code.TooDeep s ≡ true
deep_square s h = or_right (is_spelled kind.Mark (codes "(") s) (opens_many s) (square_opens s h)

pub deep_brace : (s : Spot) → is_spelled kind.Mark (codes "{") s ≡ true → may_show code.TooDeep s ≡ true
deep_brace s h = or_right (is_spelled kind.Mark (codes "(") s) (opens_many s) (brace_opens s h)
