-- What a spelled token begins, and which marks it is not.
use Rattle.std.proofs.Common.{◌≡◌, ℕ, List, ◌++◌, length, Bool, true, false, cond, ◌&&◌, not, refl, sym, ap, ◌∙◌, inl, inr, ◌<◌, codes}
use Rattle.std.specs.Str.{bytes_eq}
use Rattle.std.proofs.lemmas.Slice.Eq.{bytes_eq-Decides}
use Rattle.fzn_lexer.specs.Spots.{Spot, first, after_first}
use Rattle.fzn_lexer.specs.declared.seen.Seen.TheVariants.{Known}
use Rattle.fzn_lexer.specs.declared.kind.Kind.{Kind}
use Rattle.fzn_lexer.specs.declared.kind.Kind.TheVariants as kind
use Rattle.fzn_reader.specs.declared.begin.Begin.{Begin}
use Rattle.fzn_reader.specs.declared.begin.Begin.TheVariants as begin
use Rattle.fzn_reader.specs.Refusals.{is_kind, is_mark, is_word, is_reserved, most}
use Rattle.fzn_reader.specs.Exprs.{begins, token_begins}
use Rattle.fzn_parser.specs.Grammar.{◌·◌, ◌∣◌, Mark, Keyword, Name, Number, Range, Braces, Element, ListOf, Expr}
use Rattle.fzn_parser.proofs.Lawful.{both, takes_spelled, takes_kind, takes_name}
use Rattle.fzn_parser.proofs.Formed.{Spelled, at_front, split, taken, seen_is, text_is, other_kind, other_text}
use Rattle.fzn_parser.proofs.FormedLists.{token_some, first_some}

pub begins_kind_number : (ts : List Spot) → is_kind kind.Number (first ts).seen ≡ true → begins ts ≡ begin.Number
unfolding begins
begins_kind_number ts h = rw (seen_is kind.Number (first ts).seen h) refl

pub begins_truth : (ts : List Spot) (b : Bool) (text : List ℕ) → token_begins (Known kind.Word) text ≡ begin.Truth b → is_word text ts ≡ true → begins ts ≡ begin.Truth b
unfolding begins
begins_truth ts b text e h = let k = seen_is kind.Word (first ts).seen (both _ _ h).0 in let t = text_is kind.Word text (first ts) h in rw (k, t) e

pub begins_mark : (ts : List Spot) (b : Begin) (text : List ℕ) → token_begins (Known kind.Mark) text ≡ b → is_mark text ts ≡ true → begins ts ≡ b
unfolding begins
begins_mark ts b text e h = let k = seen_is kind.Mark (first ts).seen (both _ _ h).0 in let t = text_is kind.Mark text (first ts) h in rw (k, t) e

pub not_true : (b : Bool) → not b ≡ true → b ≡ false
not_true true h = absurd (cc)
not_true false h = refl

no_literal : (a b c : Bool) → a ≡ false → b ≡ false → c ≡ false → cond a (begin.Truth true) (cond b (begin.Truth false) (cond c begin.Other begin.Name)) ≡ begin.Name
no_literal a b c p q r = rw (p, q, r) refl

-- a word that isn't reserved is none of the reserved ones
not_word : (text word : List ℕ) (b : Bool) → bytes_eq text word ≡ b → is_reserved word ≡ true → is_reserved text ≡ false → b ≡ false
not_word text word true e r h = let same : text ≡ word = (bytes_eq-Decides text word).0 e in let k : is_reserved text ≡ true = ap is_reserved same ∙ r in absurd (apart (is_reserved text) k h)
  where
    apart : (b : Bool) → b ≡ true → b ≡ false → ⊥
    apart true p q = absurd (cc)
    apart false p q = absurd (cc)
not_word text word false e r h = refl

word_begins_name : (text : List ℕ) → is_reserved text ≡ false → token_begins (Known kind.Word) text ≡ begin.Name
word_begins_name text h = no_literal (bytes_eq text (codes "true")) (bytes_eq text (codes "false")) (is_reserved text) (not_word text (codes "true") _ refl refl h) (not_word text (codes "false") _ refl refl h) h

pub begins_name : (ts : List Spot) → (is_kind kind.Word (first ts).seen && not (is_reserved (first ts).text)) ≡ true → begins ts ≡ begin.Name
unfolding begins
begins_name ts h = let k = seen_is kind.Word (first ts).seen (both _ _ h).0 in rw k (word_begins_name (first ts).text (not_true _ (both _ _ h).1))

-- a token that is no closing mark
pub record Opens (ts : List Spot) : Type 0 where
  pub brace : is_mark (codes "}") ts ≡ false
  pub bracket : is_mark (codes "]") ts ≡ false
  pub round : is_mark (codes ")") ts ≡ false

pub opens_kind : (k : Kind) (ts : List Spot) → is_kind kind.Mark (Known k) ≡ false → is_kind k (first ts).seen ≡ true → Opens ts
opens_kind k ts n h = record { brace = other_kind k kind.Mark (codes "}") (first ts) n h; bracket = other_kind k kind.Mark (codes "]") (first ts) n h; round = other_kind k kind.Mark (codes ")") (first ts) n h }

pub opens_mark : (text : List ℕ) (ts : List Spot) → bytes_eq text (codes "}") ≡ false → bytes_eq text (codes "]") ≡ false → bytes_eq text (codes ")") ≡ false → is_mark text ts ≡ true → Opens ts
opens_mark text ts a b c h = record { brace = other_text kind.Mark text (codes "}") (first ts) a h; bracket = other_text kind.Mark text (codes "]") (first ts) b h; round = other_text kind.Mark text (codes ")") (first ts) c h }

pub word_opens : (text : List ℕ) (ts : List Spot) → is_word text ts ≡ true → Opens ts
word_opens text ts h = opens_kind kind.Word ts refl (both _ _ h).0

pub number_opens : (ts mid : List Spot) → Spelled Number ts mid → Opens ts
number_opens ts mid p = opens_kind kind.Number ts refl (taken (takes_kind kind.Number) p).passes

-- What an expression is, by what begins at its first token.
pub data IsExpr (ts rest : List Spot) : Type 0 where
  truth : (b : Bool) → begins ts ≡ begin.Truth b → after_first ts ≡ rest → IsExpr ts rest
  number : begins ts ≡ begin.Number → after_first ts ≡ rest → IsExpr ts rest
  range : begins ts ≡ begin.Number → Spelled Range ts rest → IsExpr ts rest
  braces : begins ts ≡ begin.Brace → Spelled Braces ts rest → IsExpr ts rest
  name : begins ts ≡ begin.Name → after_first ts ≡ rest → IsExpr ts rest
  bracket : begins ts ≡ begin.Bracket → Spelled ListOf ts rest → IsExpr ts rest

number_begins : {Y : List Spot → Type 0} (ts rest : List Spot) → Spelled (Number · Y) ts rest → begins ts ≡ begin.Number
number_begins ts rest p = begins_kind_number ts (taken (takes_kind kind.Number) (split p).first).passes

pub brace_begins : {Y : List Spot → Type 0} (ts rest : List Spot) → Spelled (Mark (codes "{") · Y) ts rest → begins ts ≡ begin.Brace
brace_begins ts rest p = begins_mark ts begin.Brace (codes "{") refl (taken (takes_spelled kind.Mark (codes "{")) (split p).first).passes

pub bracket_begins : {Y : List Spot → Type 0} (ts rest : List Spot) → Spelled (Mark (codes "[") · Y) ts rest → begins ts ≡ begin.Bracket
bracket_begins ts rest p = begins_mark ts begin.Bracket (codes "[") refl (taken (takes_spelled kind.Mark (codes "[")) (split p).first).passes

module _ (ts rest front : List Spot) (e : ts ≡ front ++ rest) (few : length front < most) where
  element_by : (Keyword (codes "true") ∣ Keyword (codes "false") ∣ Number ∣ Range ∣ Braces ∣ Name) front → IsExpr ts rest
  element_by (inl a) = let q = taken (takes_spelled kind.Word (codes "true")) (at_front front e few a) in truth true (begins_truth ts true (codes "true") refl q.passes) q.behind
  element_by (inr (inl a)) = let q = taken (takes_spelled kind.Word (codes "false")) (at_front front e few a) in truth false (begins_truth ts false (codes "false") refl q.passes) q.behind
  element_by (inr (inr (inl a))) = let q = taken (takes_kind kind.Number) (at_front front e few a) in number (begins_kind_number ts q.passes) q.behind
  element_by (inr (inr (inr (inl a)))) = range (number_begins ts rest (at_front front e few a)) (at_front front e few a)
  element_by (inr (inr (inr (inr (inl a))))) = braces (brace_begins ts rest (at_front front e few a)) (at_front front e few a)
  element_by (inr (inr (inr (inr (inr a))))) = let q = taken takes_name (at_front front e few a) in name (begins_name ts q.passes) q.behind

pub is_element : (ts rest : List Spot) → Spelled Element ts rest → IsExpr ts rest
unfolding Element
is_element ts rest p = element_by ts rest p.front p.joined p.few p.spelled

expr_by : (ts rest front : List Spot) → ts ≡ front ++ rest → length front < most → (Element ∣ ListOf) front → IsExpr ts rest
unfolding ListOf
expr_by ts rest front e n (inl a) = is_element ts rest (at_front front e n a)
expr_by ts rest front e n (inr a) = let p : Spelled ListOf ts rest = at_front front e n a in bracket (bracket_begins ts rest p) p

pub is_expr : (ts rest : List Spot) → Spelled Expr ts rest → IsExpr ts rest
unfolding Expr
is_expr ts rest p = expr_by ts rest p.front p.joined p.few p.spelled

-- what begins an expression is no closing mark
abbrev opens : Begin → Bool
opens begin.Other = false
opens b = true

closes_not : (text : List ℕ) (ts : List Spot) (b : Begin) (t : Bool) → token_begins (Known kind.Mark) text ≡ begin.Other → begins ts ≡ b → opens b ≡ true → is_mark text ts ≡ t → t ≡ false
closes_not text ts b true n e o h = let other : begins ts ≡ begin.Other = begins_mark ts begin.Other text n h in let k : opens begin.Other ≡ true = ap opens (sym other ∙ e) ∙ o in absurd (cc)
closes_not text ts b false n e o h = refl

begun_opens : (ts : List Spot) (b : Begin) → begins ts ≡ b → opens b ≡ true → Opens ts
begun_opens ts b e o = record { brace = closes_not (codes "}") ts b _ refl e o refl; bracket = closes_not (codes "]") ts b _ refl e o refl; round = closes_not (codes ")") ts b _ refl e o refl }

expr_begins : (ts rest : List Spot) → IsExpr ts rest → Opens ts
expr_begins ts rest (truth b e p) = begun_opens ts (begin.Truth b) e refl
expr_begins ts rest (number e p) = begun_opens ts begin.Number e refl
expr_begins ts rest (range e p) = begun_opens ts begin.Number e refl
expr_begins ts rest (braces e p) = begun_opens ts begin.Brace e refl
expr_begins ts rest (name e p) = begun_opens ts begin.Name e refl
expr_begins ts rest (bracket e p) = begun_opens ts begin.Bracket e refl

pub element_opens : (ts rest : List Spot) → Spelled Element ts rest → Opens ts
element_opens ts rest p = expr_begins ts rest (is_element ts rest p)

pub expr_opens : (ts rest : List Spot) → Spelled Expr ts rest → Opens ts
expr_opens ts rest p = expr_begins ts rest (is_expr ts rest p)

some_by : (us : List Spot) → (Keyword (codes "true") ∣ Keyword (codes "false") ∣ Number ∣ Range ∣ Braces ∣ Name) us → 0 < length us
some_by us (inl a) = token_some us a
some_by us (inr (inl a)) = token_some us a
some_by us (inr (inr (inl a))) = token_some us a
some_by us (inr (inr (inr (inl a)))) = first_some token_some us a
some_by us (inr (inr (inr (inr (inl a))))) = first_some token_some us a
some_by us (inr (inr (inr (inr (inr a))))) = token_some us a

pub element_some : (us : List Spot) → Element us → 0 < length us
unfolding Element
element_some us p = some_by us p
