-- For each rule something that it spells.
use Rattle.std.proofs.Common.{◌≡◌, ℕ, zero, suc, List, [], ◌∷◌, ◌++◌, Bool, true, refl, sym, subst, inl, inr, codes}
use Rattle.std.proofs.lemmas.List.{append-nil}
use Rattle.std.specs.Str.{bytes_eq}
use Rattle.std.proofs.lemmas.Slice.Eq.{bytes_eq-Decides}
use Rattle.fzn_lexer.specs.Spots.{Spot}
use Rattle.fzn_lexer.specs.declared.seen.Seen.TheVariants.{Known}
use Rattle.fzn_lexer.specs.declared.kind.Kind.{Kind}
use Rattle.fzn_lexer.specs.declared.kind.Kind.TheVariants as kind
use Rattle.fzn_parser.specs.Grammar.{Token, ◌·◌, ◌∣◌, Optional, Many, none, Mark, Keyword, Name, Number, Separated, Range, ParType, VarType, Element, Elements, ListOf, Expr, AnnExpr, Ann, Annotations}

abbrev pub Sample : (List Spot → Type 0) → Type 0
Sample X = (us : List Spot) × X us

-- tokens with which others are spelled
abbrev pub Completes : (List Spot → Type 0) → List Spot → Type 0
Completes Y us = (vs : List Spot) × Y (us ++ vs)

pub seq : {X Y : List Spot → Type 0} → Sample X → Sample Y → Sample (X · Y)
seq x y = (x.0 ++ y.0, record { front = x.0; back = y.0; first = x.1; second = y.1; joined = refl })

-- with a sample of what stands behind it
pub before : {X Y : List Spot → Type 0} → Sample Y → (us : List Spot) → X us → Completes (X · Y) us
before y us x = (y.0, record { front = us; back = y.0; first = x; second = y.1; joined = refl })

-- as it stands
pub whole_of : {X Y : List Spot → Type 0} → ((us : List Spot) → X us → Y us) → (us : List Spot) → X us → Completes Y us
whole_of {Y = Y} h us x = ([], subst Y (sym (append-nil us)) (h us x))

-- where nothing stands yet
pub behind_nothing : {Y : List Spot → Type 0} → Sample Y → (us : List Spot) → us ≡ [] → Completes Y us
behind_nothing {Y = Y} y us e = (y.0, subst (λ (vs : List Spot). Y (vs ++ y.0)) (sym e) y.1)

abbrev pub spot_of : Kind → List ℕ → Spot
spot_of k text = record { seen = Known k; text = text; line = 0; from = 0; to = 0 }

pub token_sample : {test : Spot → Bool} (s : Spot) → test s ≡ true → Sample (Token test)
token_sample s h = (s ∷ [], record { spot = s; passes = h; only = refl })

pub mark_sample : (text : List ℕ) → Sample (Mark text)
mark_sample text = let e : bytes_eq text text ≡ true = (bytes_eq-Decides text text).1 refl in token_sample (spot_of kind.Mark text) (rw e refl)

pub word_sample : (text : List ℕ) → Sample (Keyword text)
word_sample text = let e : bytes_eq text text ≡ true = (bytes_eq-Decides text text).1 refl in token_sample (spot_of kind.Word text) (rw e refl)

pub name_sample : Sample Name
name_sample = token_sample (spot_of kind.Word (codes "a")) refl

pub number_sample : Sample Number
number_sample = token_sample (spot_of kind.Number (codes "1")) refl

pub range_sample : Sample Range
range_sample = seq number_sample (seq (mark_sample (codes "..")) number_sample)

pub element_sample : Sample Element
unfolding Element
element_sample = let n = number_sample in (n.0, inr (inr (inl n.1)))

pub expr_sample : Sample Expr
unfolding Expr
expr_sample = let e = element_sample in (e.0, inl e.1)

pub elements_sample : Sample Elements
elements_sample = ([], none)

pub list_sample : Sample ListOf
unfolding ListOf
list_sample = seq (mark_sample (codes "[")) (seq elements_sample (mark_sample (codes "]")))

pub left_out : {X : List Spot → Type 0} → Sample (Optional X)
left_out = ([], inl refl)

pub no_more : {X : List Spot → Type 0} → Sample (Many X)
no_more = ([], none)

pub partype_sample : Sample ParType
unfolding ParType
partype_sample = let w = word_sample (codes "int") in (w.0, inr (inl w.1))

pub vartype_sample : Sample VarType
unfolding VarType
vartype_sample = let w = word_sample (codes "int") in (w.0, inr (inl w.1))

pub annexpr_sample : (levels : ℕ) → Sample (AnnExpr levels)
unfolding AnnExpr
annexpr_sample zero = let w = word_sample (codes "true") in (w.0, inl (inr (inl w.1)))
annexpr_sample (suc levels) = let w = word_sample (codes "true") in (w.0, inl (inr (inl w.1)))

pub ann_sample : Sample Ann
unfolding Ann
ann_sample = seq name_sample left_out

pub annotations_sample : Sample Annotations
unfolding Annotations
annotations_sample = no_more

pub satisfy_sample : Sample (Keyword (codes "satisfy") ∣ ((Keyword (codes "minimize") ∣ Keyword (codes "maximize")) · Expr))
satisfy_sample = let w = word_sample (codes "satisfy") in (w.0, inl w.1)

pub braces_sample : Sample (Mark (codes "{") · Separated Number · Mark (codes "}"))
braces_sample = seq (mark_sample (codes "{")) (seq left_out (mark_sample (codes "}")))

pub call_sample : Sample (Mark (codes "(") · Separated Expr · Mark (codes ")"))
call_sample = seq (mark_sample (codes "(")) (seq left_out (mark_sample (codes ")")))

-- what stands behind the type of a parameter, and of an array
pub given_sample : Sample (Mark (codes "=") · Expr)
given_sample = seq (mark_sample (codes "=")) expr_sample

pub listed_sample : Sample (Mark (codes "=") · ListOf)
listed_sample = seq (mark_sample (codes "=")) list_sample
