-- The grammar of a file, as languages: each says which lists of tokens its rule spells. It is the FlatZinc grammar of the
-- MiniZinc Handbook in this project's profile, and says nothing of types, names, limits or values.
use Rattle.std.specs.Prelude.{◌≡◌, ℕ, zero, suc, List, [], ◌∷◌, ◌++◌, Bool, true, false, ◌&&◌, ◌||◌, not, codes, ◌⊎◌}
use Rattle.fzn_lexer.specs.Spots.{Spot}
use Rattle.fzn_lexer.specs.declared.seen.Seen.{Seen}
use Rattle.fzn_lexer.specs.declared.seen.Seen.TheVariants.{Known, End, Bad}
use Rattle.fzn_lexer.specs.declared.kind.Kind.TheVariants as kind
use Rattle.fzn_reader.specs.Refusals.{is_kind, is_spelled, is_reserved}

-- one token that passes
pub record Token (test : Spot → Bool) (ts : List Spot) : Type 0 where
  pub spot : Spot
  pub passes : test spot ≡ true
  pub only : ts ≡ spot ∷ []

-- the first rule, and then the second
infixr 8 ◌·◌
pub record ◌·◌ (X Y : List Spot → Type 0) (ts : List Spot) : Type 0 where
  pub front : List Spot
  pub back : List Spot
  pub first : X front
  pub second : Y back
  pub joined : ts ≡ front ++ back

-- one of two rules
infixr 6 ◌∣◌
abbrev pub ◌∣◌ : (List Spot → Type 0) → (List Spot → Type 0) → List Spot → Type 0
(X ∣ Y) ts = X ts ⊎ Y ts

-- [ X ]
abbrev pub Optional : (List Spot → Type 0) → List Spot → Type 0
Optional X ts = (ts ≡ []) ⊎ X ts

-- { X }
pub data Many (X : List Spot → Type 0) : List Spot → Type 0 where
  none : Many X []
  more : (us vs : List Spot) → X us → Many X vs → Many X (us ++ vs)

abbrev pub Mark : List ℕ → List Spot → Type 0
Mark text = Token (is_spelled kind.Mark text)

abbrev pub Keyword : List ℕ → List Spot → Type 0
Keyword text = Token (is_spelled kind.Word text)

-- a word that isn't reserved
abbrev pub Name : List Spot → Type 0
Name = Token (λ s. is_kind kind.Word s.seen && not (is_reserved s.text))

abbrev pub Number : List Spot → Type 0
Number = Token (λ s. is_kind kind.Number s.seen)

-- [ X { "," X } ]
abbrev pub Separated : (List Spot → Type 0) → List Spot → Type 0
Separated X = Optional (X · Many (Mark (codes ",") · X))

-- Number ".." Number
abbrev pub Range : List Spot → Type 0
Range = Number · Mark (codes "..") · Number

-- "{" [ Number { "," Number } ] "}"
abbrev pub Braces : List Spot → Type 0
Braces = Mark (codes "{") · Separated Number · Mark (codes "}")

-- "bool" | "int" | "set" "of" "int"
unfoldable pub ParType : List Spot → Type 0
ParType = Keyword (codes "bool") ∣ Keyword (codes "int") ∣ (Keyword (codes "set") · Keyword (codes "of") · Keyword (codes "int"))

-- "bool" | "int" | Number ".." Number | "{" [ Number { "," Number } ] "}"
unfoldable pub VarType : List Spot → Type 0
VarType = Keyword (codes "bool") ∣ Keyword (codes "int") ∣ Range ∣ Braces

-- "true" | "false" | Number | Number ".." Number | "{" [ Number { "," Number } ] "}" | name: a literal or a name
unfoldable pub Element : List Spot → Type 0
Element = Keyword (codes "true") ∣ Keyword (codes "false") ∣ Number ∣ Range ∣ Braces ∣ Name

-- [ element { "," element } [ "," ] ]
pub data Elements : List Spot → Type 0 where
  none : Elements []
  last : (us : List Spot) → Element us → Elements us
  more : (us comma vs : List Spot) → Element us → Mark (codes ",") comma → Elements vs → Elements (us ++ (comma ++ vs))

-- "[" [ element { "," element } [ "," ] ] "]"
unfoldable pub ListOf : List Spot → Type 0
ListOf = Mark (codes "[") · Elements · Mark (codes "]")

-- an element, or a list of elements
unfoldable pub Expr : List Spot → Type 0
Expr = Element ∣ ListOf

-- a text, a real, "true" or "false"
abbrev pub Leaf : List Spot → Type 0
Leaf = Token (λ s. is_kind kind.Text s.seen || is_kind kind.Real s.seen) ∣ Keyword (codes "true") ∣ Keyword (codes "false")

-- name [ "(" [ X { "," X } ] ")" ]
abbrev pub AnnOver : (List Spot → Type 0) → List Spot → Type 0
AnnOver X = Name · Optional (Mark (codes "(") · Separated X · Mark (codes ")"))

-- annexpr, in which brackets stand so many levels deep:
--   Text | Real | "true" | "false" | Number [ ".." Number ] | "{" [ annexpr { "," annexpr } ] "}" | ann
--     | "[" [ annexpr { "," annexpr } ] "]"
unfoldable pub AnnExpr : ℕ → List Spot → Type 0
AnnExpr zero = Leaf ∣ (Number · Optional (Mark (codes "..") · Number)) ∣ Name
AnnExpr (suc levels) = Leaf ∣ (Number · Optional (Mark (codes "..") · Number)) ∣ AnnOver (AnnExpr levels) ∣ (Mark (codes "{") · Separated (AnnExpr levels) · Mark (codes "}")) ∣ (Mark (codes "[") · Separated (AnnExpr levels) · Mark (codes "]"))

-- name [ "(" [ annexpr { "," annexpr } ] ")" ], in which brackets stand at most 64 levels deep
unfoldable pub Ann : List Spot → Type 0
Ann = AnnOver (AnnExpr 63)

-- { "::" ann }
unfoldable pub Annotations : List Spot → Type 0
Annotations = Many (Mark (codes "::") · Ann)

-- a token, and neither the end nor a byte that begins none
abbrev pub is_token : Seen → Bool
is_token (Known k) = true
is_token End = false
is_token Bad = false

-- "predicate" name "(" { any token but ";" }
unfoldable pub Predicate : List Spot → Type 0
Predicate = Keyword (codes "predicate") · Name · Mark (codes "(") · Many (Token (λ s. is_token s.seen && not (is_spelled kind.Mark (codes ";") s)))

-- partype ":" name { "::" ann } "=" expr
unfoldable pub Parameter : List Spot → Type 0
Parameter = ParType · Mark (codes ":") · Name · Annotations · Mark (codes "=") · Expr

-- "var" vartype ":" name { "::" ann } [ "=" expr ]
unfoldable pub Variable : List Spot → Type 0
Variable = Keyword (codes "var") · VarType · Mark (codes ":") · Name · Annotations · Optional (Mark (codes "=") · Expr)

-- partype, or "var" vartype
abbrev pub ElementType : List Spot → Type 0
ElementType = ParType ∣ (Keyword (codes "var") · VarType)

-- "[" "1" ".." Number "]" "of"
abbrev pub Length : List Spot → Type 0
Length = Mark (codes "[") · Token (is_spelled kind.Number (codes "1")) · Mark (codes "..") · Number · Mark (codes "]") · Keyword (codes "of")

-- "array" "[" "1" ".." Number "]" "of" ( partype | "var" vartype ) ":" name { "::" ann } "=" list
unfoldable pub Array : List Spot → Type 0
Array = Keyword (codes "array") · Length · ElementType · Mark (codes ":") · Name · Annotations · Mark (codes "=") · ListOf

-- name "(" [ expr { "," expr } ] ")"
abbrev pub Call : List Spot → Type 0
Call = Name · Mark (codes "(") · Separated Expr · Mark (codes ")")

-- "constraint" name "(" [ expr { "," expr } ] ")" { "::" ann }
unfoldable pub Constraint : List Spot → Type 0
Constraint = Keyword (codes "constraint") · Call · Annotations

-- "solve" { "::" ann } ( "satisfy" | ( "minimize" | "maximize" ) expr )
unfoldable pub Solve : List Spot → Type 0
Solve = Keyword (codes "solve") · Annotations · (Keyword (codes "satisfy") ∣ ((Keyword (codes "minimize") ∣ Keyword (codes "maximize")) · Expr))

-- an item
unfoldable pub Item : List Spot → Type 0
Item = Predicate ∣ Parameter ∣ Variable ∣ Array ∣ Constraint ∣ Solve

-- { item ";" }
unfoldable pub File : List Spot → Type 0
File = Many (Item · Mark (codes ";"))
