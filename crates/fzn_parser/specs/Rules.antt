-- Rules of a grammar that say what they make. A rule tells of a place in a file, of a later place, and of a value, that the
-- tokens between the places make this value. A place is what is left of the file from there on.
use Rattle.std.specs.Prelude.{◌≡◌, ℕ, List, ◌∷◌, ◌++◌, Bool, true, Option, Some, ◌⊎◌, codes}
use Rattle.fzn_lexer.specs.Spots.{Spot}
use Rattle.fzn_lexer.specs.declared.kind.Kind.TheVariants as kind
use Rattle.fzn_reader.specs.Refusals.{is_spelled}

abbrev pub Rule : Type 0 → Type 1
Rule A = List Spot → List Spot → A → Type 0

-- one rule, and then the next, which knows what the first made
infixl 10 ◌>>=◌
pub record ◌>>=◌ {A B : Type 0} (X : List Spot → List Spot → A → Type 0) (Y : A → List Spot → List Spot → B → Type 0) (ts rest : List Spot) (b : B) : Type 0 where
  pub mid : List Spot
  pub value : A
  pub first : X ts mid value
  pub second : Y value mid rest b

-- one rule, and then the next
infixl 10 ◌>>◌
abbrev pub ◌>>◌ : {A B : Type 0} → Rule A → Rule B → Rule B
X >> Y = X >>= λ a. Y

-- one of two rules
infixr 6 ◌∣◌
abbrev pub ◌∣◌ : {A : Type 0} → Rule A → Rule A → Rule A
(X ∣ Y) ts rest a = X ts rest a ⊎ Y ts rest a

-- no token; this is made
abbrev pub makes : {A : Type 0} → A → Rule A
makes x ts rest a = (ts ≡ rest) × (a ≡ x)

-- no token; what an option has is made, and an option without it makes nothing
abbrev pub some : {A : Type 0} → Option A → Rule A
some o ts rest a = (ts ≡ rest) × (o ≡ Some a)

-- no token, where a test holds
abbrev pub holds : Bool → Rule (Unit {0})
holds b ts rest u = (ts ≡ rest) × (b ≡ true)

-- no token; the place itself is made
abbrev pub here : Rule (List Spot)
here ts rest place = (ts ≡ rest) × (place ≡ ts)

-- one token that passes stands between two places
pub record Stands (test : Spot → Bool) (ts rest : List Spot) : Type 0 where
  pub spot : Spot
  pub passes : test spot ≡ true
  pub joined : ts ≡ spot ∷ rest

-- one token that passes
abbrev pub token : (Spot → Bool) → Rule (Unit {0})
token test ts rest u = Stands test ts rest

-- one token that passes, and its text
abbrev pub text : (Spot → Bool) → Rule (List ℕ)
text test ts rest t = (s : Stands test ts rest) × (t ≡ s.spot.text)

-- this mark, or this word
abbrev pub mark : List ℕ → Rule (Unit {0})
mark t = token (is_spelled kind.Mark t)

abbrev pub word : List ℕ → Rule (Unit {0})
word t = token (is_spelled kind.Word t)

-- tokens that a rule without values spells
abbrev pub spelled : (List Spot → Type 0) → Rule (Unit {0})
spelled X ts rest u = (us : List Spot) × X us × (ts ≡ us ++ rest)

-- { X }, where each X goes on from what was made so far
pub data Each {S : Type 0} (X : S → List Spot → List Spot → S → Type 0) : S → List Spot → List Spot → S → Type 0 where
  none : (s : S) (ts : List Spot) → Each X s ts ts s
  more : (s t u : S) (ts mid rest : List Spot) → X s ts mid t → Each X t mid rest u → Each X s ts rest u

-- [ X { "," X } ]
abbrev pub Commas : {S : Type 0} → (S → Rule S) → S → Rule S
Commas X s = makes s ∣ (X s >>= Each (λ t. mark (codes ",") >> X t))

-- [ X { "," X } [ "," ] ]
pub data Listed {S : Type 0} (X : S → List Spot → List Spot → S → Type 0) : S → List Spot → List Spot → S → Type 0 where
  none : (s : S) (ts : List Spot) → Listed X s ts ts s
  last : (s t : S) (ts rest : List Spot) → X s ts rest t → Listed X s ts rest t
  more : (s t u : S) (ts mid next rest : List Spot) → X s ts mid t → Stands (is_spelled kind.Mark (codes ",")) mid next → Listed X t next rest u → Listed X s ts rest u
