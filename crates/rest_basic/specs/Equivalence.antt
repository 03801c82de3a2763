-- Where a form holds, and which terms it names.
use Rattle.std.specs.Prelude.{◌≡◌, ◌↔◌, true, List, ℤ, All, ⊤}
use Rattle.fzn_model.specs.declared.term.Term.{Term}
use Rattle.fzn_model.specs.declared.term.Term.TheVariants as term
use Rattle.fzn_model.specs.declared.con.Con.{Con}
use Rattle.fzn_model.specs.declared.con.Con.TheVariants as con
use Rattle.fzn_model.specs.Meaning.{Holds}
use Rattle.fzn_model.specs.Boxes.{InBox}
use Rattle.fzn_model.specs.Bounds.{is_open}
use Rattle.fzn_model.specs.Named.{con_terms}
use Rattle.rest_basic.specs.declared.reduced.Reduced.{Reduced}
use Rattle.rest_basic.specs.declared.reduced.Reduced.TheVariants as reduced

-- the kinds that have a plain form
abbrev pub IsPlain : Con → Type 0
IsPlain (con.Base b) = ⊤
IsPlain (con.Reif b r f) = ⊤
IsPlain (con.Times a b c) = ⊤
IsPlain (con.Abs a b) = ⊤
IsPlain (con.Div a b c) = ⊤
IsPlain (con.Mod a b c) = ⊤
IsPlain c = ⊥

-- whether a form holds on an assignment of the box
abbrev pub FormHolds : Reduced → List ℤ → Type 0
FormHolds reduced.Holds θ = ⊤
FormHolds (reduced.Is c) θ = Holds c θ

-- On each assignment of the box, the form holds exactly where the constraint does.
abbrev pub IsEquivalentIn : List (List ℤ) → Reduced → Con → Type 0
IsEquivalentIn box form c = (θ : List ℤ) → InBox box θ → FormHolds form θ ↔ Holds c θ

-- a constant, or an open variable
abbrev pub IsLeft : List (List ℤ) → Term → Type 0
IsLeft box (term.Const z) = ⊤
IsLeft box (term.Var k) = is_open box (term.Var k) ≡ true

-- no fixed variable is named
abbrev pub NamesOpen : List (List ℤ) → Reduced → Type 0
NamesOpen box reduced.Holds = ⊤
NamesOpen box (reduced.Is c) = All (IsLeft box) (con_terms c)
