-- The open literals of a clause.
use Rattle.std.specs.Prelude.{◌≡◌, ◌≤◌, List, [], ◌∷◌, ◌++◌, ℤ, filter, length}
use Rattle.fzn_model.specs.declared.term.Term.{Term}
use Rattle.fzn_model.specs.declared.clause.Clause.{Clause}
use Rattle.fzn_model.specs.Meaning.{Holds}
use Rattle.fzn_model.specs.Limits.{TermIn}
use Rattle.dom_store.specs.Narrowing.{HasNone}
use Rattle.fzn_model.specs.Bounds.{IsAt, is_open, open_count}
use Rattle.dom_store.specs.Steps.{Spares}
use Rattle.dom_store.specs.Strength.{HasTrue}
use Rattle.bool_prop.specs.Parts.{clause_con}
use Rattle.bool_prop.specs.declared.clause.Open.{Open}
use Rattle.bool_prop.specs.declared.clause.Open.TheVariants as opened
use Rattle.bool_prop.specs.declared.clause.Literals.{Literals}
use Rattle.bool_prop.specs.declared.clause.Literals.TheVariants as literals

-- what the first terms of a list and those after them are together
abbrev pub joined : Open → List Term → Open
joined opened.None [] = opened.None
joined opened.None (t ∷ []) = opened.One t
joined opened.None (t ∷ u ∷ us) = opened.More
joined (opened.One t) [] = opened.One t
joined (opened.One t) (u ∷ us) = opened.More
joined opened.More us = opened.More

-- the open terms of a list
unfoldable pub opens : List (List ℤ) → List Term → Open
opens box ts = joined opened.None (filter (is_open box) ts)

-- A literal that makes the clause true at the value; as long as no literal is true, the clause needs it to have the value.
pub record IsLast (box : List (List ℤ)) (c : Clause) (t : Term) (v : ℤ) : Type 0 where
  pub inside : TermIn (length box) t
  pub makes : (new : List (List ℤ)) → IsAt new t v → HasTrue new c
  pub needs : (HasTrue box c → ⊥) → Spares (λ z. z ≡ v) (Holds (clause_con c)) t box

-- no open literal, so that a true one is needed; one with the value that makes it true; or two and more
unfoldable pub Finds : List (List ℤ) → Clause → Literals → Type 0
Finds box c literals.None = (HasTrue box c → ⊥) → HasNone (Holds (clause_con c)) box
Finds box c (literals.One t v) = IsLast box c t v
Finds box c literals.More = 2 ≤ open_count box (c.pos ++ c.neg)
