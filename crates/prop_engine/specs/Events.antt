-- Which changes of its variables a constraint needs to hear of, and the frame law: while it has to hear of none, it keeps its
-- strength.
use Rattle.std.specs.Prelude.{◌≡◌, ℕ, ◌+◌, ◌≤◌, ◌⊎◌, List, length, ℤ, All, ⊤}
use Rattle.fzn_model.specs.declared.term.Term.{Term}
use Rattle.fzn_model.specs.declared.term.Term.TheVariants as term
use Rattle.fzn_model.specs.declared.lin.Rel.{Rel}
use Rattle.fzn_model.specs.declared.lin.Rel.TheVariants as rel
use Rattle.fzn_model.specs.declared.base.Base.{Base}
use Rattle.fzn_model.specs.declared.base.Base.TheVariants as base
use Rattle.fzn_model.specs.declared.con.Con.{Con}
use Rattle.fzn_model.specs.declared.con.Con.TheVariants as con
use Rattle.fzn_model.specs.Named.{con_terms}
use Rattle.fzn_model.specs.Boxes.{IsBox, domain_at}
use Rattle.fzn_model.specs.Bounds.{IsFixed, IsWide}
use Rattle.dom_store.specs.Stores.{IsInside, box_size}
use Rattle.dom_store.specs.Strength.{IsStrong}
use Rattle.prop_engine.specs.declared.event.Event.{Event}
use Rattle.prop_engine.specs.declared.event.Event.TheVariants as event

-- what is owed of a sum that differs from a number speaks only of boxes in which all other terms are fixed
abbrev pub relation_event : Rel → Event
relation_event rel.Le = event.Changed
relation_event rel.Eq = event.Changed
relation_event rel.Ne = event.Fixed

abbrev pub base_event : Base → Event
base_event (base.Lin l) = relation_event l.rel
base_event (base.Clause c) = event.Changed
base_event (base.Member m) = event.Changed

-- the least that each kind needs to hear of, of these events; a clause, whose variables are fixed by each change, hears of all
abbrev pub con_event : Con → Event
con_event (con.Base b) = base_event b
con_event (con.Reif b r f) = event.Changed
con_event (con.Times a b c) = event.Changed
con_event (con.Abs a b) = event.Changed
con_event (con.Div a b c) = event.Fixed
con_event (con.Mod a b c) = event.Fixed
con_event (con.Greatest m xs) = event.Changed
con_event (con.Least m xs) = event.Changed
con_event (con.Element i xs c) = event.Changed
con_event (con.AllDiffExcept xs taken) = event.Changed
con_event (con.CumulUsed tasks used b) = event.Changed
con_event (con.Table xs rows) = event.Changed

-- a domain that wasn't wide changed, and the variable is open
pub record IsStirred (old new : List (List ℤ)) (k : ℕ) : Type 0 where
  pub unfixed : IsFixed new (term.Var k) → ⊥
  pub narrow : IsWide old (term.Var k) → ⊥

-- a constraint that hears of an event has nothing to hear of a term, where one box has become another
abbrev pub IsUnheard : Event → List (List ℤ) → List (List ℤ) → Term → Type 0
IsUnheard e old new (term.Const z) = ⊤
IsUnheard event.Changed old new (term.Var k) = domain_at new k ≡ domain_at old k
IsUnheard event.Fixed old new (term.Var k) = (domain_at new k ≡ domain_at old k) ⊎ IsStirred old new k

-- The frame law: what a constraint has over a box it has over a smaller one, where it has nothing to hear of its own terms.
abbrev pub KeepsUnheard : Type 0
KeepsUnheard = (old new : List (List ℤ)) (c : Con) → IsBox old → IsBox new → IsInside old new → All (IsUnheard (con_event c) old new) (con_terms c) → IsStrong old c → IsStrong new c

-- what tells that a domain wasn't wide: the variable is open, and had at most 1,024 values when all domains together had so many
pub record IsMinor (before : ℕ) (box : List (List ℤ)) (k : ℕ) : Type 0 where
  pub unfixed : IsFixed box (term.Var k) → ⊥
  pub few : length (domain_at box k) + before ≤ 1024 + box_size box
