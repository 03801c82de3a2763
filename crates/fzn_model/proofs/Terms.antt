-- What follows for terms from a box.
use Rattle.std.specs.Prelude.{◌≡◌, List, [], length, ℤ, ◌≤ℤ◌}
use Rattle.std.proofs.Common.{refl, sym, subst, ◌∙◌}
use Rattle.std.proofs.lemmas.Int.{ints}
use Rattle.std.proofs.Common.{arith}
use Rattle.fzn_model.specs.declared.term.Term.{Term}
use Rattle.fzn_model.specs.declared.term.Term.TheVariants as term
use Rattle.fzn_model.specs.Meaning.{val}
use Rattle.fzn_model.specs.Limits.{TermIn, IsValue}
use Rattle.fzn_model.specs.Boxes.{IsBox, domain_at, InBox}
use Rattle.fzn_model.specs.Bounds.{term_low, term_high, TermHas, IsFixed, IsAt}
use Rattle.fzn_model.proofs.Domains.{between, low_in, high_in}

pub val_low : (box : List (List ℤ)) (t : Term) (θ : List ℤ) → IsBox box → TermIn (length box) t → InBox box θ → term_low box t ≤ℤ val t θ
val_low box (term.Const z) θ well_formed inside lies = omega (arith, ints)
val_low box (term.Var k) θ well_formed inside lies = (between (domain_at box k) _ (well_formed k [] inside) (lies.each k inside)).0

pub val_high : (box : List (List ℤ)) (t : Term) (θ : List ℤ) → IsBox box → TermIn (length box) t → InBox box θ → val t θ ≤ℤ term_high box t
val_high box (term.Const z) θ well_formed inside lies = omega (arith, ints)
val_high box (term.Var k) θ well_formed inside lies = (between (domain_at box k) _ (well_formed k [] inside) (lies.each k inside)).1

pub val_has : (box : List (List ℤ)) (t : Term) (θ : List ℤ) → TermIn (length box) t → InBox box θ → TermHas box t (val t θ)
val_has box (term.Const z) θ inside lies = refl
val_has box (term.Var k) θ inside lies = lies.each k inside

-- a fixed term has its one value under each assignment of the box
pub fixed_val : (box : List (List ℤ)) (t : Term) (θ : List ℤ) → IsBox box → TermIn (length box) t → IsFixed box t → InBox box θ → val t θ ≡ term_low box t
fixed_val box t θ well_formed inside fixed lies =
    let low : term_low box t ≤ℤ val t θ = val_low box t θ well_formed inside lies in
    let high : val t θ ≤ℤ term_high box t = val_high box t θ well_formed inside lies in
    let one : term_low box t ≡ term_high box t = fixed in
    omega (arith, ints)

pub at_val : (box : List (List ℤ)) (t : Term) (v : ℤ) (θ : List ℤ) → IsBox box → TermIn (length box) t → IsAt box t v → InBox box θ → val t θ ≡ v
at_val box t v θ well_formed inside at lies = fixed_val box t θ well_formed inside (at.low ∙ sym at.high) lies ∙ at.low

-- the bounds of a term are values of it, and all others lie between them
pub has_low : (box : List (List ℤ)) (t : Term) → IsBox box → TermIn (length box) t → TermHas box t (term_low box t)
has_low box (term.Const z) well_formed inside = refl
has_low box (term.Var k) well_formed inside = low_in (domain_at box k) (well_formed k [] inside)

pub has_high : (box : List (List ℤ)) (t : Term) → IsBox box → TermIn (length box) t → TermHas box t (term_high box t)
has_high box (term.Const z) well_formed inside = refl
has_high box (term.Var k) well_formed inside = high_in (domain_at box k) (well_formed k [] inside)

pub has_between : (box : List (List ℤ)) (t : Term) (v : ℤ) → IsBox box → TermIn (length box) t → TermHas box t v → (term_low box t ≤ℤ v) × (v ≤ℤ term_high box t)
has_between box (term.Const z) v well_formed inside has = (omega (arith, ints), omega (arith, ints))
has_between box (term.Var k) v well_formed inside has = between (domain_at box k) v (well_formed k [] inside) has

pub low_to_high : (box : List (List ℤ)) (t : Term) → IsBox box → TermIn (length box) t → term_low box t ≤ℤ term_high box t
low_to_high box t well_formed inside = (has_between box t (term_low box t) well_formed inside (has_low box t well_formed inside)).1

-- each value that a term can have is one of the language
pub has_value : (box : List (List ℤ)) (t : Term) (v : ℤ) → IsBox box → TermIn (length box) t → TermHas box t v → IsValue v
has_value box (term.Const z) v well_formed inside has = subst IsValue (sym has) inside
has_value box (term.Var k) v well_formed inside (i, within, is) = subst IsValue is ((well_formed k [] inside).within i v within)
