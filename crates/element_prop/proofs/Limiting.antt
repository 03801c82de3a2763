-- A term that has to lie between two numbers.
use Rattle.std.proofs.Common.{◌≡◌, List, length, arith}
use Rattle.std.specs.Prelude.{ℤ, pos, ◌≤ℤ◌}
use Rattle.std.proofs.lemmas.Int.{ints}
use Rattle.fzn_model.specs.declared.term.Term.{Term}
use Rattle.fzn_model.specs.declared.con.Con.TheVariants as con
use Rattle.fzn_model.specs.Meaning.{val, Holds}
use Rattle.fzn_model.specs.Limits.{TermIn}
use Rattle.fzn_model.specs.Boxes.{IsBox}
use Rattle.dom_store.specs.declared.pass.Passed.{Passed}
use Rattle.dom_store.specs.declared.pass.Passed.TheVariants as passed
use Rattle.dom_store.specs.Stores.{Stored}
use Rattle.fzn_model.specs.Bounds.{term_low}
use Rattle.dom_store.specs.Steps.{Reaches, Step, NarrowsTerm, IsAtLeast, IsAtMost, LowIs, HighIs}
use Rattle.dom_store.specs.Narrowing.{Prunes}
use Rattle.dom_store.proofs.Laws.{prunes_within, low_rises}
use Rattle.dom_store.proofs.Stepping.{narrowed, step_end_after}
use Rattle.element_prop.specs.Between.{LiesBetween, LiesNever, Bounded}
use Rattle.element_prop.specs.Places.{IsImpossible}

spared_low : (t : Term) (low high : ℤ) (θ : List ℤ) → LiesBetween t low high θ → low ≤ℤ val t θ
unfolding LiesBetween
spared_low t low high θ lies = lies.0

spared_high : (t : Term) (low high : ℤ) (θ : List ℤ) → LiesBetween t low high θ → val t θ ≤ℤ high
unfolding LiesBetween
spared_high t low high θ lies = lies.1

pub from_low : (t : Term) (low high : ℤ) (old new : Stored) (result : Passed) → NarrowsTerm (IsAtLeast low) (LowIs t low) t old new result → Step (LowIs t low) (LiesBetween t low high) old new result
from_low t low high old new result narrows = narrowed (LiesBetween t low high) narrows (λ θ lies p. spared_low t low high θ p)

pub to_high : (t : Term) (low high : ℤ) (old new : Stored) (result : Passed) → NarrowsTerm (IsAtMost high) (HighIs t high) t old new result → Step (HighIs t high) (LiesBetween t low high) old new result
to_high t low high old new result narrows = narrowed (LiesBetween t low high) narrows (λ θ lies p. spared_high t low high θ p)

pub never : (P : List (List ℤ) → Type 0) (t : Term) (low high : ℤ) (old new : Stored) → Step P (LiesBetween t low high) old new passed.Empty → LiesNever old.box t low high
unfolding LiesNever Reaches
never P t low high old new step = step.reaches

pub never_after : (P R : List (List ℤ) → Type 0) (t : Term) (low high : ℤ) (old mid new : Stored) → Step P (LiesBetween t low high) old mid passed.Done → Step R (LiesBetween t low high) mid new passed.Empty → LiesNever old.box t low high
never_after P R t low high old mid new first then = never R t low high old new (step_end_after P R R (LiesBetween t low high) old mid new first then)

-- what was raised stays so
pub low_stays : (t : Term) (low high : ℤ) (mid new : Stored) → IsBox mid.box → IsBox new.box → TermIn (length mid.box) t → Prunes (LiesBetween t low high) mid new → low ≤ℤ term_low mid.box t → low ≤ℤ term_low new.box t
low_stays t low high mid new was is inside limits h =
    let rises = low_rises _ mid.box new.box t was is limits.loses inside in
    omega (arith, ints, rises, h)

-- ---- for a constraint
pub limits_run : (i : Term) (xs : List Term) (c t : Term) (low high : ℤ) (old new : Stored) → Bounded old.box i xs c t low high → Prunes (LiesBetween t low high) old new → Prunes (Holds (con.Element i xs c)) old new
unfolding Bounded
limits_run i xs c t low high old new bounded limits = prunes_within (LiesBetween t low high) (Holds (con.Element i xs c)) old new limits (λ θ lies holds. bounded θ lies holds)

pub limits_none : (i : Term) (xs : List Term) (c t : Term) (low high : ℤ) (box : List (List ℤ)) → Bounded box i xs c t low high → LiesNever box t low high → IsImpossible box i xs c
unfolding Bounded LiesNever IsImpossible
limits_none i xs c t low high box bounded never θ lies holds = never θ lies (bounded θ lies holds)

-- the index
pub index_bounded : (box : List (List ℤ)) (i : Term) (xs : List Term) (c : Term) (count : ℤ) → count ≡ pos (length xs) → Bounded box i xs c i (pos 1) count
unfolding Bounded LiesBetween
index_bounded box i xs c count e θ lies (k, h, at, same) = (omega (arith, ints, at), omega (arith, ints, at, e, h))
