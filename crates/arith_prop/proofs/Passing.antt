-- A whole pass from its steps.
use Rattle.std.proofs.Common.{List, length}
use Rattle.std.specs.Prelude.{ℤ}
use Rattle.fzn_model.specs.declared.con.Con.{Con}
use Rattle.fzn_model.specs.Limits.{ConInLimits, of_call}
use Rattle.fzn_model.specs.Meaning.{Holds}
use Rattle.fzn_model.specs.Boxes.{IsBox}
use Rattle.dom_store.specs.declared.pass.Passed.{Passed}
use Rattle.dom_store.specs.declared.pass.Passed.TheVariants as passed
use Rattle.dom_store.specs.Stores.{Stored}
use Rattle.dom_store.specs.Strength.{IsOwed}
use Rattle.dom_store.specs.Steps.{Reaches, Step}
use Rattle.dom_store.proofs.Stepping.{still_limited, step_both}
use Rattle.arith_prop.specs.Passes.{IsPass}

-- what a step reaches is the strength that is owed
abbrev pub Suffices : (List (List ℤ) → Type 0) → Con → List (List ℤ) → Type 0
Suffices P c box = IsBox box → ConInLimits of_call (length box) c → P box → IsOwed box c

concludes : (P : List (List ℤ) → Type 0) (c : Con) (old new : Stored) (result : Passed) → ConInLimits of_call (length old.box) c → Suffices P c new.box → Step P (Holds c) old new result → IsPass c old new result
unfolding Reaches
concludes P c old new passed.Done kept owed step = record { prunes = step.prunes; concludes = λ same. owed step.well_formed (still_limited (Holds c) old new c step.prunes kept) (step.reaches same) }
concludes P c old new passed.Empty kept owed step = record { prunes = step.prunes; concludes = step.reaches }

pub pass_one : (P : List (List ℤ) → Type 0) (c : Con) (old new : Stored) (result : Passed) → ConInLimits of_call (length old.box) c → Suffices P c new.box → Step P (Holds c) old new result → IsPass c old new result
pass_one = concludes

pub pass_both : (P Q : List (List ℤ) → Type 0) (c : Con) (a b d : Stored) (result : Passed) → ConInLimits of_call (length a.box) c → Suffices (λ box. P box × Q box) c d.box → Step P (Holds c) a b passed.Done → Step Q (Holds c) b d result → IsPass c a d result
pass_both P Q c a b d result kept owed first then = concludes (λ box. P box × Q box) c a d result kept owed (step_both P Q (Holds c) a b d result first then)

pub pass_three : (P Q R : List (List ℤ) → Type 0) (c : Con) (a b d e : Stored) (result : Passed) → ConInLimits of_call (length a.box) c → Suffices (λ box. (P box × Q box) × R box) c e.box → Step P (Holds c) a b passed.Done → Step Q (Holds c) b d passed.Done → Step R (Holds c) d e result → IsPass c a e result
pass_three P Q R c a b d e result kept owed first then last =
    let both : Step (λ box. P box × Q box) (Holds c) a d passed.Done = step_both P Q (Holds c) a b d passed.Done first then in
    concludes (λ box. (P box × Q box) × R box) c a e result kept owed (step_both (λ box. P box × Q box) R (Holds c) a d e result both last)

pub pass_end : (P : List (List ℤ) → Type 0) (c : Con) (a b : Stored) → Step P (Holds c) a b passed.Empty → IsPass c a b passed.Empty
unfolding Reaches
pass_end P c a b step = record { prunes = step.prunes; concludes = step.reaches }

-- the second step ends it
pub pass_end_after : (P Q : List (List ℤ) → Type 0) (c : Con) (a b d : Stored) → Step P (Holds c) a b passed.Done → Step Q (Holds c) b d passed.Empty → IsPass c a d passed.Empty
pass_end_after P Q c a b d first then = pass_end (λ box. P box × Q box) c a d (step_both P Q (Holds c) a b d passed.Empty first then)
