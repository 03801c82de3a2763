-- What runs of propagators leave, one after another.
use Rattle.std.proofs.Common.{◌≡◌, ℕ, ◌<◌, List, [], length, get_or, ℤ, pos, refl, sym, ◌∙◌, arith, subst}
use Rattle.std.specs.Prelude.{All, IfOk, Result, Ok, Err}
use Rattle.std.proofs.lemmas.List.{get_or_default}
use Rattle.fzn_model.specs.declared.lin.Rel.TheVariants.{Le}
use Rattle.fzn_model.specs.declared.base.Base.TheVariants as base
use Rattle.fzn_model.specs.declared.con.Con.{Con}
use Rattle.fzn_model.specs.declared.con.Con.TheVariants as con
use Rattle.fzn_model.specs.Meaning.{Holds}
use Rattle.fzn_model.specs.Booleans.{FitsBox}
use Rattle.dom_store.specs.Stores.{Stored}
use Rattle.dom_store.specs.Narrowing.{Loses, Prunes, SameButMarks}
use Rattle.dom_store.proofs.Laws.{loses_refl, loses_trans, loses_more, fits_after}
use Rattle.dom_store.specs.declared.propagator.Ran.{Ran}
use Rattle.prop_engine.specs.Fixing.{Lessens, WholeMeans, MeetsEach, PrunesAt, MeansAt}

pub lessens_refl : (P : List ℤ → Type 0) (s : Stored) → Lessens P s s
lessens_refl P s = record { loses = loses_refl P s.box; saved = refl; settled = refl; changes = omega arith }

pub lessens_trans : (P : List ℤ → Type 0) (a b c : Stored) → Lessens P a b → Lessens P b c → Lessens P a c
lessens_trans P a b c first then = record {
  loses = loses_trans P a.box b.box c.box first.loses then.loses;
  saved = then.saved ∙ first.saved;
  settled = then.settled ∙ first.settled;
  changes = omega (arith, first.changes, then.changes);
}

pub lessens_more : (P Q : List ℤ → Type 0) (a b : Stored) → Lessens P a b → ((θ : List ℤ) → Q θ → P θ) → Lessens Q a b
lessens_more P Q a b lessens more = record { loses = loses_more P Q a.box b.box lessens.loses more; saved = lessens.saved; settled = lessens.settled; changes = lessens.changes }

pub prunes_lessens : (P : List ℤ → Type 0) (a b : Stored) → Prunes P a b → Lessens P a b
prunes_lessens P a b prunes = record { loses = prunes.loses; saved = prunes.stays.saved; settled = prunes.stays.settled; changes = prunes.stays.changes }

pub marks_lessen : (P : List ℤ → Type 0) (a b c : Stored) → Lessens P a b → SameButMarks b c → Lessens P a c
marks_lessen P a b c lessens same = record {
  loses = subst (λ (box : List (List ℤ)). Loses P a.box box) (sym same.box) lessens.loses;
  saved = same.saved ∙ lessens.saved;
  settled = same.settled ∙ lessens.settled;
  changes = omega (arith, lessens.changes, same.changes);
}

pub fits_more : (P : List ℤ → Type 0) (cs : List Con) (old new : Stored) → Lessens P old new → All (FitsBox old.box) cs → All (FitsBox new.box) cs
fits_more P cs old new lessens fits_box k d h = fits_after P old.box new.box (get_or cs k d) lessens.loses (fits_box k d h)

pub meets_at : (cs : List Con) (at : ℕ) (d : Con) (θ : List ℤ) → at < length cs → MeetsEach cs θ → Holds (get_or cs at d) θ
unfolding MeetsEach
meets_at cs at d θ h meets = meets at d h

pub at_lessens : (cs : List Con) (at : ℕ) (d : Con) (now then : Stored) → at < length cs → PrunesAt cs at now then → Lessens (MeetsEach cs) now then
unfolding PrunesAt
at_lessens cs at d now then h prunes =
    lessens_more (Holds (get_or cs at d)) (MeetsEach cs) now then (prunes_lessens (Holds (get_or cs at d)) now then (prunes d h)) (λ θ meets. meets_at cs at d θ h meets)

pub some_con : Con
some_con = con.Base (base.Lin (record { rel = Le; terms = []; r = pos 0 }))

-- the same, for a list that is equal
pub prunes_at : (cs : List Con) (at : ℕ) (c e : Con) (old new : Stored) → get_or cs at e ≡ c → Prunes (Holds c) old new → PrunesAt cs at old new
unfolding PrunesAt
prunes_at cs at c e old new is prunes d h = subst (λ (x : Con). Prunes (Holds x) old new) (sym is ∙ get_or_default cs at e d h) prunes

pub means_at : {E : Type 0} (cs : List Con) (at : ℕ) (c e : Con) (old new : List (List ℤ)) (result : Result Ran E) → get_or cs at e ≡ c → IfOk result (WholeMeans c old new) → IfOk result (MeansAt cs at old new)
unfolding MeansAt
means_at cs at c e old new (Ok answer) is means = λ d h. subst (λ (x : Con). WholeMeans x old new answer) (sym is ∙ get_or_default cs at e d h) means
means_at cs at c e old new (Err f) is means = tt
