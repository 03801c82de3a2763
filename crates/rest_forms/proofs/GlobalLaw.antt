-- What is left of a constraint over lists: it is equivalent, names open variables, fits the box, and is one alone.
use Rattle.std.proofs.Common.{◌≡◌, ◌∙◌, List, length, ℤ, sym, subst}
use Rattle.std.specs.Prelude.{◌↔◌}
use Rattle.fzn_model.specs.declared.con.Con.{Con}
use Rattle.fzn_model.specs.declared.con.Con.TheVariants as con
use Rattle.fzn_model.specs.Meaning.{Holds}
use Rattle.fzn_model.specs.Limits.{ConInLimits, of_model}
use Rattle.fzn_model.specs.Boxes.{IsBox, InBox}
use Rattle.fzn_model.specs.Booleans.{FitsBox}
use Rattle.rest_basic.specs.Equivalence.{FormHolds, NamesOpen}
use Rattle.rest_basic.specs.declared.reduced.Reduced.{Reduced}
use Rattle.rest_basic.specs.declared.reduced.Reduced.TheVariants as reduced
use Rattle.rest_forms.specs.declared.extremes.Extreme.TheVariants as extreme
use Rattle.rest_forms.specs.Forms.{IsGlobalForm}
use Rattle.rest_forms.proofs.ExtremeLaw.{extreme_law, extreme_open, extreme_suits}
use Rattle.rest_forms.proofs.ElementLaw.{element_law, element_open, element_suits}
use Rattle.rest_forms.proofs.AllDifferentLaw.{different_law, different_open, different_suits}
use Rattle.rest_forms.proofs.CumulativeLaw.{cumulative_law, cumulative_open}
use Rattle.rest_forms.proofs.CumulativeFits.{cumulative_suits}
use Rattle.rest_forms.proofs.CumulativeUnique.{cumulative_unique}
use Rattle.rest_forms.proofs.TableLaw.{table_law, table_open, table_suits}

pub global_law : (box : List (List ℤ)) (c : Con) (form : Reduced) (θ : List ℤ) → IsBox box → InBox box θ → FitsBox box c → IsGlobalForm box c form → FormHolds form θ ↔ Holds c θ
global_law box (con.Greatest m xs) form θ well_formed lies fits_box is = subst (λ (f : Reduced). FormHolds f θ ↔ Holds (con.Greatest m xs) θ) (sym is) (extreme_law extreme.Greatest box m xs θ well_formed lies fits_box.kept.0 fits_box.kept.1.terms.terms)
global_law box (con.Least m xs) form θ well_formed lies fits_box is = subst (λ (f : Reduced). FormHolds f θ ↔ Holds (con.Least m xs) θ) (sym is) (extreme_law extreme.Least box m xs θ well_formed lies fits_box.kept.0 fits_box.kept.1.terms.terms)
global_law box (con.Element i xs c) form θ well_formed lies fits_box is = subst (λ (f : Reduced). FormHolds f θ ↔ Holds (con.Element i xs c) θ) (sym is) (element_law box i xs c θ well_formed lies fits_box.kept.0 fits_box.kept.2 fits_box.kept.1.terms)
global_law box (con.AllDiffExcept xs taken) form θ well_formed lies fits_box is = subst (λ (f : Reduced). FormHolds f θ ↔ Holds (con.AllDiffExcept xs taken) θ) (sym is) (different_law box xs taken θ well_formed lies fits_box.kept.0.terms)
global_law box (con.CumulUsed ks used b) form θ well_formed lies fits_box is = cumulative_law box ks used b form θ well_formed lies fits_box is
global_law box (con.Table xs rows) form θ well_formed lies fits_box is = subst (λ (f : Reduced). FormHolds f θ ↔ Holds (con.Table xs rows) θ) (sym is) (table_law box xs rows θ well_formed lies fits_box.kept.columns.terms.terms)
global_law box c form θ well_formed lies fits_box is = absurd is

pub global_open : (box : List (List ℤ)) (c : Con) (form : Reduced) → IsBox box → FitsBox box c → IsGlobalForm box c form → NamesOpen box form
global_open box (con.Greatest m xs) form well_formed fits_box is = subst (NamesOpen box) (sym is) (extreme_open extreme.Greatest box m xs)
global_open box (con.Least m xs) form well_formed fits_box is = subst (NamesOpen box) (sym is) (extreme_open extreme.Least box m xs)
global_open box (con.Element i xs c) form well_formed fits_box is = subst (NamesOpen box) (sym is) (element_open box i xs c well_formed fits_box.kept.2 fits_box.kept.1.terms)
global_open box (con.AllDiffExcept xs taken) form well_formed fits_box is = subst (NamesOpen box) (sym is) (different_open box xs taken)
global_open box (con.CumulUsed ks used b) form well_formed fits_box is = cumulative_open box ks used b form is
global_open box (con.Table xs rows) form well_formed fits_box is = subst (NamesOpen box) (sym is) (table_open box xs rows)
global_open box c form well_formed fits_box is = absurd is

pub global_suits : (box : List (List ℤ)) (c d : Con) → IsBox box → FitsBox box c → ConInLimits of_model (length box) c → IsGlobalForm box c (reduced.Is d) → FitsBox box d
global_suits box (con.Greatest m xs) d well_formed fits_box kept is = extreme_suits extreme.Greatest box m xs d well_formed fits_box (sym is)
global_suits box (con.Least m xs) d well_formed fits_box kept is = extreme_suits extreme.Least box m xs d well_formed fits_box (sym is)
global_suits box (con.Element i xs c) d well_formed fits_box kept is = element_suits box i xs c d well_formed fits_box (sym is)
global_suits box (con.AllDiffExcept xs taken) d well_formed fits_box kept is = different_suits box xs taken d well_formed kept (sym is)
global_suits box (con.CumulUsed ks used b) d well_formed fits_box kept is = cumulative_suits box ks used b d well_formed kept is
global_suits box (con.Table xs rows) d well_formed fits_box kept is = table_suits box xs rows d well_formed fits_box (sym is)
global_suits box c d well_formed fits_box kept is = absurd is

pub global_unique : (box : List (List ℤ)) (c : Con) (f g : Reduced) → IsGlobalForm box c f → IsGlobalForm box c g → f ≡ g
global_unique box (con.Greatest m xs) f g one other = one ∙ sym other
global_unique box (con.Least m xs) f g one other = one ∙ sym other
global_unique box (con.Element i xs c) f g one other = one ∙ sym other
global_unique box (con.AllDiffExcept xs taken) f g one other = one ∙ sym other
global_unique box (con.CumulUsed ks used b) f g one other = cumulative_unique box ks used b f g one other
global_unique box (con.Table xs rows) f g one other = one ∙ sym other
global_unique box c f g one other = absurd one
