-- A base over the box stays one.
use Rattle.fzn_model.specs.declared.base.Base.{Base}
use Rattle.fzn_model.specs.declared.con.Con.TheVariants as con
use Rattle.dom_store.specs.declared.pass.Passed.{Passed}
use Rattle.dom_store.specs.Stores.{Stored}
use Rattle.dom_store.specs.Steps.{Step}
use Rattle.dom_store.proofs.Laws.{fits_after}
use Rattle.dom_store.proofs.Stepping.{Fact, Wish}
use Rattle.reif_prop.specs.Parts.{IsOver}

pub over_on : (P : Fact) (Q : Wish) (old new : Stored) (result : Passed) (b : Base) → Step P Q old new result → IsOver old.box b → IsOver new.box b
over_on P Q old new result b step over =
    let fits_box = fits_after Q old.box new.box (con.Base b) step.prunes.loses (record { kept = over.kept; booleans = over.booleans }) in
    record { well_formed = step.well_formed; kept = fits_box.kept; booleans = fits_box.booleans }
