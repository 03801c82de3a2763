-- Members stay within the box.
use Rattle.std.proofs.Common.{List}
use Rattle.std.specs.Prelude.{ℤ}
use Rattle.fzn_model.specs.declared.term.Term.{Term}
use Rattle.fzn_model.specs.Boxes.{IsBox}
use Rattle.dom_store.specs.declared.pass.Passed.{Passed}
use Rattle.dom_store.specs.Stores.{Stored}
use Rattle.dom_store.specs.Narrowing.{Prunes}
use Rattle.dom_store.specs.Steps.{Step}
use Rattle.dom_store.proofs.Laws.{term_stays}
use Rattle.alldiff_prop.specs.Members.{IsReady}

pub ready_on : (Q : List ℤ → Type 0) (xs : List Term) (a b : Stored) → Prunes Q a b → IsBox b.box → IsReady a.box xs → IsReady b.box xs
ready_on Q xs a b prunes well_formed ready = record {
  well_formed = well_formed;
  count = ready.count;
  terms = λ k d h. term_stays _ a.box b.box _ prunes.loses (ready.terms k d h);
}

pub ready_after : (P : List (List ℤ) → Type 0) (Q : List ℤ → Type 0) (xs : List Term) (a b : Stored) (result : Passed) → Step P Q a b result → IsReady a.box xs → IsReady b.box xs
ready_after P Q xs a b result step ready = ready_on Q xs a b step.prunes step.well_formed ready
