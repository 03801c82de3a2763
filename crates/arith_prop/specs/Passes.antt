-- What a whole pass does, and what its answer means.
use Rattle.fzn_model.specs.declared.con.Con.{Con}
use Rattle.fzn_model.specs.Meaning.{Holds}
use Rattle.dom_store.specs.declared.pass.Passed.{Passed}
use Rattle.dom_store.specs.Stores.{Stored}
use Rattle.dom_store.specs.Narrowing.{Prunes}
use Rattle.dom_store.specs.Passes.{Concludes}

pub record IsPass (c : Con) (old new : Stored) (result : Passed) : Type 0 where
  pub prunes : Prunes (Holds c) old new
  pub concludes : Concludes c old.box new.box result
