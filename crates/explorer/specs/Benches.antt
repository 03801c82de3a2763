-- What a worker searches with, between two searches. It is this project's own.
use Rattle.std.specs.Prelude.{◌≡◌, []}
use Rattle.fzn_model.specs.Parts.{Parts}
use Rattle.fzn_model.specs.Boxes.{IsBox}
use Rattle.dom_store.specs.Views.{box_of}
use Rattle.prop_engine.specs.Plans.{plan_of, IsReady}
use Rattle.explorer.specs.declared.bench.Bench.{Bench}

-- of the boxes that the store keeps as settled, each is a fixpoint of the bench's propagators
abbrev pub IsAble : Bench → Type 0
IsAble b = IsReady b.store b.engine

-- The bench of a model: it has the model's domains, none of which is empty, and no level, the propagators of the model, and no open expansion.
pub record IsBench (m : Parts) (b : Bench) : Type 0 where
  pub domains : b.store.box ≡ box_of m.doms
  pub full : IsBox (box_of m.doms)
  pub no_level : b.store.saved ≡ []
  pub plan : b.engine ≡ plan_of m
  pub no_path : b.here ≡ []
  pub no_frame : b.frames ≡ []
  pub able : IsAble b
