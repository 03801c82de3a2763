use Rattle.std.proofs.Common.{◌≡◌, fold, take}
use Rattle.rest_forms.specs.Forms.{pick_by}
use Rattle.rest_forms.proofs.extremes.extreme_from.Given as goal

abbrev pub invariant-loop-value : goal.invariant-loop-value
invariant-loop-value l = l.best ≡ fold (pick_by l.extreme) l.first (take l.value-index l.others)
