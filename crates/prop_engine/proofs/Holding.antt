-- An engine can hold each constraint of a model.
use Rattle.std.proofs.Common.{◌≡◌, ◌≤◌, ℕ, Bool, false, List, length, get_or, replicate, sym, ap, subst, ◌∙◌}
use Rattle.std.proofs.lemmas.List.{length-replicate}
use Rattle.std.specs.Prelude.{All}
use Rattle.fzn_model.specs.declared.base.Base.{Base}
use Rattle.fzn_model.specs.declared.base.Base.TheVariants as base
use Rattle.fzn_model.specs.declared.con.Con.{Con}
use Rattle.fzn_model.specs.declared.con.Con.TheVariants as con
use Rattle.fzn_model.specs.Parts.{Parts}
use Rattle.fzn_model.specs.Limits.{BaseInLimits, ConInLimits, of_model, IsModel}
use Rattle.prop_engine.specs.Plans.{CanTurn, CanHold}
use Rattle.prop_engine.specs.declared.readers.Readers.{Readers}
use Rattle.prop_engine.specs.Readers.{AreRead}
use Rattle.prop_engine.specs.Queues.{IsEngine}

turns : (n : ℕ) (b : Base) → BaseInLimits of_model n b → CanTurn b
turns n (base.Lin l) kept = (kept.sum.factors, kept.constant)
turns n (base.Clause c) kept = tt
turns n (base.Member m) kept = tt

holds : (n : ℕ) (c : Con) → ConInLimits of_model n c → CanHold c
holds n (con.Base b) kept = tt
holds n (con.Reif b r f) kept = turns n b kept.0
holds n (con.Times a b c) kept = tt
holds n (con.Abs a b) kept = tt
holds n (con.Div a b c) kept = tt
holds n (con.Mod a b c) kept = tt
holds n (con.Greatest m xs) kept = tt
holds n (con.Least m xs) kept = tt
holds n (con.Element i xs c) kept = tt
holds n (con.AllDiffExcept xs taken) kept = tt
holds n (con.CumulUsed tasks used b) kept = tt
holds n (con.Table xs rows) kept = tt

pub model_held : (m : Parts) → IsModel m → All CanHold m.cons
model_held m model k d h = holds (length m.doms) (get_or m.cons k d) (model.cons k d h)

pub engine_made : (cs ds : List Con) (readers : Readers) (waits : List Bool) → All CanHold ds → length ds ≤ 4000000000 → cs ≡ ds → AreRead ds (length ds) readers → waits ≡ replicate (length ds) false → IsEngine cs readers waits
engine_made cs ds readers waits can few same read is = subst (λ (xs : List Con). IsEngine xs readers waits) (sym same) (record {
  can_hold = can;
  read = read;
  room = ap length is ∙ length-replicate (length ds) false;
  few = few;
})
