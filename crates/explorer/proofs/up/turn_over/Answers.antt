use Rattle.std.proofs.Common.{◌≡◌, false, ◌∷◌, ap, refl, sym, ◌∙◌, ℤ, FitsSigned, w64, rules}
use Rattle.std.specs.Prelude.{Result, Ok, Err, OnOk}
use Rattle.std.specs.Result.{is_err}
use Rattle.std.proofs.lemmas.Int.{to_z-of_z}
use Rattle.explorer.specs.Going.{aim, state}
use Rattle.explorer.specs.declared.frame.Frame.{Frame}
use Rattle.explorer.specs.declared.frame.Side.TheVariants as side
use Rattle.explorer.specs.declared.frame.Turn.TheVariants as turn
use Rattle.explorer.proofs.Climbing.{second_side}
use Rattle.explorer.proofs.Recording.{quiet_stops}
use Rattle.explorer.proofs.Logging.{second_records}
use Rattle.explorer.proofs.up.turn_over.Goals as goal

pub push_frame-requires-clause-side : goal.push_frame-requires-clause-side
push_frame-requires-clause-side g c = second_side c.args.task.now c.args.bench.now c.args.pass.now c.args.local.now c.args.reader.now c.args.meter.now c.args.found.now c.args.frame c.args.closed.now c.opposite-second.result c.requires.can c.opposite-second.ensures

pub returns-then-is_err-clause-stops : goal.returns-then-is_err-clause-stops
returns-then-is_err-clause-stops g c = λ j. quiet_stops (aim c.args.task.now) (turn.Back c.args.frame c.args.closed.now) (state c.args.bench.now c.args.pass.now c.args.local.now c.args.reader.now c.args.meter.now c.args.found.now) (state c.push_frame.new.bench c.args.pass.now c.args.local.now c.args.reader.now c.args.meter.now c.args.found.now) j refl refl (record { board = refl; first = refl; out = refl; splits = refl }) refl (λ standing h. h)

-- what holds of a result that is no failure
of_ok : {A E : Type 0} {P : Type 0} (result : Result A E) → OnOk result P → is_err result ≡ false → P
of_ok (Ok a) p h = p
of_ok (Err e) p h = absurd (cc)

-- the second side's frame, at such a bound
abbrev second_at : Frame → ℤ → Frame
second_at f seen = record { cut = f.cut; side = side.Second; seen = seen; whole = f.whole }

pub returns-clause-records : goal.returns-clause-records
returns-clause-records g c =
    let fits : FitsSigned w64 c.args.frame.seen = search rules in
    λ j. second_records c.args.task.now c.args.bench.now c.push_frame.new.bench c.args.pass.now c.args.local.now c.args.reader.now c.args.meter.now c.args.found.now c.args.closed.now c.args.frame j c.requires.first ((of_ok c.push_frame.result c.push_frame.ensures.ok (sym c.is_err.ensures.value ∙ c.if-is_err.false)).frames ∙ ap (λ (seen : ℤ). second_at c.args.frame seen ∷ c.args.bench.now.frames) (to_z-of_z w64 c.args.frame.seen fits))
