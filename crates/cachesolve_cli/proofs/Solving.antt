-- How solving a model ends.
use Rattle.std.proofs.Common.{◌≡◌, ℕ, ◌+◌, ◌<◌, ◌≤◌, ◌%◌, ◌^◌, Bool, true, List, refl, sym, ap, subst, arith, ◌∙◌}
use Rattle.std.specs.Prelude.{Some, None, Ok, ⊤}
use Rattle.std.specs.declared.option.Option.{Option}
use Rattle.std.specs.Io.KnownBytes.{Appends, Keeps}
use Rattle.std.proofs.lemmas.Bool.Decides.{nat_tests}
use Rattle.cs_base.specs.Causes.{Rose, AppendsFront}
use Rattle.fzn_model.specs.Parts.{Parts}
use Rattle.fzn_reader.specs.Reading.{reads}
use Rattle.incumbent_board.specs.Right.{Right}
use Rattle.incumbent_board.specs.declared.options.Options.{Options}
use Rattle.incumbent_board.specs.declared.outcome.Outcome.{Outcome}
use Rattle.incumbent_board.specs.declared.why.Why.TheVariants as why
use Rattle.explorer.specs.declared.meter.Meter.{Meter}
use Rattle.solver.specs.Outcomes.{AreOptions, LacksBudget, IsSpent, IsBySearch, HasTheLeast}
use Rattle.command_line.specs.Asked.{Asked}
use Rattle.command_line.specs.Lines.{is_in_limits}
use Rattle.cachesolve_cli.specs.declared.ending.Ending.{Ending}
use Rattle.cachesolve_cli.specs.declared.ending.Ending.TheVariants as ending
use Rattle.cachesolve_cli.specs.Headline.{IsOutcome, IsBudgetSpent, run_text}
use Rattle.cachesolve_cli.specs.Stages.{EndsBy, EndsSolving, EndsFile}

-- options within the limits of the command line are within those of solving
pub options_allowed : (o : Options) → is_in_limits o ≡ true → AreOptions o
options_allowed o h = record { ways = grind (arith, nat_tests); nodes = grind (arith, nat_tests) }

pub is_outcome : (m : Parts) (b n : Meter) (o : Outcome) → Right m o.answer → n.count ≡ b.count + o.nodes → (IsBySearch m o.answer → b.closed < n.closed) → (b.least ≡ None → HasTheLeast m n.least o.answer) → IsOutcome m b n o
is_outcome m b n o right nodes closed least = record { right = right; nodes = nodes; closed = closed; least = least }

-- the text of an outcome was written
pub written : (a : Asked) (m : Parts) (b n : Meter) (old new : Option (List ℕ)) (u v : ℕ) (e : Ending) (o : Outcome) → IsOutcome m b n o → (LacksBudget o.answer → IsSpent m a.options o) → Appends old new (run_text a m o) → v ≡ u → EndsBy o.answer e → EndsSolving a m b n old new u v e
written a m b n old new u v ending.Decided o is spent text kept by = ((o, is, by, text), kept)
written a m b n old new u v (ending.Undecided why.Budget) o is spent text kept by = ((o, is, by, record { nodes = is.nodes ∙ ap (λ k. b.count + k) (spent by).nodes; fewer = (spent by).fewer }, text), kept)
written a m b n old new u v (ending.Undecided why.Memory) o is spent text kept by = ((o, is, by, text), kept)
written a m b n old new u v ending.WrongWords o is spent text kept by = absurd by
written a m b n old new u v ending.NoMemory o is spent text kept by = absurd by
written a m b n old new u v (ending.Refused r token) o is spent text kept by = absurd by
written a m b n old new u v ending.ReadFailed o is spent text kept by = absurd by
written a m b n old new u v ending.WriteFailed o is spent text kept by = absurd by

-- a part of it was written
pub cut : (a : Asked) (m : Parts) (b n : Meter) (old new : Option (List ℕ)) (u v : ℕ) (o : Outcome) → IsOutcome m b n o → AppendsFront old new (run_text a m o) → Rose u v → EndsSolving a m b n old new u v ending.WriteFailed
cut a m b n old new u v o is text rose = ((o, is, text), rose)

-- without an outcome nothing was written
pub nothing_written : (a : Asked) (m : Parts) (b n : Meter) (old new : Option (List ℕ)) (u v : ℕ) → new ≡ old → v ≡ u → EndsSolving a m b n old new u v ending.NoMemory
nothing_written a m b n None new u v e kept = (tt, kept)
nothing_written a m b n (Some xs) None u v e kept = absurd (cc)
nothing_written a m b n (Some xs) (Some ys) u v e kept = (cc, kept)

-- a solved model is that of the bytes
pub file_read : (a : Asked) (bytes : List ℕ) (b n : Meter) (old new : Option (List ℕ)) (u v : ℕ) (e : Ending) (m : Parts) → reads bytes ≡ Ok m → EndsSolving a m b n old new u v e → EndsFile a bytes b n old new u v e
file_read a bytes b n old new u v ending.Decided m is so = (m, is, so)
file_read a bytes b n old new u v (ending.Undecided why.Budget) m is so = (m, is, so)
file_read a bytes b n old new u v (ending.Undecided why.Memory) m is so = (m, is, so)
file_read a bytes b n old new u v ending.WrongWords m is so = absurd so
file_read a bytes b n old new u v ending.NoMemory m is so = so
file_read a bytes b n old new u v (ending.Refused r token) m is so = absurd so
file_read a bytes b n old new u v ending.ReadFailed m is so = absurd so
file_read a bytes b n old new u v ending.WriteFailed m is so = (m, is, so)
