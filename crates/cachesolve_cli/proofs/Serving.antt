-- The whole run, way by way.
use Rattle.std.proofs.Common.{◌≡◌, ℕ, List, refl, sym, ap, subst, ◌∙◌}
use Rattle.std.specs.Prelude.{Some, None, Ok, ⊤, option_map}
use Rattle.std.specs.declared.option.Option.{Option}
use Rattle.std.specs.Io.KnownBytes.{Keeps}
use denote.Ref.{Bor}
use Rattle.cs_base.specs.Causes.{Rose}
use Rattle.cs_base.specs.Chosen.{Chose}
use Rattle.fzn_model.specs.Parts.{Parts}
use Rattle.fzn_reader.specs.Reading.{reads}
use Rattle.fzn_reader.specs.declared.refused.Refused.{Refused}
use Rattle.cachesolve_cli.specs.Ways.{EndsOver, IsRefusalOf}
use Rattle.incumbent_board.specs.declared.why.Why.TheVariants as why
use Rattle.explorer.specs.declared.meter.Meter.{Meter}
use Rattle.model_gen.specs.Made.{made}
use Rattle.command_line.specs.declared.line.Line.{Line}
use Rattle.command_line.specs.Lines.{asked_of}
use Rattle.command_line.specs.Asked.{Asked}
use Rattle.cachesolve_cli.specs.declared.ending.Ending.{Ending}
use Rattle.cachesolve_cli.specs.declared.ending.Ending.TheVariants as ending
use Rattle.cachesolve_cli.specs.Headline.{OverModel, IsMadeOr, IsModelBy, ReadsAs, ChoseFile, IsWithoutFile}
use Rattle.cachesolve_cli.specs.Stages.{IsAll, EndsReading, EndsSolving, EndsFile, EndsRun, AsksForFile}

pub keeps_same : (old : Option (List ℕ)) → Keeps old old
keeps_same None = tt
keeps_same (Some xs) = refl

-- the model that was made
by_made : (a : Asked) (w : List ℕ × ℕ) (left : Option (List ℕ)) (chosen : Option (Option (List ℕ))) (k : ℕ) → a.make ≡ Some w → w.1 ≡ k → IsModelBy a.make a.file left chosen (made k)
by_made a w left chosen k e ek = rw (e, ek) refl

-- the model of all bytes of the file
reads_as : (left : Option (List ℕ)) (bytes : List ℕ) (m : Parts) → IsAll left bytes → reads bytes ≡ Ok m → ReadsAs left m
reads_as None bytes m all is = tt
reads_as (Some xs) bytes m all is = ap reads all ∙ is

by_file : (a : Asked) (left : Option (List ℕ)) (chosen : Option (Option (List ℕ))) (bytes : List ℕ) (m : Parts) → a.make ≡ None → IsAll left bytes → Chose chosen a.file → reads bytes ≡ Ok m → IsModelBy a.make a.file left chosen m
by_file a left chosen bytes m none all chose is = rw none (reads_as left bytes m all is, chose)

chose_file : (a : Asked) (chosen : Option (Option (List ℕ))) → a.make ≡ None → Chose chosen a.file → ChoseFile (Some a) chosen
chose_file a chosen none chose = rw none chose

asks_for_file : (a : Asked) → a.make ≡ None → AsksForFile (Some a)
asks_for_file a none = rw none tt

over_all : (left : Option (List ℕ)) (bytes : List ℕ) (r : Refused) (token : Bor (List ℕ)) → IsAll left bytes → IsRefusalOf bytes r token.now → EndsOver left (ending.Refused r token)
over_all None bytes r token all is = tt
over_all (Some xs) bytes r token all is = subst (λ (x : List ℕ). IsRefusalOf x r token.now) (sym all) is

pub made_ends : (a : Asked) (w : List ℕ × ℕ) (k : ℕ) (left : Option (List ℕ)) (chosen : Option (Option (List ℕ))) (s t : ℕ) (b n : Meter) (old new : Option (List ℕ)) (u v : ℕ) (e : Ending) → a.make ≡ Some w → w.1 ≡ k → t ≡ s → EndsSolving a (made k) b n old new u v e → EndsRun (Some a) left chosen s t b n old new u v e
made_ends a w k left chosen s t b n old new u v ending.Decided is ek kept (so, same) = ((made k, by_made a w left chosen k is ek, so), kept, same)
made_ends a w k left chosen s t b n old new u v (ending.Undecided why.Budget) is ek kept (so, same) = ((made k, by_made a w left chosen k is ek, so), kept, same)
made_ends a w k left chosen s t b n old new u v (ending.Undecided why.Memory) is ek kept (so, same) = ((made k, by_made a w left chosen k is ek, so), kept, same)
made_ends a w k left chosen s t b n old new u v ending.WrongWords is ek kept so = absurd so
made_ends a w k left chosen s t b n old new u v ending.NoMemory is ek kept (so, same) = (so, kept, same)
made_ends a w k left chosen s t b n old new u v (ending.Refused r token) is ek kept so = absurd so
made_ends a w k left chosen s t b n old new u v ending.ReadFailed is ek kept so = absurd so
made_ends a w k left chosen s t b n old new u v ending.WriteFailed is ek kept (so, rose) = ((made k, by_made a w left chosen k is ek, so), kept, rose)

pub file_ends : (a : Asked) (bytes : List ℕ) (left : Option (List ℕ)) (chosen : Option (Option (List ℕ))) (s t : ℕ) (b n : Meter) (old new : Option (List ℕ)) (u v : ℕ) (e : Ending) → a.make ≡ None → IsAll left bytes → Chose chosen a.file → t ≡ s → EndsFile a bytes b n old new u v e → EndsRun (Some a) left chosen s t b n old new u v e
file_ends a bytes left chosen s t b n old new u v ending.Decided none all chose kept (m, is, so) = ((m, by_file a left chosen bytes m none all chose is, so.0), kept, so.1)
file_ends a bytes left chosen s t b n old new u v (ending.Undecided why.Budget) none all chose kept (m, is, so) = ((m, by_file a left chosen bytes m none all chose is, so.0), kept, so.1)
file_ends a bytes left chosen s t b n old new u v (ending.Undecided why.Memory) none all chose kept (m, is, so) = ((m, by_file a left chosen bytes m none all chose is, so.0), kept, so.1)
file_ends a bytes left chosen s t b n old new u v ending.WrongWords none all chose kept (m, is, so) = absurd so
file_ends a bytes left chosen s t b n old new u v ending.NoMemory none all chose kept (so, same) = (so, kept, same)
file_ends a bytes left chosen s t b n old new u v (ending.Refused r token) none all chose kept (is, so, same) = (chose_file a chosen none chose, over_all left bytes r token all is, so, kept, same)
file_ends a bytes left chosen s t b n old new u v ending.ReadFailed none all chose kept (m, is, so) = absurd so
file_ends a bytes left chosen s t b n old new u v ending.WriteFailed none all chose kept (m, is, so) = ((m, by_file a left chosen bytes m none all chose is, so.0), kept, so.1)

reading_ends : (a : Asked) (left : Option (List ℕ)) (chosen : Option (Option (List ℕ))) (s t : ℕ) (b : Meter) (old : Option (List ℕ)) (u : ℕ) (e : Ending) → a.make ≡ None → EndsReading left chosen a.file s t e → EndsRun (Some a) left chosen s t b b old old u u e
reading_ends a left chosen s t b old u ending.Decided none so = absurd so
reading_ends a left chosen s t b old u (ending.Undecided why.Budget) none so = absurd so
reading_ends a left chosen s t b old u (ending.Undecided why.Memory) none so = absurd so
reading_ends a left chosen s t b old u ending.WrongWords none so = absurd so
reading_ends a left chosen s t b old u ending.NoMemory none so = (keeps_same old, so, refl)
reading_ends a left chosen s t b old u (ending.Refused r token) none (over, chose, kept) = (chose_file a chosen none chose, over, keeps_same old, kept, refl)
reading_ends a left chosen s t b old u ending.ReadFailed none so = (asks_for_file a none, keeps_same old, so, refl)
reading_ends a left chosen s t b old u ending.WriteFailed none so = absurd so

-- ---- the ways of a run

-- what the words ask for, where they are good
pub good_line : (found : Option Line) (l : Line) (line : Option Asked) → found ≡ Some l → option_map asked_of found ≡ line → Some (asked_of l) ≡ line
good_line found l line is given = sym (ap (option_map asked_of) is) ∙ given

pub no_memory : (line : Option Asked) (left : Option (List ℕ)) (chosen : Option (Option (List ℕ))) (s : ℕ) (b : Meter) (old : Option (List ℕ)) (u : ℕ) → EndsRun line left chosen s s b b old old u u ending.NoMemory
no_memory line left chosen s b old u = (keeps_same old, refl, refl)

pub wrong_words : (line : Option Asked) (left : Option (List ℕ)) (chosen : Option (Option (List ℕ))) (s : ℕ) (b : Meter) (old : Option (List ℕ)) (u : ℕ) → None ≡ line → EndsRun line left chosen s s b b old old u u ending.WrongWords
wrong_words line left chosen s b old u e = (sym e, keeps_same old, refl, refl)

pub reading_run : (line : Option Asked) (a : Asked) (left : Option (List ℕ)) (chosen : Option (Option (List ℕ))) (s t : ℕ) (b : Meter) (old : Option (List ℕ)) (u : ℕ) (e : Ending) → Some a ≡ line → a.make ≡ None → EndsReading left chosen a.file s t e → EndsRun line left chosen s t b b old old u u e
reading_run line a left chosen s t b old u e la none so = subst (λ (x : Option Asked). EndsRun x left chosen s t b b old old u u e) la (reading_ends a left chosen s t b old u e none so)

-- where a file is asked for, it may be read
pub reads_file : (line : Option Asked) (a : Asked) → Some a ≡ line → a.make ≡ None → IsWithoutFile line → ⊥
reads_file line a la none h = without a none (subst (λ (x : Option Asked). IsWithoutFile x) (sym la) h)
  where
    without : (a : Asked) → a.make ≡ None → IsWithoutFile (Some a) → ⊥
    without a none h = rw none at h
