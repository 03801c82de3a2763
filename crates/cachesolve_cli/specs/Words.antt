-- How the program ends where its words can't be had from the system. All of it is this project's own.
use Rattle.std.specs.Prelude.{ℕ, List, codes}
use Rattle.cachesolve_cli.specs.declared.program_words.WordsFault.{WordsFault}
use Rattle.cachesolve_cli.specs.declared.program_words.WordsFault.TheVariants as fault

-- the status
abbrev pub status_without : WordsFault → ℕ
status_without fault.NoMemory = 4
status_without fault.Other = 9

-- the message
abbrev pub message_without : WordsFault → List ℕ
message_without fault.NoMemory = codes "cachesolve: out of memory\n"
message_without fault.Other = codes "cachesolve: the words are no text\n"
