-- The command line: what the program's words ask for, or that they are refused. Which words there are is what clap makes
-- of one simple command; the rest is this project's own.
use Rattle.std.specs.Prelude.{ℕ, ◌+◌, ◌*◌, ◌%◌, ◌^◌, ◌==◌, ◌&&◌, Bool, true, false, not, List, [], ◌∷◌, length, Option, Some, None, is_some, option_map, if◌then◌else◌, nat_lt, nat_le, codes}
use Rattle.std.specs.List.{list_all}
use Rattle.std.specs.Option.{option_map_or}
use Rattle.std.specs.Borrow.{Bor}
use Rattle.std.specs.Str.{bytes_eq}
use Rattle.std.specs.Str.Parse.{digits_value}
use Rattle.clap.specs.Words.{App, Row, Rule, Text, first_of, matches_of, new_app, new_rule, with_rule, fault_of}
use Rattle.clap.specs.Simple.{on_top}
use Rattle.clap.specs.Walk.{is_empty}
use Rattle.clap.specs.declared.builder.action.ArgAction.TheVariants.{SetTrue}
use Rattle.incumbent_board.specs.declared.options.Options.{Options}
use Rattle.command_line.specs.declared.line.Line.{Line}
use Rattle.command_line.specs.Asked.{Asked}

-- `--name`, which takes a value
abbrev pub value_rule : Text → Rule
value_rule name = record (new_rule name) { long = Some name }

-- `--name`, which takes none
abbrev pub flag_rule : Text → Rule
flag_rule name = record (value_rule name) { action = Some SetTrue }

-- `-c`, which takes a value
abbrev pub short_rule : Text → ℕ → Rule
short_rule id c = record (new_rule id) { short = Some c }

-- `-c`, which takes none
abbrev pub short_flag_rule : Text → ℕ → Rule
short_flag_rule id c = record (short_rule id c) { action = Some SetTrue }

-- the command before it has arguments: its words begin behind the program's name, and no word asks for help or the version
abbrev pub bare_command : App
bare_command = on_top (λ s. record s { no_binary_name = true; disable_help_flag = true; disable_version_flag = true }) (new_app (codes "cachesolve"))

-- `cachesolve [-p N] [-s] [--cache N] [--key-words N] [--nodes N] [--log] [--make N] [FILE]`
abbrev pub command : App
command =
    with_rule (with_rule (with_rule (with_rule (with_rule (with_rule (with_rule (with_rule bare_command
    (short_rule (codes "workers") 112))
    (short_flag_rule (codes "stats") 115))
    (value_rule (codes "cache")))
    (value_rule (codes "key-words")))
    (value_rule (codes "nodes")))
    (flag_rule (codes "log")))
    (value_rule (codes "make")))
    (new_rule (codes "FILE"))

-- a decimal digit
abbrev pub is_digit : ℕ → Bool
is_digit c = nat_le 48 c && nat_le c 57

-- one to nineteen decimal digits, and nothing else
abbrev pub is_number : Text → Bool
is_number text = nat_lt 0 (length text) && (nat_lt (length text) 20 && list_all is_digit text)

-- what was given to an argument is a number, where anything was
abbrev pub is_number_or_none : Text → List Row → Bool
is_number_or_none id rows = option_map_or is_number (first_of id rows) true

-- the number that was given to an argument, or the default
abbrev pub number_or : Text → ℕ → List Row → ℕ
number_or id default rows = option_map_or (digits_value 10) (first_of id rows) default

-- a text, and the number that it writes
abbrev pub number_with_text : Option Text → Option (Text × ℕ)
number_with_text = option_map (λ text. (text, digits_value 10 text))

-- a flag was given
abbrev pub is_set : Text → List Row → Bool
is_set id rows = option_map_or (λ t. bytes_eq t (codes "true")) (first_of id rows) false

-- how to search, with the defaults
abbrev pub options_of : List Row → Options
options_of rows = record {
  workers = number_or (codes "workers") 1 rows;
  ways = number_or (codes "cache") 65536 rows;
  key_words = number_or (codes "key-words") 512 rows;
  nodes = number_or (codes "nodes") 1000000000 rows;
}

-- The limits: 1 to 64 workers; ways of the cache 0 or a multiple of 8 up to 1,048,576; keys of 16 to 4,096 words; ways
-- times words of a key at most 268,435,456; at most 2^60 nodes.
abbrev pub is_in_limits : Options → Bool
is_in_limits o =
    nat_le 1 o.workers && (nat_le o.workers 64
    && (o.ways % 8 == 0 && (nat_le o.ways 1048576
    && (nat_le 16 o.key_words && (nat_le o.key_words 4096
    && (nat_le (o.ways * o.key_words) 268435456
    && nat_le o.nodes (2 ^ 60)))))))

-- what the words ask for, where they are good
abbrev pub asked : List Row → Asked
asked rows = record {
  options = options_of rows;
  stats = is_set (codes "stats") rows;
  make = number_with_text (first_of (codes "make") rows);
  file = first_of (codes "FILE") rows;
}

-- the options are numbers within their limits
unfoldable pub are_options_good : List Row → Bool
are_options_good rows =
    is_number_or_none (codes "workers") rows && (is_number_or_none (codes "cache") rows
    && (is_number_or_none (codes "key-words") rows && (is_number_or_none (codes "nodes") rows
    && is_in_limits (options_of rows))))

-- What was given is good: the options are; the number of a model to make is a number; no log is asked for (there is none
-- yet); and a model isn't both made and read from a file.
abbrev pub is_good : List Row → Bool
is_good rows =
    are_options_good rows && (is_number_or_none (codes "make") rows
    && (not (is_set (codes "log") rows)
    && not (is_some (first_of (codes "make") rows) && is_some (first_of (codes "FILE") rows))))

-- what was given, or none where it isn't good
abbrev pub asked_if_good : List Row → Option Asked
asked_if_good rows = if is_good rows then Some (asked rows) else None

-- What the words ask for; none where they are refused: by clap, or since what was given isn't good.
unfoldable pub line : List Text → Option Asked
line words = if is_empty (fault_of command words) then asked_if_good (matches_of command words) else None

-- the number of a model to make, behind references
abbrev pub made_of : Option (Bor (List ℕ) × ℕ) → Option (Text × ℕ)
made_of = option_map (λ m. (m.0.now, m.1))

-- a line as a caller has it
abbrev pub asked_of : Line → Asked
asked_of l = record {
  options = l.options;
  stats = l.stats;
  make = made_of l.make;
  file = option_map (λ f. f.now) l.file;
}
