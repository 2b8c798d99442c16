-- The command line, as `clap` means one: which words are taken, and what of them goes to which argument.
use Rattle.std.specs.Prelude.{List, [], ◌∷◌, Option, Some, None, true, codes}
use Rattle.clap.specs.Lexer.{usize_max}
use Rattle.clap.specs.Simple.{on_top}
use Rattle.clap.specs.Words.{App, Kinds, Row, Rule, Text, fault_of, matches_of, new_app, new_rule, with_rule}
use Rattle.clap.specs.declared.builder.action.ArgAction.TheVariants.{SetTrue}

-- an option with one value, `--name N`
abbrev pub option : Text → Rule
option name = record (new_rule name) { long = Some name }

-- an option without a value, `--name`
abbrev pub flag : Text → Rule
flag name = record (new_rule name) { long = Some name; action = Some SetTrue }

-- all words that are no options, in order
abbrev pub inputs : Rule
inputs = record (new_rule (codes "inputs")) { range = Some (record { start_inclusive = 0; end_inclusive = usize_max }) }

-- No word is the program's name, and `--help` is a word like any other.
abbrev pub bare_command : App
bare_command = on_top (λ top. record top { no_binary_name = true; disable_help_flag = true }) (new_app (codes "xslt"))

abbrev pub limits : App → App
limits app = with_rule (with_rule (with_rule app
    (option (codes "budget"))) (option (codes "max-events"))) (option (codes "at"))

abbrev pub sizes : App → App
sizes app = with_rule (with_rule (with_rule app
    (option (codes "workers"))) (option (codes "grain"))) (option (codes "load"))

abbrev pub flags : App → App
flags app = with_rule (with_rule (with_rule (with_rule app
    (flag (codes "stats"))) (flag (codes "profile"))) (flag (codes "stream"))) (flag (codes "check"))

-- the program's command: six options with a number, four flags, and the inputs
abbrev pub command_line : App
command_line = with_rule (flags (sizes (limits bare_command))) inputs

-- rows where there is no fault
abbrev pub without_fault : Kinds → List Row → Option (List Row)
without_fault [] rows = Some rows
without_fault (kind ∷ kinds) rows = None

-- What the words give each argument, a row for each; none where `clap` refuses them, that is, where a word is no option of
-- these, an option stands twice, or it has not the values that it takes.
unfoldable pub rows_of_words : List Text → Option (List Row)
rows_of_words words = without_fault (fault_of command_line words) (matches_of command_line words)
