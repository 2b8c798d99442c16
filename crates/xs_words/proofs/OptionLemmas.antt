-- What a parse says of the options.
use Rattle.std.proofs.Common.{◌≡◌, ◌≢◌, List, Result, Ok, Err, Option, Some, None, refl, sym, ap, subst}
use Rattle.clap.specs.Words.{App, Row, Text, HasMatchesOf, kind_of}
use Rattle.clap.specs.declared.error.Error.{Error}
use Rattle.clap.specs.declared.error.kind.ErrorKind.TheVariants as kind
use Rattle.clap.specs.declared.parser.matches.ArgMatches.{ArgMatches}
use Rattle.xs_words.specs.Choice.{Choice}
use Rattle.xs_words.specs.Command.{command_line, rows_of_words}
use Rattle.xs_words.specs.Options.{choice_of_rows, options_of}
use Rattle.xs_words.specs.Results.{Gives, reported}
use Rattle.xs_words.specs.Rows.{rows_in}
use Rattle.xs_words.specs.Steps.{given}
use Rattle.xs_words.specs.declared.choice.Options.{Options}
use Rattle.xs_words.specs.declared.choice.WordsEnd.{WordsEnd}
use Rattle.xs_words.specs.declared.choice.WordsEnd.TheVariants.{Usage, NoMemory}
use Rattle.xs_words.proofs.CommandLemmas.{Answers, taken_rows, refused_rows}

options_taken : (words : List Text) (rows : List Row) → rows_of_words words ≡ Some rows → options_of words ≡ choice_of_rows rows
unfolding options_of
options_taken words rows e = ap (λ (r : Option (List Row)). given r choice_of_rows) e

options_refused : (words : List Text) → rows_of_words words ≡ None → options_of words ≡ None
unfolding options_of
options_refused words e = ap (λ (r : Option (List Row)). given r choice_of_rows) e

-- what the rows give is what the words do
pub taken_gives : (app : App) (words : List Text) (m : ArgMatches) (r : Result Options WordsEnd) → app ≡ command_line → HasMatchesOf app words m
    → Answers app words (Ok m) → Gives reported (choice_of_rows (rows_in m)) r → Gives reported (options_of words) r
taken_gives app words m r e h f g =
    subst (λ (wanted : Option Choice). Gives reported wanted r) (sym (options_taken words (rows_in m) (taken_rows app words m e h f))) g

-- where there are no matches, `Usage` is right, or memory ran out
pub refused_gives : (app : App) (words : List Text) (e : Error) (end : WordsEnd) → app ≡ command_line → (end ≡ Usage → kind_of e ≢ kind.OutOfMemory)
    → Answers app words (Err e) → Gives reported (options_of words) (Err end)
refused_gives app words e Usage s k f = options_refused words (refused_rows app words e s (k refl) f)
refused_gives app words e NoMemory s k f = tt
