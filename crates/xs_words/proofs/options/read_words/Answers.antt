use Rattle.clap.specs.Words.{app_of}
use Rattle.xs_words.specs.Results.{texts}
use Rattle.xs_words.specs.Rows.{rows_in}
use Rattle.xs_words.proofs.OptionLemmas.{taken_gives, refused_gives}
use Rattle.xs_words.proofs.WithinLemmas.{options_fit}
use Rattle.xs_words.proofs.options.read_words.Goals as goal

pub returns-in-Ok-clause-gives : goal.returns-in-Ok-clause-gives
returns-in-Ok-clause-gives c =
    taken_gives (app_of c.in_ok-command.command) (texts c.args.words.now) c.in-Ok.matches c.options_in.result c.in_ok-command.ensures
    c.in-Ok.ensures.matches c.in-Ok.ensures.kinds c.options_in.ensures

pub returns-in-Err-clause-gives : goal.returns-in-Err-clause-gives
returns-in-Err-clause-gives c =
    refused_gives (app_of c.in_ok-command.command) (texts c.args.words.now) c.in-Err.error c.refusal.result c.in_ok-command.ensures
    c.refusal.ensures.usage c.in-Err.ensures.kinds

pub returns-in-Ok-clause-within : goal.returns-in-Ok-clause-within
returns-in-Ok-clause-within c = options_fit (rows_in c.in-Ok.matches) c.options_in.result c.options_in.ensures
