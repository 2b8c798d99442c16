use Rattle.std.proofs.Common.{◌∙◌, ap, codes}
use Rattle.clap.specs.Words.{App, with_rule}
use Rattle.xs_words.specs.Command.{option}
use Rattle.xs_words.proofs.command.with_limits.Goals as goal

pub returns : goal.returns
returns c =
    c.in_ok-command-3.ensures
    ∙ ap (λ (a : App). with_rule a (option (codes "at"))) (c.in_ok-command-2.ensures
    ∙ ap (λ (a : App). with_rule a (option (codes "max-events"))) c.in_ok-command.ensures)
