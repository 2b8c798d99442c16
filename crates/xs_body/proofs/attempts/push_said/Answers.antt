use Rattle.xs_body.proofs.AttemptLemmas.{quiet, silent}
use Rattle.xs_body.proofs.attempts.push_said.Goals as goal

pub returns-in-Run : goal.returns-in-Run
returns-in-Run c = quiet c.args.item.now _ _ _ c.args.says.now.items c.in-Run.is

pub returns-in-Put : goal.returns-in-Put
returns-in-Put c = silent c.args.item.now _ c.args.says.now.items c.in-Put.is
