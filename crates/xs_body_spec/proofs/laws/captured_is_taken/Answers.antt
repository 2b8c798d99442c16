use Rattle.xs_body_spec.proofs.CapturedLemmas.{captured-says, captured-ticks}
use Rattle.xs_body_spec.proofs.laws.captured_is_taken.Goals as goal

pub returns-clause-ticks : goal.returns-clause-ticks
returns-clause-ticks c = captured-ticks

pub returns-clause-messages : goal.returns-clause-messages
returns-clause-messages c = captured-says
