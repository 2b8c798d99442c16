use Rattle.xs_parser.proofs.TextLemmas.{outcome}
use Rattle.xs_parser.proofs.laws.outcome_is_reported.Goals as goal

pub returns : goal.returns
returns c = outcome
