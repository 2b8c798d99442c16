use Rattle.xs_parser.proofs.TextLemmas.{none-reported, none-stands}
use Rattle.xs_parser.proofs.laws.syntax_is_reported.Goals as goal

pub returns : goal.returns
returns c = λ wanted pairs text. (none-reported wanted pairs text, none-stands wanted pairs text)
