use Rattle.xs_parser.proofs.TemplateLemmas.{none-stands-parts, none-reported-parts}
use Rattle.xs_parser.proofs.laws.template_syntax_is_reported.Goals as goal

pub returns : goal.returns
returns c = λ pairs text. (none-reported-parts pairs text, none-stands-parts pairs text)
