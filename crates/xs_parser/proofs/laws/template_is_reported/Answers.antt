use Rattle.xs_parser.proofs.TemplateLemmas.{reported}
use Rattle.xs_parser.proofs.laws.template_is_reported.Goals as goal

pub returns : goal.returns
returns c = reported
