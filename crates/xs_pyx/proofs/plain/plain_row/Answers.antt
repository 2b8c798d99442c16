use Rattle.std.proofs.Common.{◌∙◌, ap, true}
use Rattle.xs_pyx.specs.Views.{says_line}
use Rattle.xs_pyx.proofs.ReadLemmas.{reading_text}
use Rattle.xs_pyx.proofs.plain.plain_row.Goals as goal

pub returns-clause-says : goal.returns-clause-says
returns-clause-says c = λ some. reading_text c.args.text.now true c.utf8.text ∙ c.plain_kind.ensures.says some

pub returns-clause-none : goal.returns-clause-none
returns-clause-none c = λ none. ap says_line (reading_text c.args.text.now true c.utf8.text) ∙ c.plain_kind.ensures.none none
