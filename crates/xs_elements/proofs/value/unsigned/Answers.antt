use Rattle.std.proofs.Common.{None, lit<}
use Rattle.std.proofs.lemmas.Str.Pattern.{strip_prefix_char}
use Rattle.xs_elements.proofs.TestLemmas.{unsigned-same}
use Rattle.xs_elements.proofs.value.unsigned.Goals as goal

pub returns-in-None : goal.returns-in-None
returns-in-None c = unsigned-same c.args.text.now (strip_prefix_char 45 c.args.text.now None c.in-None.ensures.cases (lit< tt))
