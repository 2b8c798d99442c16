use Rattle.xs_elements.proofs.TestLemmas.{prefix-stripped}
use Rattle.xs_elements.proofs.value.prefix_of_test.Goals as goal

pub returns : goal.returns
returns c = prefix-stripped c.args.text.now c.strip_suffix.result c.strip_suffix.ensures.cases
