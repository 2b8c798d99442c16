use Rattle.xs_tree.proofs.StrippingLawLemmas as law
use Rattle.xs_tree.proofs.laws.stripped_string_values.Goals as goal

pub returns : goal.returns
returns c = law.texts_that_stay
