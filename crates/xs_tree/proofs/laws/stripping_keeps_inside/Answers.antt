use Rattle.xs_tree.proofs.StrippingLawLemmas as law
use Rattle.xs_tree.proofs.laws.stripping_keeps_inside.Goals as goal

pub returns : goal.returns
returns c = law.inside_kept
