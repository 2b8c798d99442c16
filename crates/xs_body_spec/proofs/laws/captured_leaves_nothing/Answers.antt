use Rattle.xs_body_spec.proofs.GrainLemmas.{captured-leaves}
use Rattle.xs_body_spec.proofs.laws.captured_leaves_nothing.Goals as goal

pub returns : goal.returns
returns c = captured-leaves
