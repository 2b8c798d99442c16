use Rattle.xs_core.proofs.StepLemmas.{one-state}
use Rattle.xs_core.proofs.laws.one_state.Goals as goal

pub returns : goal.returns
returns c = one-state
