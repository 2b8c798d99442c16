use Rattle.xs_record.proofs.OutcomeLemmas.{outcomes-agree}
use Rattle.xs_record.proofs.laws.outcomes_agree.Goals as goal

pub returns : goal.returns
returns g c = outcomes-agree _
