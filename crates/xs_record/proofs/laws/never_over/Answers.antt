use Rattle.xs_record.proofs.PieceLemmas.{never-over}
use Rattle.xs_record.proofs.laws.never_over.Goals as goal

pub returns : goal.returns
returns g c = never-over _
