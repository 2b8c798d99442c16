use Rattle.xs_trace.proofs.KnownLemmas.{play-same}
use Rattle.xs_trace.proofs.laws.cuts_report_same.Goals as goal

pub returns : goal.returns
returns g c = play-same
