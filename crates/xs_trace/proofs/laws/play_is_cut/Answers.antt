use Rattle.xs_trace.proofs.PlayLemmas.{play-cut}
use Rattle.xs_trace.proofs.laws.play_is_cut.Goals as goal

pub returns : goal.returns
returns g c = play-cut
