use Rattle.xs_trace.proofs.PlayLemmas.{play-ticks}
use Rattle.xs_trace.proofs.laws.play_of_ticks.Goals as goal

pub returns : goal.returns
returns g c = play-ticks
