use Rattle.xs_trace.proofs.PlayLemmas.{play-captured}
use Rattle.xs_trace.proofs.laws.play_of_captured.Goals as goal

pub returns : goal.returns
returns g c = play-captured
