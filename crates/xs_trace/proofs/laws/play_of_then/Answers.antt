use Rattle.xs_trace.proofs.PlayLemmas.{play-then}
use Rattle.xs_trace.proofs.laws.play_of_then.Goals as goal

pub returns : goal.returns
returns g c = play-then
