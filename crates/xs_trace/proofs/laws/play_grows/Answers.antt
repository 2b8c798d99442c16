use Rattle.xs_trace.proofs.GrowthLemmas.{play-grows}
use Rattle.xs_trace.proofs.laws.play_grows.Goals as goal

pub returns : goal.returns
returns g c = play-grows
