use Rattle.xs_trace.proofs.PlayLemmas.{play-put, play-say}
use Rattle.xs_trace.proofs.laws.play_of_texts.Goals as goal

pub returns-clause-event : goal.returns-clause-event
returns-clause-event g c = play-put

pub returns-clause-message : goal.returns-clause-message
returns-clause-message g c = play-say
