use Rattle.xs_task_laws.proofs.PlaceLemmas.{falls, is-ready}
use Rattle.xs_task_laws.proofs.laws.sheet_is_ready.Goals as goal

pub returns : goal.returns
returns c = record { ready = is-ready; falls = falls }
