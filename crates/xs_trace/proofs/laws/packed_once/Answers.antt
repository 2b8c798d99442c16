use Rattle.xs_trace.proofs.PackedLemmas.{packed-once}
use Rattle.xs_trace.proofs.laws.packed_once.Goals as goal

pub returns : goal.returns
returns g c = packed-once _
