use Rattle.xs_trace.proofs.MeterLemmas.{meter-law}
use Rattle.xs_trace.proofs.meter.meter_law.Goals as goal

pub returns : goal.returns
returns g c = meter-law _ _ _
