use Rattle.xs_pool.proofs.LogLemmas.{above-so}
use Rattle.xs_pool.proofs.desks.ends_above.Goals as goal

pub returns : goal.returns
returns c = record { above = λ e. above-so _ _ c.above.result c.is_some.result c.above.ensures.above c.is_some.ensures e }
