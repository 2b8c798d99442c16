use Rattle.std.proofs.Common.{refl}
use Rattle.xs_trace.proofs.CutLemmas.{then-assoc, then-nil}
use Rattle.xs_trace.proofs.laws.then_joins.Goals as goal

pub returns-clause-associative : goal.returns-clause-associative
returns-clause-associative g c = then-assoc

pub returns-clause-unit : goal.returns-clause-unit
returns-clause-unit g c = λ x. (refl, then-nil x)
