use Rattle.std.proofs.Common.{ap}
use Rattle.xs_structure.specs.declared.standing.Standing.{Standing}
use Rattle.xs_static.proofs.sets.is_seen.Goals as goal

pub returns : goal.returns
returns c = ap (λ (s : Standing). s.is_seen) c.standing_in.ensures
