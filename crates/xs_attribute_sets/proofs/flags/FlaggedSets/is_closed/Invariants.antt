use Rattle.std.proofs.Common.{◌≡◌, length}
use Rattle.xs_attribute_sets.specs.steps.FlaggedSets.{is_closed}
use Rattle.xs_attribute_sets.proofs.flags.FlaggedSets.is_closed.Given as goal

abbrev pub invariant-loop-set : goal.invariant-loop-set
invariant-loop-set l = is_closed l.self l.sets ≡ is_closed l.self l.left

abbrev pub decreases-loop-set : goal.decreases-loop-set
decreases-loop-set l = length l.left
