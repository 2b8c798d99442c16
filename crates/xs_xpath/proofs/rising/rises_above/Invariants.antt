use Rattle.std.proofs.Common.{◌≡◌, length}
use Rattle.xs_xpath.specs.steps.Rising.{rises_above}
use Rattle.xs_xpath.proofs.rising.rises_above.Given as goal

abbrev pub invariant-loop-pair : goal.invariant-loop-pair
invariant-loop-pair l = rises_above l.before l.rest ≡ rises_above l.prefix l.pairs

abbrev pub decreases-loop-pair : goal.decreases-loop-pair
decreases-loop-pair l = length l.rest
