use Rattle.std.proofs.Common.{length}
use Rattle.xs_structure.proofs.scopes.from_prefix.Given as goal

abbrev pub decreases-loop-pair : goal.decreases-loop-pair
decreases-loop-pair l = length l.rest
