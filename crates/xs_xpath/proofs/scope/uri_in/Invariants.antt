use Rattle.std.proofs.Common.{◌≡◌, length}
use Rattle.xs_xpath.specs.Names.{uri_in}
use Rattle.xs_xpath.proofs.scope.uri_in.Given as goal

abbrev pub invariant-loop-pair : goal.invariant-loop-pair
invariant-loop-pair l = uri_in l.rest l.prefix ≡ uri_in l.pairs l.prefix

abbrev pub decreases-loop-pair : goal.decreases-loop-pair
decreases-loop-pair l = length l.rest
