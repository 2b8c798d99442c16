use Rattle.std.proofs.Common.{◌≡◌, length}
use Rattle.xs_body_spec.specs.Making.{aliased}
use Rattle.xs_body.proofs.literals.alias_of.Given as goal

abbrev pub invariant-loop-alias : goal.invariant-loop-alias
invariant-loop-alias l = aliased l.aliases l.uri ≡ aliased l.left l.uri

abbrev pub decreases-loop-alias : goal.decreases-loop-alias
decreases-loop-alias l = length l.left
