use Rattle.std.proofs.Common.{◌≡◌, true, length}
use Rattle.xs_xpath.specs.Names.{uri_in}
use Rattle.xs_xpath.specs.steps.Rising.{rises}
use Rattle.xs_xpath.proofs.rising.few_with.Given as goal

abbrev pub invariant-loop-part : goal.invariant-loop-part
invariant-loop-part l = (rises l.part ≡ true) × (uri_in l.part l.prefix ≡ uri_in l.pairs l.prefix)

abbrev pub decreases-loop-part : goal.decreases-loop-part
decreases-loop-part l = length l.part
