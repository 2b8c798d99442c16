use Rattle.std.proofs.Common.{◌≡◌, ◌++◌, drop, filter}
use Rattle.xs_eval.specs.steps.Keys.{holds}
use Rattle.xs_eval.proofs.keys.add_held.Given as goal

abbrev pub invariant-loop-node : goal.invariant-loop-node
invariant-loop-node l =
    l.nodes ++ filter (holds l.document) (drop l.node-index l.found) ≡ l.fn.nodes ++ filter (holds l.document) l.found
