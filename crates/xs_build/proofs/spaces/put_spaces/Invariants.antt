use Rattle.std.proofs.Common.{◌++◌}
use Rattle.xs_build.specs.Nodes.{spaces}
use Rattle.xs_build.proofs.NamespaceNodeLemmas.{IsSpaced}
use Rattle.xs_build.proofs.spaces.put_spaces.Given as goal

abbrev pub invariant-loop-prefix : goal.invariant-loop-prefix
invariant-loop-prefix l = IsSpaced l.tree l.element l.prefix-iterator (l.fn.tree ++ spaces l.element l.fn.scope)
