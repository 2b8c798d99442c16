use Rattle.std.proofs.Common.{◌++◌, ◌+◌, length}
use Rattle.xs_build.specs.Nodes.{spaces}
use Rattle.xs_build.proofs.NamespaceNodeLemmas.{IsCopied}
use Rattle.xs_build.proofs.spaces.copy_spaces.Given as goal

abbrev pub invariant-loop-like : goal.invariant-loop-like
invariant-loop-like l = IsCopied l.tree l.element l.fn.parent l.like (l.fn.parent + 1 + length l.fn.scope) (l.fn.tree ++ spaces l.element l.fn.scope)
