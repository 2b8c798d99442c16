use Rattle.std.proofs.Common.{◌≡◌, ◌++◌, map}
use Rattle.xs_elements.specs.Nodes.{pair_at, scope_at}
use Rattle.xs_tree.specs.Record.{namespaces}
use Rattle.xs_structure.proofs.scopes.scope_beside.Given as goal

-- what was made, and what is still to be made, are the namespaces in scope
abbrev pub invariant-loop-space : goal.invariant-loop-space
invariant-loop-space l =
    goal.iterator-loop-space.can_next l.space-iterator ×
    goal.iterator-loop-space.is_finite l.space-iterator ×
    (l.yielded ++ l.space-iterator ≡ namespaces l.tree l.fn.n) ×
    (l.pairs.items ++ map (pair_at l.tree) l.space-iterator ≡ scope_at l.tree l.fn.n)
