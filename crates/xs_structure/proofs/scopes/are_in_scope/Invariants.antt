use Rattle.std.proofs.Common.{◌≡◌, ◌++◌, map}
use Rattle.xs_elements.specs.Nodes.{pair_at, scope_at}
use Rattle.xs_tree.specs.Record.{namespaces}
use Rattle.xs_structure.proofs.scopes.are_in_scope.Given as goal

-- if the pairs that are left are those of the namespace nodes that are left, then all are
abbrev pub invariant-loop-space : goal.invariant-loop-space
invariant-loop-space l =
    goal.iterator-loop-space.can_next l.space-iterator ×
    goal.iterator-loop-space.is_finite l.space-iterator ×
    (l.yielded ++ l.space-iterator ≡ namespaces l.tree l.fn.n) ×
    (map (pair_at l.tree) l.space-iterator ≡ l.rest → l.pairs ≡ scope_at l.tree l.fn.n)
