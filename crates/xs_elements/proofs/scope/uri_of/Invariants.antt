use Rattle.std.proofs.Common.{◌≡◌, ◌++◌, map}
use Rattle.xs_elements.specs.Nodes.{pair_at, scope_at}
use Rattle.xs_tree.specs.Record.{namespaces}
use Rattle.xs_xpath.specs.Names.{uri_in}
use Rattle.xs_elements.proofs.scope.uri_of.Given as goal

-- what the namespaces that are left say is what all say
abbrev pub invariant-loop-space : goal.invariant-loop-space
invariant-loop-space l =
    goal.iterator-loop-space.can_next l.space-iterator ×
    goal.iterator-loop-space.is_finite l.space-iterator ×
    (l.yielded ++ l.space-iterator ≡ namespaces l.tree l.fn.n) ×
    (uri_in (map (pair_at l.tree) l.space-iterator) l.prefix ≡ uri_in (scope_at l.tree l.fn.n) l.prefix)
