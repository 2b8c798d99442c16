use Rattle.std.proofs.Common.{◌≡◌, ◌++◌, find}
use Rattle.xs_tree.specs.Kinds.{is_element_kind}
use Rattle.xs_tree.specs.Record.{at, children}
use Rattle.xs_compile.proofs.compiled.root_element.Given as goal

-- the first element among the children that are left is the first of all
abbrev pub invariant-loop-child : goal.invariant-loop-child
invariant-loop-child l =
    goal.iterator-loop-child.can_next l.child-iterator ×
    goal.iterator-loop-child.is_finite l.child-iterator ×
    (l.yielded ++ l.child-iterator ≡ children l.fn.tree 0) ×
    (find (λ k. is_element_kind (at l.fn.tree k).kind) l.child-iterator ≡ find (λ k. is_element_kind (at l.fn.tree k).kind) (children l.fn.tree 0))
