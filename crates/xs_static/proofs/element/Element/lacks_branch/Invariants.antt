use Rattle.std.proofs.Common.{◌≡◌, ◌++◌}
use Rattle.std.specs.List.{list_any}
use Rattle.xs_elements.specs.Tags.{is_when, tag_of}
use Rattle.xs_static.specs.steps.Elements.{records_of}
use Rattle.xs_tree.specs.Record.{children}
use Rattle.xs_static.proofs.element.Element.lacks_branch.Given as goal

-- whether one of those that are left is a branch
abbrev pub invariant-loop-child : goal.invariant-loop-child
invariant-loop-child l =
    goal.iterator-loop-child.can_next l.child-iterator ×
    goal.iterator-loop-child.is_finite l.child-iterator ×
    (l.yielded ++ l.child-iterator ≡ children (records_of l.self) l.self.node) ×
    (list_any (λ k. is_when (tag_of (records_of l.self) k)) l.child-iterator
    ≡ list_any (λ k. is_when (tag_of (records_of l.self) k)) (children (records_of l.self) l.self.node))
