-- After a child the walk goes on where the child's subtree ends.
use Rattle.std.proofs.Common.{rules, ap, sym, ◌∙◌, ◌∷◌}
use Rattle.xs_tree.proofs.WalkLemmas.{children-next}
use Rattle.xs_tree.proofs.trees.walks.ChildrenIterator.next.Goals as goal

pub returns-clause-steps : goal.returns-clause-steps
returns-clause-steps c =
    sym c.self.view_is ∙ c.in_ok-child.ensures.value
    ∙ rw c.at-self-inside.ensures (ap (λ xs. c.in_ok-child.child ∷ xs)
    (children-next c.self.inside.tree.now c.self.inside.parent c.in_ok-child.child c.subtree_end.result
    c.in_ok-child.ensures.after c.subtree_end.ensures.end))

pub returns-clause-goes : goal.returns-clause-goes
returns-clause-goes c = rw (returns-clause-steps c) (search rules)
