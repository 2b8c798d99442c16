use Rattle.std.proofs.Common.{◌∙◌, ap, ◌∷◌, ◌≡◌, ◌+◌}
use Rattle.xs_tree.specs.Walk.{children_from}
use Rattle.xs_axes.proofs.SubtreeLemmas.{child-skip}
use Rattle.xs_axes.proofs.forward.next_sibling.Goals as goal

pub returns-clause-step : goal.returns-clause-step
returns-clause-step c =
    let found : children_from c.args.tree.now c.args.parent c.args.from ≡ c.in_ok-child.child ∷ children_from c.args.tree.now c.args.parent
    (c.in_ok-child.child + 1) = rw (← c.at.ensures) c.in_ok-child.ensures.value in
    found ∙ ap (λ xs. c.in_ok-child.child ∷ xs)
    (child-skip c.args.tree.now c.args.parent c.in_ok-child.child c.subtree_end-from.result c.in_ok-child.ensures.after c.subtree_end-from.ensures.end)
