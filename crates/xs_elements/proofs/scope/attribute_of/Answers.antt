use Rattle.std.proofs.Common.{ap, sym, ◌∙◌, ◌++◌}
use Rattle.xs_tree.proofs.WalkLemmas.{attribute-within}
use Rattle.xs_elements.proofs.scope.attribute_of.Goals as goal

-- the attribute that comes next is in the tree
pub bears-requires : goal.bears-requires
bears-requires c =
    attribute-within c.args.tree.now c.args.n c.loop-attribute.yielded _ c.in-Some.attribute
    (sym c.loop-attribute.invariant.2 ∙ ap (λ xs. c.loop-attribute.yielded ++ xs) c.in-Some.ensures.steps)

pub returns-then-bears-clause-inside : goal.returns-then-bears-clause-inside
returns-then-bears-clause-inside c =
    attribute-within c.args.tree.now c.args.n c.loop-attribute.yielded _ c.in-Some.attribute
    (sym c.loop-attribute.invariant.2 ∙ ap (λ xs. c.loop-attribute.yielded ++ xs) c.in-Some.ensures.steps)
