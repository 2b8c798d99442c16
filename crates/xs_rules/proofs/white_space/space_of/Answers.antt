use Rattle.std.proofs.Common.{ap, sym, ◌∙◌, ◌++◌}
use Rattle.xs_tree.proofs.WalkLemmas.{attribute-within}
use Rattle.xs_rules.proofs.white_space.space_of.Goals as goal

-- the attribute that comes next is in the tree
pub is_named-requires : goal.is_named-requires
is_named-requires c =
    attribute-within c.args.tree.now c.args.node c.loop-attribute.yielded _ c.in-Some.attribute
    (sym c.loop-attribute.invariant.2 ∙ ap (λ xs. c.loop-attribute.yielded ++ xs) c.in-Some.ensures.steps)

pub returns-then-is_named-clause-inside : goal.returns-then-is_named-clause-inside
returns-then-is_named-clause-inside c =
    attribute-within c.args.tree.now c.args.node c.loop-attribute.yielded _ c.in-Some.attribute
    (sym c.loop-attribute.invariant.2 ∙ ap (λ xs. c.loop-attribute.yielded ++ xs) c.in-Some.ensures.steps)
