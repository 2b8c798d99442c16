use Rattle.std.proofs.Common.{ap, sym, ◌∙◌, ◌++◌}
use Rattle.xs_tree.proofs.WalkLemmas.{attribute-within}
use Rattle.xs_modules.proofs.mentions.href.Goals as goal

-- the attribute that comes next is in the tree
pub is_href-requires : goal.is_href-requires
is_href-requires c =
    attribute-within c.args.tree.now c.args.n c.loop-attribute.yielded _ c.in-Some.attribute
    (sym c.loop-attribute.invariant.2 ∙ ap (λ xs. c.loop-attribute.yielded ++ xs) c.in-Some.ensures.steps)
