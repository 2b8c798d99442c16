use Rattle.std.proofs.Common.{ap, sym, ◌∙◌, ◌++◌}
use Rattle.xs_tree.proofs.NamespaceLemmas.{namespace-within}
use Rattle.xs_elements.proofs.scope.uri_of.Goals as goal

-- the namespace node that comes next is in the tree
pub local-requires : goal.local-requires
local-requires c =
    namespace-within c.args.tree.now c.args.n c.loop-space.yielded _ c.in-Some.space
    (sym c.loop-space.invariant.2 ∙ ap (λ xs. c.loop-space.yielded ++ xs) c.in-Some.ensures.steps)

pub text-requires : goal.text-requires
text-requires c =
    namespace-within c.args.tree.now c.args.n c.loop-space.yielded _ c.in-Some.space
    (sym c.loop-space.invariant.2 ∙ ap (λ xs. c.loop-space.yielded ++ xs) c.in-Some.ensures.steps)
