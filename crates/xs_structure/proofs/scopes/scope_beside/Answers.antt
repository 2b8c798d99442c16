use Rattle.std.proofs.Common.{◌∙◌, ◌++◌, ap, sym, List, ℕ}
use Rattle.xs_tree.proofs.NamespaceLemmas.{namespace-within}
use Rattle.xs_structure.proofs.scopes.scope_beside.Goals as goal

-- the namespace node that comes next is in the tree
pub from_prefix-rest-requires : goal.from_prefix-rest-requires
from_prefix-rest-requires c =
    namespace-within c.args.tree.now c.args.n c.loop-space.yielded _ c.in-Some.space
    (sym c.loop-space.invariant.2 ∙ ap (λ (xs : List ℕ). c.loop-space.yielded ++ xs) c.in-Some.ensures.steps)

pub pair_like-requires : goal.pair_like-requires
pair_like-requires c =
    namespace-within c.args.tree.now c.args.n c.loop-space.yielded _ c.in-Some.space
    (sym c.loop-space.invariant.2 ∙ ap (λ (xs : List ℕ). c.loop-space.yielded ++ xs) c.in-Some.ensures.steps)
