use Rattle.std.proofs.Common.{◌+◌, ◌<◌, ◌++◌, length, ap, ◌∙◌, arith}
use Rattle.xs_tree.specs.Record.{at}
use Rattle.xs_build.specs.Nodes.{spaces}
use Rattle.xs_build.proofs.NamespaceNodeLemmas.{copied_kind, copied_step}
use Rattle.xs_build.proofs.spaces.copy_spaces.Goals as goal

pub copy_space-requires-clause-space : goal.copy_space-requires-clause-space
copy_space-requires-clause-space c =
    let last = c.args.parent + 1 + length c.args.scope.now in
    let whole = c.args.tree.now ++ spaces c.args.element c.args.scope.now in
    let more : c.loop-like.like < last = omega arith in
    ap (λ k. (at c.loop-like.tree k).kind) c.at.ensures
    ∙ copied_kind c.loop-like.tree c.args.element c.args.parent c.loop-like.like last whole c.loop-like.invariant more

pub loop-like-preserved : goal.loop-like-preserved
loop-like-preserved c =
    let last = c.args.parent + 1 + length c.args.scope.now in
    let whole = c.args.tree.now ++ spaces c.args.element c.args.scope.now in
    let more : c.loop-like.like < last = omega arith in
    copied_step c.loop-like.tree c.copy_space.new.tree c.args.element c.args.parent c.loop-like.like last whole c.loop-like.invariant more
    (rw c.at.ensures at c.in_ok-copy_space.ensures)
