use Rattle.std.proofs.Common.{sym, ◌≡◌, true, Some}
use Rattle.xs_tree.specs.Kinds.{is_child_kind}
use Rattle.xs_tree.specs.Record.{at}
use Rattle.xs_axes.proofs.ForwardAxisLemmas.{axis-following_siblings, axis-no_following_siblings, some_child}
use Rattle.xs_axes.proofs.starts.following_siblings.Goals as goal

pub returns-in-Some-clause-left : goal.returns-in-Some-clause-left
returns-in-Some-clause-left c =
    let child : (is_child_kind (at c.args.tree.now c.args.node).kind ≡ true) × ((at c.args.tree.now c.args.node).parent ≡ Some c.in-Some.parent) =
    some_child c.args.tree.now c.args.node c.in-Some.parent (sym c.in-Some.ensures.parent) in
    axis-following_siblings c.args.tree.now c.args.node c.in-Some.parent c.subtree_end-from.result
    c.subtree_end-from.ensures.tree c.requires c.subtree_end-from.ensures.end child.0 child.1

pub returns-in-None-clause-left : goal.returns-in-None-clause-left
returns-in-None-clause-left c = axis-no_following_siblings c.args.tree.now c.args.node (sym c.in-None.ensures.parent)
