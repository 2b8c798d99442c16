use Rattle.std.proofs.Common.{sym, ◌≡◌, true, Some}
use Rattle.xs_tree.specs.Kinds.{is_child_kind}
use Rattle.xs_tree.specs.Record.{at}
use Rattle.xs_axes.proofs.BackwardAxisLemmas.{axis-siblings_before, axis-no_siblings_before}
use Rattle.xs_axes.proofs.ForwardAxisLemmas.{some_child}
use Rattle.xs_axes.proofs.starts.preceding_siblings.Goals as goal

pub returns-in-Some-clause-left : goal.returns-in-Some-clause-left
returns-in-Some-clause-left c =
    let child : (is_child_kind (at c.args.tree.now c.args.node).kind ≡ true) × ((at c.args.tree.now c.args.node).parent ≡ Some c.in-Some.parent) =
    some_child c.args.tree.now c.args.node c.in-Some.parent (sym c.in-Some.ensures.parent) in
    axis-siblings_before c.args.tree.now c.args.node c.in-Some.parent c.requires child.0 child.1

pub returns-in-None-clause-left : goal.returns-in-None-clause-left
returns-in-None-clause-left c = axis-no_siblings_before c.args.tree.now c.args.node (sym c.in-None.ensures.parent)
