-- A walk begins after the node.
use Rattle.std.proofs.Common.{sym}
use Rattle.xs_tree.proofs.WalkLemmas.{text_nodes-after}
use Rattle.xs_tree.proofs.trees.Tree.texts.Goals as goal

pub returns : goal.returns
returns c =
    record { texts = rw c.place.ensures (sym (text_nodes-after c.args.self.now c.args.n c.subtree_end-end.ensures.tree c.requires)) }
