-- A walk begins after the node.
use Rattle.std.proofs.Common.{sym}
use Rattle.xs_tree.proofs.WalkLemmas.{children-after}
use Rattle.xs_tree.proofs.trees.Tree.children.Goals as goal

pub returns : goal.returns
returns c =
    record { children = rw (c.at.ensures, c.place.ensures) (sym (children-after c.args.self.now c.args.n c.len-count.ensures.tree c.requires)) }
