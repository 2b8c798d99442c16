-- A walk begins after the node.
use Rattle.std.proofs.Common.{sym}
use Rattle.xs_tree.proofs.WalkLemmas.{attributes-after}
use Rattle.xs_tree.proofs.trees.Tree.attributes.Goals as goal

pub returns : goal.returns
returns c =
    record { attributes = rw (c.at.ensures, c.place.ensures) (sym (attributes-after c.args.self.now c.args.n c.len-count.ensures.tree c.requires)) }
