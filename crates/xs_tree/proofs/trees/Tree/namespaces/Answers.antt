-- A walk begins after the node.
use Rattle.std.proofs.Common.{sym}
use Rattle.xs_tree.proofs.NamespaceLemmas.{namespaces-after}
use Rattle.xs_tree.proofs.trees.Tree.namespaces.Goals as goal

pub returns : goal.returns
returns c =
    record { namespaces = rw (c.at.ensures, c.place.ensures) (sym (namespaces-after c.args.self.now c.args.n c.len-count.ensures.tree c.requires)) }
