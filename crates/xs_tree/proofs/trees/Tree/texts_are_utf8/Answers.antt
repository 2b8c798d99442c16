-- It is so of every tree.
use Rattle.xs_tree.specs.Utf8.{AreUtf8}
use Rattle.xs_tree.proofs.trees.Tree.texts_are_utf8.Goals as goal

pub returns : goal.returns
returns c = let all : AreUtf8 c.args.self.now = rw (← c.self.view_is) c.self.invariant.utf8 in all
