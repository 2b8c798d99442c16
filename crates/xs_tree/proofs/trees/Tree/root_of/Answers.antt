-- The node after the end of a document is the next root.
use Rattle.std.proofs.Common.{arith, sym}
use Rattle.xs_tree.proofs.RootLemmas.{root_of-inside}
use Rattle.xs_tree.proofs.trees.Tree.root_of.Goals as goal

pub returns-clause-root : goal.returns-clause-root
returns-clause-root c =
    sym (root_of-inside c.args.self.now c.loop-end.root c.loop-end.end c.args.n c.loop-end.invariant.3 c.loop-end.invariant.1 c.loop-end.invariant.2
    c.loop-end.invariant.0 (omega (arith, c.loop-end-test.false, c.place.ensures)))
