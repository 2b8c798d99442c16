use Rattle.std.proofs.Common.{◌≡◌, ◌-◌, ◌≤◌, length}
use Rattle.xs_tree.specs.declared.kinds.Kind.TheVariants.{Root}
use Rattle.xs_tree.specs.Record.{at}
use Rattle.xs_tree.specs.Shape.{EndsAt, IsTree}
use Rattle.xs_tree.proofs.trees.Tree.root_of.Given as goal

-- a root that is not after the node, and where its document ends
abbrev pub invariant-loop-end : goal.invariant-loop-end
invariant-loop-end l = (l.root ≤ l.fn.n) × ((at l.self l.root).kind ≡ Root) × EndsAt l.self l.root l.end × IsTree l.self

abbrev pub decreases-loop-end : goal.decreases-loop-end
decreases-loop-end l = length l.self - l.end
