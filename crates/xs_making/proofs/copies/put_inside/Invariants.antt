use Rattle.std.proofs.Common.{◌≡◌, ◌+◌, ◌-◌, ◌*◌, length}
use Rattle.xs_making.proofs.WalkLemmas.{IsCopying}
use Rattle.xs_making.proofs.copies.put_inside.Given as goal

-- the children of one node inside are being put
abbrev pub invariant-loop-child : goal.invariant-loop-child
invariant-loop-child g l =
    IsCopying l.site l.tree l.node (g.R.Tally.state l.initial.recorder) (g.R.Tally.state l.recorder) l.holder l.from ×
    (g.R.Tally.kept l.recorder ≡ g.R.Tally.kept l.initial.recorder)

-- what is left of the tree, and where it is the same, the node that is gone up from
abbrev pub decreases-loop-child : goal.decreases-loop-child
decreases-loop-child g l = (length l.tree - l.from) * (length l.tree + 1) + l.holder
