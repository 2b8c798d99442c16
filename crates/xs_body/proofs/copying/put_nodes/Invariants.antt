use Rattle.std.proofs.Common.{◌≡◌, ◌<◌, All, length}
use Rattle.xs_body.specs.steps.Making.{nodes_steps}
use Rattle.xs_body.proofs.copying.put_nodes.Given as goal

-- what is said of all is said of those that are left, which are in the tree
abbrev pub invariant-loop-node : goal.invariant-loop-node
invariant-loop-node g l =
    ((nodes_steps l.tree l.site l.nodes (g.R.Tally.state l.fn.recorder) ≡ nodes_steps l.tree l.site l.left (g.R.Tally.state l.recorder)) ×
    (g.R.Tally.kept l.recorder ≡ g.R.Tally.kept l.fn.recorder)) ×
    All (λ n. n < length l.tree) l.left

abbrev pub decreases-loop-node : goal.decreases-loop-node
decreases-loop-node g l = length l.left
