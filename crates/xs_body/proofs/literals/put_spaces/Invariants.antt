use Rattle.std.proofs.Common.{◌≡◌, length}
use Rattle.xs_body.specs.steps.Making.{spaces_steps}
use Rattle.xs_body.proofs.literals.put_spaces.Given as goal

-- what is said of all is said of those that are left
abbrev pub invariant-loop-space : goal.invariant-loop-space
invariant-loop-space g l =
    (spaces_steps l.aliases l.site l.spaces (g.R.Tally.state l.fn.recorder) ≡ spaces_steps l.aliases l.site l.left (g.R.Tally.state l.recorder)) ×
    (g.R.Tally.kept l.recorder ≡ g.R.Tally.kept l.fn.recorder)

abbrev pub decreases-loop-space : goal.decreases-loop-space
decreases-loop-space g l = length l.left
