use Rattle.std.proofs.Common.{◌≡◌, length}
use Rattle.xs_trace.specs.Run.{limited}
use Rattle.xs_sheet.specs.declared.body.Choice.{out-Choice}
use Rattle.xs_body.specs.steps.Frames.{chosen, chosen_of, last}
use Rattle.xs_body.proofs.evaluator.Evaluator.chosen.Given as goal

-- what is chosen of all is chosen of those that are left
abbrev pub invariant-loop-when : goal.invariant-loop-when
invariant-loop-when g l =
    (limited l.site (chosen l.choice l.self.world l.scope.focus (last l.scope.seen l.self.slots)) (g.T.Tally.state l.fn.tally)
    ≡ limited l.site (chosen_of l.left (out-Choice l.choice).otherwise l.self.world l.scope.focus (last l.scope.seen l.self.slots)) (g.T.Tally.state l.tally)) ×
    (g.T.Tally.kept l.tally ≡ g.T.Tally.kept l.fn.tally)

abbrev pub decreases-loop-when : goal.decreases-loop-when
decreases-loop-when g l = length l.left
