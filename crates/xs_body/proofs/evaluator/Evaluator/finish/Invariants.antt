use Rattle.std.proofs.Common.{◌≡◌}
use Rattle.xs_body.specs.steps.Frames.{stack_reported}
use Rattle.xs_body.proofs.evaluator.Evaluator.finish.Given as goal

-- what the whole reports from the start is what it reports from here
abbrev pub invariant-loop-turn : goal.invariant-loop-turn
invariant-loop-turn g l =
    (l.self.world ≡ l.fn.self.world) ×
    ((stack_reported l.fn.self (g.R.Tally.state l.fn.recorder) ≡ stack_reported l.self (g.R.Tally.state l.recorder)) ×
    (g.R.Tally.kept l.recorder ≡ g.R.Tally.kept l.fn.recorder))
