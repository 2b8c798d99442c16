use Rattle.std.proofs.Common.{◌≡◌, length}
use Rattle.xs_body.specs.steps.Frames.{last}
use Rattle.xs_body.specs.steps.Making.{attributes_steps}
use Rattle.xs_body.proofs.evaluator.Evaluator.put_attributes.Given as goal

-- what is said of all is said of those that are left
abbrev pub invariant-loop-attribute : goal.invariant-loop-attribute
invariant-loop-attribute g l =
    (attributes_steps l.fn.self.world l.all.site l.all.scope.focus (last l.all.scope.seen l.fn.self.slots) l.all.attributes.now
    (g.R.Tally.state l.fn.recorder)
    ≡ attributes_steps l.fn.self.world l.all.site l.all.scope.focus (last l.all.scope.seen l.fn.self.slots) l.left (g.R.Tally.state l.recorder)) ×
    ((g.R.Tally.kept l.recorder ≡ g.R.Tally.kept l.fn.recorder) × (l.self ≡ l.fn.self))

abbrev pub decreases-loop-attribute : goal.decreases-loop-attribute
decreases-loop-attribute g l = length l.left
