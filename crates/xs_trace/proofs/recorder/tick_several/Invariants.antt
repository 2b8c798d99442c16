use Rattle.std.proofs.Common.{◌≡◌, ◌-◌}
use Rattle.xs_trace.specs.Play.{ticked_by}
use Rattle.xs_trace.proofs.recorder.tick_several.Given as goal

abbrev pub invariant-loop : goal.invariant-loop
invariant-loop g l =
    (ticked_by l.count l.site (g.T.Tally.state l.fn.tally) ≡ ticked_by (l.count - l.counter) l.site (g.T.Tally.state l.tally)) ×
    (g.T.Tally.kept l.tally ≡ g.T.Tally.kept l.fn.tally)
