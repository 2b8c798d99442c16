use Rattle.xs_build.proofs.ElementLemmas.{more_lines}
use Rattle.xs_build.proofs.elements.push_lines.Goals as goal

pub loop-place-preserved : goal.loop-place-preserved
loop-place-preserved c =
    more_lines c.args.lines.now.items c.args.line c.loop-place._place c.loop-place.lines.items c.push.new.self.items
    c.loop-place.invariant c.in_ok-push.ensures.items
