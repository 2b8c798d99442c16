use Rattle.xs_pattern.specs.Above.{is_led}
use Rattle.xs_pattern.proofs.AboveLemmas.{table-more}
use Rattle.xs_pattern.proofs.above.led.Goals as goal

pub loop-place-preserved : goal.loop-place-preserved
loop-place-preserved c =
    table-more (is_led c.args.axis c.args.test.now c.args.table.now c.args.tree.now)
    c.loop-place.found.items c.push.new.self.items c.loop-place.place c.at.result
    c.is_led.result c.in_ok-push.ensures.items c.loop-place.invariant c.is_led.ensures c.at.ensures
