use Rattle.xs_pattern.specs.Above.{is_below}
use Rattle.xs_pattern.proofs.AboveLemmas.{table-more}
use Rattle.xs_pattern.proofs.above.below.Goals as goal

pub loop-place-preserved : goal.loop-place-preserved
loop-place-preserved c =
    table-more (is_below c.args.table.now c.args.tree.now) c.loop-place.found.items c.push.new.self.items c.loop-place.place c.at.result
    c.is_below-is_found.result c.in_ok-push.ensures.items c.loop-place.invariant c.is_below-is_found.ensures c.at.ensures
