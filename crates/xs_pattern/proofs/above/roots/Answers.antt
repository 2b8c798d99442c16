use Rattle.xs_pattern.specs.Above.{is_root_at}
use Rattle.xs_pattern.proofs.AboveLemmas.{table-more}
use Rattle.xs_pattern.proofs.above.roots.Goals as goal

pub loop-place-preserved : goal.loop-place-preserved
loop-place-preserved c =
    table-more (is_root_at c.args.tree.now) c.loop-place.table.items c.push.new.self.items c.loop-place.place c.at.result
    c.is_root.result c.in_ok-push.ensures.items c.loop-place.invariant c.is_root.ensures c.at.ensures
