use Rattle.xs_numbering.specs.Passes.{is_flagged}
use Rattle.xs_numbering.proofs.PassLemmas.{next_number}
use Rattle.xs_numbering.proofs.passes.any_numbers.Goals as goal

pub loop-place-preserved : goal.loop-place-preserved
loop-place-preserved c =
    let next =
    next_number (is_flagged c.args.counts.now) (is_flagged c.args.from.now) c.args.tree.now c.loop-place.numbers.items c.push.new.self.items
    c.loop-place.place c.at-node.result c.loop-place.carried c.before_node-before.result c.counted_on.result c.carried_on-carried.result
    c.is_flagged.result c.at-node.ensures c.loop-place.invariant.numbers c.loop-place.invariant.carried c.loop-place.invariant.few
    c.before_node-before.ensures c.is_flagged.ensures c.counted_on.ensures c.in_ok-push.ensures.items c.carried_on-carried.ensures in
    record { numbers = next.numbers; carried = next.carried; few = next.few }
