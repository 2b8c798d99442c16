use Rattle.std.proofs.Common.{arith}
use Rattle.xs_number_tables.specs.steps.Alike.{likeness}
use Rattle.xs_number_tables.proofs.AlikeLemmas.{held-few-at, next-alike}
use Rattle.xs_number_tables.proofs.alike.alike_numbers.Goals as goal

pub loop-place-init : goal.loop-place-init
loop-place-init c = record { numbers = c.new-numbers.ensures.items; seen = λ p r. c.new-seen.ensures p (likeness r) }

pub sibling_number-requires-clause-few : goal.sibling_number-requires-clause-few
sibling_number-requires-clause-few c =
    let few =
    held-few-at c.args.tree.now c.loop-place.seen c.loop-place.place c.at.result c.at.ensures c.loop-place.invariant.seen in
    omega (arith, few, c.loop-place-test.true, c.len-place-end.ensures.few)

pub loop-place-preserved : goal.loop-place-preserved
loop-place-preserved c =
    let next =
    next-alike c.args.tree.now c.loop-place.numbers.items c.push.new.self.items c.loop-place.seen c.sibling_number.new.seen c.loop-place.place
    c.at.result c.in_ok-number.number c.at.ensures c.loop-place.invariant.numbers c.loop-place.invariant.seen
    c.in_ok-number.ensures.number c.in_ok-number.ensures.seen c.in_ok-push.ensures.items in
    record { numbers = next.numbers; seen = next.seen }
