use Rattle.std.proofs.Common.{arith}
use Rattle.xs_tree.specs.Record.{at}
use Rattle.xs_numbering.specs.Passes.{is_flagged}
use Rattle.xs_number_tables.proofs.AlikeLemmas.{groups-few, here-few, next-any, none-seen}
use Rattle.xs_number_tables.proofs.alike.alike_any_numbers.Goals as goal

pub loop-place-init : goal.loop-place-init
loop-place-init c =
    record { numbers = c.new-numbers.ensures.items; seen = none-seen (is_flagged c.args.from.now) c.args.tree.now c.new-seen.result c.new-seen.ensures }

pub group_at-here-requires-clause-few : goal.group_at-here-requires-clause-few
group_at-here-requires-clause-few c =
    omega (arith, c.loop-place.invariant.seen.groups, c.loop-place-test.true, c.len-place-end.ensures.few)

pub level_number-requires-clause-few : goal.level_number-requires-clause-few
level_number-requires-clause-few c =
    let few =
    here-few (is_flagged c.args.from.now) c.args.tree.now c.loop-place.seen c.loop-place.group c.group_at-here.result c.loop-place.place c.at-node.result
    c.at-node.ensures c.loop-place.invariant.seen c.group_at-here.ensures in
    omega (arith, few, c.loop-place-test.true, c.len-place-end.ensures.few)

pub group_after-group-requires-clause-few : goal.group_after-group-requires-clause-few
group_after-group-requires-clause-few c =
    let few =
    groups-few (at c.args.tree.now c.at-node.result) c.loop-place.group c.group_at-here.result c.loop-place.place c.group_at-here.ensures
    c.loop-place.invariant.seen.groups in
    omega (arith, few, c.loop-place-test.true, c.len-place-end.ensures.few)

pub loop-place-preserved : goal.loop-place-preserved
loop-place-preserved c =
    let next =
    next-any (is_flagged c.args.from.now) c.args.tree.now c.loop-place.numbers.items c.push.new.self.items c.loop-place.seen
    c.level_number.new.seen c.loop-place.place c.at-node.result c.loop-place.group c.group_at-here.result c.group_after-group.result
    c.in_ok-number.number c.at-node.ensures c.loop-place.invariant.numbers c.loop-place.invariant.seen c.group_at-here.ensures
    c.in_ok-number.ensures.number c.in_ok-number.ensures.seen c.in_ok-push.ensures.items c.group_after-group.ensures in
    record { numbers = next.numbers; seen = next.seen }
