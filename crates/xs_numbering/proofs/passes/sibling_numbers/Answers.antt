use Rattle.std.proofs.Common.{◌<◌, length, refl, arith}
use Rattle.xs_tree.specs.Record.{at}
use Rattle.xs_numbering.specs.Passes.{held_by, is_flagged}
use Rattle.xs_numbering.proofs.SiblingLemmas.{held-within, next_sibling, seen-few, seen-long}
use Rattle.xs_numbering.proofs.passes.sibling_numbers.Goals as goal

pub next_number-number-requires-clause-few : goal.next_number-number-requires-clause-few
next_number-number-requires-clause-few c =
    let rs = c.args.tree.now in
    let lt : c.at-node.result < length rs = omega (arith, c.at-node.ensures, c.loop-place-test.true, c.len-place-end.ensures.count) in
    let few =
    seen-few (is_flagged c.args.counts.now) rs c.loop-place.seen.items c.loop-place.place (held_by (at rs c.at-node.result))
    c.loop-place.invariant.seen (held-within rs c.at-node.result c.len.ensures.tree lt) in
    omega (arith, few, c.loop-place-test.true, c.len-place-end.ensures.few)

pub loop-place-preserved : goal.loop-place-preserved
loop-place-preserved c =
    let rs = c.args.tree.now in
    let lt : c.at-node.result < length rs = omega (arith, c.at-node.ensures, c.loop-place-test.true, c.len-place-end.ensures.count) in
    let next =
    next_sibling (is_flagged c.args.counts.now) rs c.loop-place.numbers.items c.push.new.self.items c.loop-place.seen.items
    c.next_number-number.new.seen.items c.loop-place.place c.at-node.result c.next_number-number.result
    (held_by (at rs c.at-node.result)) c.is_flagged.result c.len.ensures.tree lt c.at-node.ensures c.loop-place.invariant.numbers
    c.loop-place.invariant.seen c.loop-place.invariant.len refl c.is_flagged.ensures c.next_number-number.ensures.number
    c.in_ok-push.ensures.items c.next_number-number.ensures.seen in
    record {
      numbers = next.numbers;
      seen = next.seen;
      len =
          seen-long c.is_flagged.result (held_by (at rs c.at-node.result)) c.loop-place.seen.items c.next_number-number.new.seen.items
          (length rs) c.next_number-number.ensures.seen c.loop-place.invariant.len;
    }
