use Rattle.std.proofs.Common.{◌∙◌, ◌+◌, ◌<◌, ap, arith, drop, length, sym}
use Rattle.xs_result_lines.specs.Bindings.{spaces_in, with_spaces}
use Rattle.xs_result_lines.specs.steps.Pending.{lent}
use Rattle.xs_result_lines.proofs.PendingLemmas.{next}
use Rattle.xs_result_lines.proofs.TagLemmas.{spaces_step}
use Rattle.xs_result_lines.proofs.tag_bindings.TagBindings.with_lent_spaces.Goals as goal

pub loop-event-preserved : goal.loop-event-preserved
loop-event-preserved c =
    let e = c.event-item.result in
    let i = c.loop-event.event-index in
    let added = c.args.added.now in
    let lt : i < length added = omega arith in
    spaces_step c.loop-event.bindings c.in_ok-bindings.bindings (with_spaces c.args.self (spaces_in (lent added))) e.now (lent (drop i added))
    (lent (drop (i + 1) added)) (ap lent (next added i e lt c.event-item.is)) (sym c.is_in_tag.ensures ∙ c.if-not-is_in_tag.false)
    c.in_ok-bindings.ensures c.loop-event.invariant
