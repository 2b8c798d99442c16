use Rattle.std.proofs.Common.{◌++◌, ◌∙◌, ◌+◌, ◌<◌, ap, arith, drop, length, sym}
use Rattle.xs_result_lines.specs.Bindings.{attributes_in}
use Rattle.xs_result_lines.specs.Lines.{bytes_of}
use Rattle.xs_result_lines.specs.steps.InForce.{own_lines}
use Rattle.xs_result_lines.specs.steps.Pending.{lent}
use Rattle.xs_result_lines.proofs.PendingLemmas.{next}
use Rattle.xs_result_lines.proofs.StreamLemmas.{kept-twice}
use Rattle.xs_result_lines.proofs.TagLemmas.{attributes_step}
use Rattle.xs_result_lines.proofs.lent.append_lent_attributes.Goals as goal

pub loop-event-preserved : goal.loop-event-preserved
loop-event-preserved c =
    let e = c.event-item.result in
    let i = c.loop-event.event-index in
    let added = c.args.added.now in
    let lt : i < length added = omega arith in
    record {
      whole =
          attributes_step (λ more. c.loop-event.out.items ++ bytes_of (own_lines more)) (λ more. c.append_event.new.out.items ++ bytes_of (own_lines more))
          (c.args.out.now.items ++ bytes_of (own_lines (attributes_in (lent added)))) e.now (lent (drop i added)) (lent (drop (i + 1) added))
          (ap lent (next added i e lt c.event-item.is)) (sym c.is_in_tag.ensures ∙ c.if-not-is_in_tag.false) c.in_ok-append_event.ensures.written
          c.loop-event.invariant.whole;
      front = kept-twice c.args.out.now.items c.loop-event.out.items c.append_event.new.out.items c.loop-event.invariant.front c.append_event.ensures.kept;
      utf8 = λ u. c.append_event.ensures.utf8 (c.loop-event.invariant.utf8 u);
    }
