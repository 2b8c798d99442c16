use Rattle.std.proofs.Common.{◌++◌, ◌∙◌, rules, sym}
use Rattle.xs_result_lines.specs.Bindings.{attributes_in}
use Rattle.xs_result_lines.specs.Lines.{bytes_of}
use Rattle.xs_result_lines.specs.steps.InForce.{own_lines}
use Rattle.xs_result_lines.proofs.StreamLemmas.{kept-twice}
use Rattle.xs_result_lines.proofs.TagLemmas.{attributes_step}
use Rattle.xs_result_lines.proofs.name_lines.append_attributes.Goals as goal

pub loop-event-preserved : goal.loop-event-preserved
loop-event-preserved c = record {
  whole =
      attributes_step (λ more. c.loop-event.out.items ++ bytes_of (own_lines more)) (λ more. c.append_event.new.out.items ++ bytes_of (own_lines more))
      (c.args.out.now.items ++ bytes_of (own_lines (attributes_in c.args.behind.now))) c.in-Some.event.now c.loop-event.rest.now c.in-Some.more.now
      (search rules) (sym c.is_in_tag.ensures ∙ c.if-not-is_in_tag.false) c.in_ok-append_event.ensures.written c.loop-event.invariant.whole;
  front = kept-twice c.args.out.now.items c.loop-event.out.items c.append_event.new.out.items c.loop-event.invariant.front c.append_event.ensures.kept;
  utf8 = λ u. c.append_event.ensures.utf8 (c.loop-event.invariant.utf8 u);
}
