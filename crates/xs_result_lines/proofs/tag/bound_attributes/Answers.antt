use Rattle.std.proofs.Common.{◌∙◌, rules, sym}
use Rattle.xs_result_lines.specs.Bindings.{attributes_in}
use Rattle.xs_result_lines.specs.steps.Tags.{comes_to}
use Rattle.xs_result_lines.proofs.TagLemmas.{attributes_step}
use Rattle.xs_result_lines.proofs.tag.bound_attributes.Goals as goal

pub loop-event-preserved : goal.loop-event-preserved
loop-event-preserved c =
    attributes_step (comes_to c.loop-event.tag) (comes_to c.in_ok-tag.tag)
    (comes_to (record { bindings = c.args.bindings; lines = c.new.result }) (attributes_in c.args.added.now)) c.in-Some.event.now c.loop-event.rest.now
    c.in-Some.more.now (search rules) (sym c.is_in_tag.ensures ∙ c.if-not-is_in_tag.false) c.in_ok-tag.ensures c.loop-event.invariant
