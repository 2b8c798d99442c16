use Rattle.std.proofs.Common.{◌∙◌, rules, sym}
use Rattle.xs_result_lines.specs.Bindings.{spaces_in, with_spaces}
use Rattle.xs_result_lines.proofs.TagLemmas.{spaces_step}
use Rattle.xs_result_lines.proofs.tag_bindings.TagBindings.with_spaces.Goals as goal

pub loop-event-preserved : goal.loop-event-preserved
loop-event-preserved c =
    spaces_step c.loop-event.bindings c.in_ok-bindings.bindings (with_spaces c.args.self (spaces_in c.args.added.now)) c.in-Some.event.now
    c.loop-event.rest.now c.in-Some.more.now (search rules) (sym c.is_in_tag.ensures ∙ c.if-not-is_in_tag.false) c.in_ok-bindings.ensures
    c.loop-event.invariant
