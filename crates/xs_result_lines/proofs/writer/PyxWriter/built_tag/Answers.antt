use Rattle.std.proofs.Common.{◌∙◌}
use Rattle.xs_result_lines.specs.steps.Pending.{begun}
use Rattle.xs_result_lines.proofs.PendingLemmas.{flushed_tag, tag_opened, tag_written}
use Rattle.xs_result_lines.proofs.StreamLemmas.{on_ok}
use Rattle.xs_result_lines.proofs.writer.PyxWriter.built_tag.Goals as goal

pub returns-clause-written : goal.returns-clause-written
returns-clause-written c =
    let is = c.events.ensures.events ∙ c.in_ok-whole.ensures ∙ flushed_tag (begun c.args.tag.now) c.requires.alone in
    on_ok c.append.result (λ written. tag_written c.args.self.now c.events.result.now (begun c.args.tag.now).tag c.args.out.now.items
    c.append.new.out.items is written) c.append.ensures.written

pub returns-clause-opened : goal.returns-clause-opened
returns-clause-opened c =
    let is = c.events.ensures.events ∙ c.in_ok-whole.ensures ∙ flushed_tag (begun c.args.tag.now) c.requires.alone in
    on_ok c.append.result (λ opened. tag_opened c.args.self.now c.append.new.self c.events.result.now (begun c.args.tag.now).tag is opened)
    c.append.ensures.opened
