use Rattle.std.proofs.Common.{sym}
use Rattle.xs_result_lines.specs.steps.Pending.{begun, lent}
use Rattle.xs_result_lines.proofs.PendingLemmas.{simple_begun, tag_opened, tag_written}
use Rattle.xs_result_lines.proofs.StreamLemmas.{on_ok}
use Rattle.xs_result_lines.proofs.writer.PyxWriter.unordered_tag.Goals as goal

pub returns-clause-written : goal.returns-clause-written
returns-clause-written c =
    let is = sym (simple_begun c.args.tag.now c.args.name.now (lent c.args.added.now) c.requires.whole c.requires.simple) in
    on_ok c.bound_tag.result (λ written. tag_written c.args.self.now _ (begun c.args.tag.now).tag c.args.out.now.items c.bound_tag.new.out.items is written)
    c.bound_tag.ensures.written

pub returns-clause-opened : goal.returns-clause-opened
returns-clause-opened c =
    let is = sym (simple_begun c.args.tag.now c.args.name.now (lent c.args.added.now) c.requires.whole c.requires.simple) in
    on_ok c.bound_tag.result (λ opened. tag_opened c.args.self.now c.bound_tag.new.self _ (begun c.args.tag.now).tag is opened) c.bound_tag.ensures.opened
