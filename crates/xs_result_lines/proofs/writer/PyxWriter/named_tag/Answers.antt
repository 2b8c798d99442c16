use Rattle.std.proofs.Common.{sym}
use Rattle.xs_result_lines.specs.steps.Pending.{begun, lent}
use Rattle.xs_result_lines.proofs.PendingLemmas.{simple_begun, tag_opened, tag_written}
use Rattle.xs_result_lines.proofs.StreamLemmas.{on_ok}
use Rattle.xs_result_lines.proofs.writer.PyxWriter.named_tag.Goals as goal

pub returns-then-branch-clause-written : goal.returns-then-branch-clause-written
returns-then-branch-clause-written c =
    let is = sym (simple_begun c.args.tag.now c.args.name.now (lent c.args.added.now) c.requires.whole
    (c.in_ok-is_plain_lent.ensures.simple c.if-branch.true)) in
    on_ok c.plain_tag.result (λ written. tag_written c.args.self.now _ (begun c.args.tag.now).tag c.args.out.now.items c.plain_tag.new.out.items is written)
    c.plain_tag.ensures.written

pub returns-then-branch-clause-opened : goal.returns-then-branch-clause-opened
returns-then-branch-clause-opened c =
    let is = sym (simple_begun c.args.tag.now c.args.name.now (lent c.args.added.now) c.requires.whole
    (c.in_ok-is_plain_lent.ensures.simple c.if-branch.true)) in
    on_ok c.plain_tag.result (λ opened. tag_opened c.args.self.now c.plain_tag.new.self _ (begun c.args.tag.now).tag is opened) c.plain_tag.ensures.opened
