use Rattle.std.proofs.Common.{[], ◌∙◌, refl, sym}
use Rattle.xs_result_lines.proofs.PlainLemmas.{plain_opened, plain_written}
use Rattle.xs_result_lines.proofs.writer.PyxWriter.start.Goals as goal

pub returns-then-branch-clause-written : goal.returns-then-branch-clause-written
returns-then-branch-clause-written c =
    plain_written c.enter_plain.result c.args.self.now c.args.name.now c.args.behind.now c.args.out.now.items c.append_plain_tag.new.out.items
    (sym c.in_ok-is_plain_tag.ensures ∙ c.if-branch.true) c.in_ok-append_plain_tag.ensures.written

pub returns-then-branch-clause-opened : goal.returns-then-branch-clause-opened
returns-then-branch-clause-opened c =
    plain_opened c.enter_plain.result c.args.self.now c.enter_plain.new.self c.args.name.now c.args.behind.now []
    (sym c.in_ok-is_plain_tag.ensures ∙ c.if-branch.true) refl c.enter_plain.ensures
