use Rattle.xs_result_lines.specs.steps.Pending.{lent}
use Rattle.xs_result_lines.proofs.PendingLemmas.{plain_tag_opened, plain_tag_written}
use Rattle.xs_result_lines.proofs.StreamLemmas.{on_ok}
use Rattle.xs_result_lines.proofs.writer.PyxWriter.plain_tag.Goals as goal

pub returns-clause-written : goal.returns-clause-written
returns-clause-written c =
    on_ok c.enter_plain.result (λ entered. plain_tag_written c.args.self.now c.args.name.now (lent c.args.added.now) c.args.out.now.items
    c.append_lent_tag.new.out.items c.requires.plain c.requires.simple c.in_ok-append_lent_tag.ensures.written) c.enter_plain.ensures

pub returns-clause-opened : goal.returns-clause-opened
returns-clause-opened c =
    on_ok c.enter_plain.result (λ entered. plain_tag_opened c.args.self.now c.enter_plain.new.self c.args.name.now (lent c.args.added.now)
    c.requires.plain c.requires.simple entered) c.enter_plain.ensures
