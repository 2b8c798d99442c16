use Rattle.xs_result.specs.Building.{taken}
use Rattle.std.proofs.Common.{refl}
use Rattle.xs_result_lines.specs.Kept.{kept}
use Rattle.xs_result_lines.proofs.PendingLemmas.{added_is, none_closed, nothing_opened, nothing_written}
use Rattle.xs_result_lines.proofs.StreamLemmas.{on_ok}
use Rattle.xs_result_lines.proofs.pending.Pending.add.Goals as goal

pub returns-clause-state : goal.returns-clause-state
returns-clause-state c =
    on_ok c.add.result (λ same. added_is (kept c.args.self.now) c.add.new.self c.args.event.now c.requires.inside same refl) c.add.ensures

pub returns-clause-written : goal.returns-clause-written
returns-clause-written c =
    on_ok c.add.result (λ same. nothing_written c.args.writer.now (taken (kept c.args.self.now) c.args.event.now).closed c.args.out.now.items
    (none_closed (kept c.args.self.now) c.args.event.now c.requires.inside refl)) c.add.ensures

pub returns-clause-opened : goal.returns-clause-opened
returns-clause-opened c =
    on_ok c.add.result (λ same. nothing_opened c.args.writer.now (taken (kept c.args.self.now) c.args.event.now).closed
    (none_closed (kept c.args.self.now) c.args.event.now c.requires.inside refl)) c.add.ensures
