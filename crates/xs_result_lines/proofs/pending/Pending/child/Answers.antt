use Rattle.std.proofs.Common.{[], ◌∷◌}
use Rattle.xs_result.specs.Building.{flushed}
use Rattle.xs_result_lines.specs.Kept.{kept}
use Rattle.xs_result_lines.proofs.PendingLemmas.{two_opened, two_written}
use Rattle.xs_result_lines.proofs.pending.Pending.child.Goals as goal

pub returns-clause-written : goal.returns-clause-written
returns-clause-written c =
    two_written c.args.writer.now c.flush.new.writer (flushed (kept c.args.self.now)) (c.args.event.now ∷ []) c.args.out.now.items c.flush.new.out.items
    c.one.new.out.items c.requires.outside c.in_ok-flush.ensures.written c.in_ok-flush.ensures.opened c.in_ok-one.ensures.written

pub returns-clause-opened : goal.returns-clause-opened
returns-clause-opened c =
    two_opened c.args.writer.now c.flush.new.writer c.one.new.self (flushed (kept c.args.self.now)) (c.args.event.now ∷ []) c.requires.outside
    c.in_ok-flush.ensures.opened c.in_ok-one.ensures.opened
