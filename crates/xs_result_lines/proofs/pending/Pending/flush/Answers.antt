use Rattle.std.proofs.Common.{refl}
use Rattle.xs_result_lines.specs.Kept.{kept}
use Rattle.xs_result_lines.proofs.PendingLemmas.{flushed_opened, flushed_written}
use Rattle.xs_result_lines.proofs.pending.Pending.flush.Goals as goal

pub returns-clause-written : goal.returns-clause-written
returns-clause-written c =
    flushed_written c.args.writer.now c.write.new.writer (kept c.args.self.now) c.args.self.now.text c.args.out.now.items c.write.new.out.items
    c.write-2.new.out.items refl refl c.in_ok-write.ensures.written c.in_ok-write.ensures.opened c.in_ok-write-2.ensures.written

pub returns-clause-opened : goal.returns-clause-opened
returns-clause-opened c =
    flushed_opened c.args.writer.now c.write.new.writer (kept c.args.self.now) refl c.in_ok-write.ensures.opened
