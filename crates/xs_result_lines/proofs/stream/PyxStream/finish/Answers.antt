use Rattle.std.proofs.Common.{refl}
use Rattle.xs_result.specs.Building.{flushed}
use Rattle.xs_result_lines.specs.Kept.{kept}
use Rattle.xs_result_lines.proofs.StreamLemmas.{on_ok, stream_end}
use Rattle.xs_result_lines.proofs.stream.PyxStream.finish.Goals as goal

pub returns-clause-written : goal.returns-clause-written
returns-clause-written c =
    on_ok c.flush.result (λ written old es h. stream_end (kept c.args.self.pending) c.args.self.writer c.args.out.now.items c.flush.new.out.items
    (flushed (kept c.args.self.pending)) refl written old es h) c.flush.ensures.written
