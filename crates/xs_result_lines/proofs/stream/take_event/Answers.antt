use Rattle.std.proofs.Common.{refl}
use Rattle.xs_result.specs.Building.{taken}
use Rattle.xs_result_lines.specs.Kept.{kept}
use Rattle.xs_result_lines.proofs.StreamLemmas.{stream_step}
use Rattle.xs_result_lines.proofs.stream.take_event.Goals as goal

pub returns-clause-taken : goal.returns-clause-taken
returns-clause-taken c =
    let now = taken (kept c.args.pending.now) c.args.event.now in
    λ old es h. stream_step (kept c.args.pending.now) now (kept c.take.new.self) c.args.writer.now c.take.new.writer c.args.out.now.items
    c.take.new.out.items now.closed
    c.args.event.now refl refl c.in_ok-take.ensures.state c.in_ok-take.ensures.written c.in_ok-take.ensures.opened old es h
