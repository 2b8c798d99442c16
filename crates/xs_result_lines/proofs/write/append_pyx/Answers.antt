use Rattle.std.proofs.Common.{map}
use Rattle.xs_result_lines.proofs.StreamLemmas.{on_ok}
use Rattle.xs_result_lines.proofs.write.append_pyx.Goals as goal

pub returns-clause-lines : goal.returns-clause-lines
returns-clause-lines g c =
    let reported = c.in_ok-stream.ensures.taken in
    on_ok c.finish.result (λ written. (reported.0, reported.2, written c.args.out.now.items (map (λ e. e.now) reported.0) reported.1)) c.finish.ensures.written
