use Rattle.xs_result_lines.specs.Kept.{kept}
use Rattle.xs_result_lines.proofs.StreamLemmas.{stream_start}
use Rattle.xs_result_lines.proofs.stream.PyxStream.new.Goals as goal

pub returns : goal.returns
returns c = stream_start (kept c.new.result) c.in_ok-new.field-0 c.new.ensures c.in_ok-new.ensures
