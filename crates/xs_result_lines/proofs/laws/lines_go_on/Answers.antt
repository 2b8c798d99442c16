use Rattle.xs_result_lines.proofs.LineLemmas.{elements_go_on, lines_go_on}
use Rattle.xs_result_lines.proofs.laws.lines_go_on.Goals as goal

pub returns : goal.returns
returns c = record { lines = lines_go_on; elements = elements_go_on }
