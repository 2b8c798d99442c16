use Rattle.xs_result_lines.proofs.ResolveLemmas.{names_resolve}
use Rattle.xs_result_lines.proofs.laws.names_resolve.Goals as goal

pub returns : goal.returns
returns c = names_resolve
