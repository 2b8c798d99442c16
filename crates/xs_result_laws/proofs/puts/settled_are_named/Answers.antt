use Rattle.xs_result_laws.proofs.GlobalLemmas as global
use Rattle.xs_result_laws.proofs.puts.settled_are_named.Goals as goal

pub returns : goal.returns
returns c = global.settled_are_named c.names_are_well.ensures c.copies_are_well.ensures
