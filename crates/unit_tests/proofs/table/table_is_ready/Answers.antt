use Rattle.unit_tests.proofs.TableLemmas.{table-ready}
use Rattle.unit_tests.proofs.table.table_is_ready.Goals as goal

pub returns : goal.returns
returns c = table-ready
