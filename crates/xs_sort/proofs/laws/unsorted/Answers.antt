use Rattle.xs_sort.proofs.UnsortedLemmas.{unsorted}
use Rattle.xs_sort.proofs.laws.unsorted.Goals as goal

pub returns : goal.returns
returns c = unsorted
