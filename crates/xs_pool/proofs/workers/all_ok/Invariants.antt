use Rattle.std.proofs.Common.{◌≡◌, ◌++◌, map, reverse, length, Ok}
use Rattle.xs_pool.proofs.workers.all_ok.Given as goal

abbrev pub invariant-loop-one : goal.invariant-loop-one
invariant-loop-one g l = map Ok l.all.items ++ reverse l.results.items ≡ l.fn.results.items

abbrev pub decreases-loop-one : goal.decreases-loop-one
decreases-loop-one g l = length l.results.items
