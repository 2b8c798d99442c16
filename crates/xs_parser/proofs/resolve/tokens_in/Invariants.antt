use Rattle.std.proofs.Common.{◌≡◌, ◌++◌}
use Rattle.std.specs.Vec.Iter.{into_iter_items, into_iter_len}
use Rattle.xs_parser.specs.Faults.{tokens_in}
use Rattle.xs_parser.proofs.resolve.tokens_in.Given as goal

abbrev pub invariant-loop-placed : goal.invariant-loop-placed
invariant-loop-placed l = l.out.items ++ tokens_in l.scope.pairs.items (into_iter_items l.rest) ≡ tokens_in l.scope.pairs.items l.fn.lexemes.items

abbrev pub decreases-loop-placed : goal.decreases-loop-placed
decreases-loop-placed l = into_iter_len l.rest
