use Rattle.std.proofs.Common.{◌≡◌}
use Rattle.std.specs.Vec.Iter.{into_iter_items, into_iter_len}
use Rattle.xs_parser.specs.Reading.{expr, read, tree_by}
use Rattle.xs_parser.specs.steps.States.{kept, state_of}
use Rattle.xs_parser.proofs.read.read.Given as goal

abbrev pub invariant-loop-token : goal.invariant-loop-token
invariant-loop-token l = tree_by (kept l.is_deep) l.fn.tokens.items ≡ read (expr (kept l.is_deep)) (into_iter_items l.rest) (state_of l.now)

abbrev pub decreases-loop-token : goal.decreases-loop-token
decreases-loop-token l = into_iter_len l.rest
