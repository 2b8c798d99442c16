use Rattle.std.proofs.Common.{◌≡◌, ◌+◌, ◌*◌, ◌-◌}
use Rattle.std.specs.Vec.Iter.{into_iter_items, into_iter_len}
use Rattle.xs_parser.specs.steps.Cuttings.{cutting_of, resumed_by}
use Rattle.xs_parser.specs.steps.Parts.{parts_of}
use Rattle.xs_parser.specs.Reading.{level, operand}
use Rattle.xs_parser.proofs.part.+levels.Given as goal

abbrev pub decreases-level : goal.decreases-level
decreases-level l = 4 * l.n

abbrev pub decreases-operand : goal.decreases-operand
decreases-operand l = 4 * l.n + 1

abbrev pub decreases-behind_operator : goal.decreases-behind_operator
decreases-behind_operator l = 4 * l.n + 2

abbrev pub decreases-gather_all : goal.decreases-gather_all
decreases-gather_all l = 4 * l.n + 2

abbrev pub decreases-behind_part : goal.decreases-behind_part
decreases-behind_part l = 4 * l.n + 3

abbrev pub invariant-level-loop-part : goal.invariant-level-loop-part
invariant-level-loop-part l =
    level l.n (parts_of l.fn.parts.items) ≡ resumed_by (operand (l.n - 1) (level (l.n - 1))) l.n (cutting_of l.now) (parts_of (into_iter_items l.rest))

abbrev pub decreases-level-loop-part : goal.decreases-level-loop-part
decreases-level-loop-part l = into_iter_len l.rest
