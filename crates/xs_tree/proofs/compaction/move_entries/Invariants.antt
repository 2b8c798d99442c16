use Rattle.std.proofs.Common.{get_or, length}
use Rattle.xs_tree.specs.steps.Compaction.{HaveMoved, entry_after}
use Rattle.xs_tree.proofs.compaction.move_entries.Given as goal

abbrev pub invariant-loop-place : goal.invariant-loop-place
invariant-loop-place l =
    HaveMoved (entry_after l.places (get_or l.places (length l.initial.entries) 0)) l.places l.initial.entries l.entries l.place
