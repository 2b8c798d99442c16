use Rattle.xs_tree.specs.steps.Compaction.{HaveMoved, same}
use Rattle.xs_tree.proofs.compaction.move_numbers.Given as goal

abbrev pub invariant-loop-place : goal.invariant-loop-place
invariant-loop-place l = HaveMoved same l.places l.initial.numbers l.numbers l.place
