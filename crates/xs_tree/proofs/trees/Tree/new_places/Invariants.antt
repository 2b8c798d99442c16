use Rattle.xs_tree.proofs.StrippedEntryLemmas.{ArePlacesBefore}
use Rattle.xs_tree.proofs.trees.Tree.new_places.Given as goal

abbrev pub invariant-loop-place : goal.invariant-loop-place
invariant-loop-place l = ArePlacesBefore l.flagged l.self l.places.items l.next l.place
