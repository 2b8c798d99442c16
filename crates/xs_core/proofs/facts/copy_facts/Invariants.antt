use Rattle.std.proofs.Common.{◌≡◌, take}
use Rattle.xs_core.proofs.facts.copy_facts.Given as goal

abbrev pub invariant-loop-piece : goal.invariant-loop-piece
invariant-loop-piece l = l.copies.items ≡ take l.piece-index l.facts
