use Rattle.std.proofs.Common.{◌≡◌, ◌++◌, map, take}
use Rattle.xs_core.proofs.places.copy_dropped.Given as goal

abbrev pub invariant-loop-piece : goal.invariant-loop-piece
invariant-loop-piece l = l.places.items ≡ l.initial.places.items ++ map (λ h. h.place) (take l.piece-index l.dropped)
