use Rattle.std.proofs.Common.{◌≡◌, ◌++◌, take}
use Rattle.xs_core.proofs.places.copy_places.Given as goal

abbrev pub invariant-loop-place : goal.invariant-loop-place
invariant-loop-place l = l.copies.items ≡ l.initial.copies.items ++ take l.place-index l.places
