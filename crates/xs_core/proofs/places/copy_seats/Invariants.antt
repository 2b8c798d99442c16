use Rattle.std.proofs.Common.{◌≡◌, ◌++◌, take}
use Rattle.std.specs.List.{flat_map}
use Rattle.xs_core.specs.Answer.{place_in}
use Rattle.xs_core.specs.Machine.{Worker}
use Rattle.xs_core.proofs.places.copy_seats.Given as goal

abbrev pub invariant-loop-seat : goal.invariant-loop-seat
invariant-loop-seat l = l.places.items ≡ l.initial.places.items ++ flat_map (λ (w : Worker). w.deque ++ place_in w.hand) (take l.seat-index l.seats)
