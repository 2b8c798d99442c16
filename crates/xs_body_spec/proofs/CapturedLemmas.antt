-- What captured content does besides its value.
use Rattle.std.proofs.Common.{◌≡◌, ◌+◌, [], ◌∷◌, ◌++◌, refl, ap, arith}
use Rattle.xs_trace.specs.Mark.{Tick, Put, Say, Stop, Need, Hole, Trace, ◌⨾◌, GoesOn, events_of, messages_of, tick_count, without_puts}
use Rattle.xs_body_spec.specs.Laws.{CapturedSays, CapturedTakesTicks}
use Rattle.xs_body_spec.specs.Tasks.{Task}

ticks-stay : (x y : Trace Task) → GoesOn x → tick_count (without_puts x ⨾ y) ≡ tick_count x + tick_count y
ticks-stay [] y h = omega arith
ticks-stay (Tick p ∷ x) y h = let e = ticks-stay x y h in omega (arith, e)
ticks-stay (Put v ∷ x) y h = ticks-stay x y h
ticks-stay (Say t ∷ x) y h = ticks-stay x y h
ticks-stay (Stop f p ∷ x) y h = absurd h
ticks-stay (Need g p ∷ x) y h = absurd h
ticks-stay (Hole k ∷ x) y h = ticks-stay x y h

messages-stay : (x y : Trace Task) → GoesOn x → messages_of (without_puts x ⨾ y) ≡ messages_of x ++ messages_of y
messages-stay [] y h = refl
messages-stay (Tick p ∷ x) y h = messages-stay x y h
messages-stay (Put v ∷ x) y h = messages-stay x y h
messages-stay (Say t ∷ x) y h = ap (λ ms. t ∷ ms) (messages-stay x y h)
messages-stay (Stop f p ∷ x) y h = absurd h
messages-stay (Need g p ∷ x) y h = absurd h
messages-stay (Hole k ∷ x) y h = messages-stay x y h

pub captured-ticks : CapturedTakesTicks
captured-ticks x f h = ticks-stay x (f (events_of x)) h

pub captured-says : CapturedSays
captured-says x f h = messages-stay x (f (events_of x)) h
