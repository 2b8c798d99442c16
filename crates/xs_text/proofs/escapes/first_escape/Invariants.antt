use Rattle.std.proofs.Common.{◌≡◌, take}
use Rattle.xs_text.specs.Escapes.{escaped}
use Rattle.xs_text.proofs.escapes.first_escape.Given as goal

-- the bytes so far represent themselves
abbrev pub invariant-loop-i : goal.invariant-loop-i
invariant-loop-i l = escaped (take l.i l.text) ≡ take l.i l.text
