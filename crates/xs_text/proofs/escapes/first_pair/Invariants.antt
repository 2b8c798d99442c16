use Rattle.std.proofs.Common.{take}
use Rattle.xs_text.proofs.UnescapeLemmas.{IsPlain}
use Rattle.xs_text.proofs.escapes.first_pair.Given as goal

-- there is no backslash so far
abbrev pub invariant-loop-i : goal.invariant-loop-i
invariant-loop-i l = IsPlain (take l.i l.text)
