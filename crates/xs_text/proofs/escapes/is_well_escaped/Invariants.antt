use Rattle.std.proofs.Common.{◌≡◌, length, is_some}
use Rattle.xs_text.specs.Escapes.{unescaped}
use Rattle.xs_text.proofs.escapes.is_well_escaped.Given as goal

abbrev pub invariant-loop-after : goal.invariant-loop-after
invariant-loop-after l = is_some (unescaped l.text) ≡ is_some (unescaped l.rest)

abbrev pub decreases-loop-after : goal.decreases-loop-after
decreases-loop-after l = length l.rest
