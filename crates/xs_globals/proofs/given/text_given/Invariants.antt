use Rattle.std.proofs.Common.{◌≡◌, length}
use Rattle.xs_body_spec.specs.Globals.{text_given}
use Rattle.xs_globals.proofs.given.text_given.Given as goal

abbrev pub invariant-loop-first : goal.invariant-loop-first
invariant-loop-first l = text_given l.left l.name ≡ text_given l.given l.name

abbrev pub decreases-loop-first : goal.decreases-loop-first
decreases-loop-first l = length l.left
