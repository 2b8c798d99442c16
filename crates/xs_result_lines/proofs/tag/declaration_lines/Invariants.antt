use Rattle.std.proofs.Common.{◌≡◌, ◌++◌, length, map}
use Rattle.xs_result_lines.specs.Lines.{declaration}
use Rattle.xs_result_lines.specs.steps.Open.{bindings_of}
use Rattle.xs_result_lines.proofs.tag.declaration_lines.Given as goal

-- the lines so far, and those of the rest
abbrev pub invariant-loop-first : goal.invariant-loop-first
invariant-loop-first l = l.lines.items ++ map declaration (bindings_of l.rest) ≡ map declaration (bindings_of l.initial.rest)

abbrev pub decreases-loop-first : goal.decreases-loop-first
decreases-loop-first l = length l.rest
