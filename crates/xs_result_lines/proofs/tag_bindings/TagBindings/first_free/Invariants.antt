use Rattle.xs_result_lines.specs.steps.Tables.{AreBound}
use Rattle.xs_result_lines.proofs.tag_bindings.TagBindings.first_free.Given as goal

-- those before are bound
abbrev pub invariant-loop-number : goal.invariant-loop-number
invariant-loop-number l = AreBound l.self l.number
