use Rattle.std.proofs.Common.{◌≡◌, ◌++◌}
use Rattle.std.specs.Prelude.{filter}
use Rattle.xs_result_lines.specs.Bindings.{declared, is_new, outermost}
use Rattle.xs_result_lines.specs.steps.Open.{bindings_of}
use Rattle.xs_result_lines.proofs.scope.Scope.declared.Given as goal

-- those so far, and those of what is left
abbrev pub invariant-loop-prefix : goal.invariant-loop-prefix
invariant-loop-prefix l = bindings_of l.all.items ++ filter (is_new (l.self ++ outermost)) l.prefix-iterator ≡ declared (l.self ++ outermost) l.tag
