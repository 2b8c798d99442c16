use Rattle.std.proofs.Common.{◌≡◌, vec_len}
use Rattle.xs_build.specs.Namespaces.{scope_with}
use Rattle.xs_build.specs.steps.Views.{bindings_of}
use Rattle.xs_build.proofs.scope.bind_all.Given as goal

-- what is bound so far, with what is left to bind around it, is the whole
abbrev pub invariant-loop-prefix : goal.invariant-loop-prefix
invariant-loop-prefix l = scope_with (bindings_of l.declared) l.bindings.entries ≡ scope_with (bindings_of l.initial.declared) l.initial.bindings.entries

abbrev pub decreases-loop-prefix : goal.decreases-loop-prefix
decreases-loop-prefix l = vec_len l.declared
