use Rattle.std.proofs.Common.{◌≡◌, None, length, option_map}
use Rattle.xs_body_spec.specs.Tasks.{last_passed}
use Rattle.xs_body.proofs.passed.last_passed.Given as goal

-- the last of all is the last of those that are left, or the one found
abbrev pub invariant-loop-binding : goal.invariant-loop-binding
invariant-loop-binding l =
    last_passed l.name None l.fn.bindings l.fn.values ≡ last_passed l.name (option_map (λ v. v.now) l.found) l.bindings l.values

abbrev pub decreases-loop-binding : goal.decreases-loop-binding
decreases-loop-binding l = length l.bindings
