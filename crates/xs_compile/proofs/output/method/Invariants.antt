use Rattle.std.proofs.Common.{◌≡◌, None, drop}
use Rattle.xs_compile.proofs.OutputLemmas.{sayers, with_rest}
use Rattle.xs_compile.specs.Counted.{counted}
use Rattle.xs_modules.specs.Results.{modules_data}
use Rattle.xs_compile.proofs.output.method.Given as goal

-- the method so far, with those that are left, is that of all
abbrev pub invariant-loop-place : goal.invariant-loop-place
invariant-loop-place l =
    with_rest (modules_data l.modules) l.so_far (counted (modules_data l.modules) (sayers (modules_data l.modules) (drop l.place-index l.places)))
    ≡ with_rest (modules_data l.modules) None (counted (modules_data l.modules) (sayers (modules_data l.modules) l.places))
