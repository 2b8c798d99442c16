use Rattle.std.proofs.Common.{◌≡◌, ◌++◌, drop, map}
use Rattle.xs_modules.specs.Results.{module_data}
use Rattle.xs_compile.proofs.compiled.names.Given as goal

-- the names so far, with those of the modules that are left, are all
abbrev pub invariant-loop-module : goal.invariant-loop-module
invariant-loop-module l =
    l.names.items ++ map (λ d. d.name) (map module_data (drop l.module-index l.module-items)) ≡ map (λ d. d.name) (map module_data l.module-items)
