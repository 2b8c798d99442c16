use Rattle.std.proofs.Common.{◌≡◌, ◌++◌, drop, map}
use Rattle.xs_structure.specs.Scopes.{scopes_in, scopes_of}
use Rattle.xs_modules.specs.Results.{module_data}
use Rattle.xs_compile.proofs.compiler.all_scopes.Given as goal

-- the tables so far, with those of the modules that are left, are all
abbrev pub invariant-loop-module : goal.invariant-loop-module
invariant-loop-module l =
    map scopes_in l.all.items ++ map (λ d. scopes_of d.records) (map module_data (drop l.module-index l.module-items))
    ≡ map (λ d. scopes_of d.records) (map module_data l.module-items)
