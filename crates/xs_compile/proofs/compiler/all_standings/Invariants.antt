use Rattle.std.proofs.Common.{◌≡◌, map, take}
use Rattle.xs_structure.specs.Standing.{standing_of}
use Rattle.xs_modules.specs.Results.{modules_data}
use Rattle.xs_tree.specs.Record.{places}
use Rattle.xs_compile.proofs.compiler.all_standings.Given as goal

-- the tables of the modules that were passed
abbrev pub invariant-loop-number : goal.invariant-loop-number
invariant-loop-number l =
    map (λ table. table.items) l.all.items ≡ map (λ d. map (standing_of d.records) (places d.records)) (take l.«number» (modules_data l.modules))
