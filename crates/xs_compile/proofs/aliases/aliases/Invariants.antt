use Rattle.std.proofs.Common.{◌≡◌, ◌++◌, drop, filter, map}
use Rattle.xs_compile.specs.Aliases.{alias_at}
use Rattle.xs_compile.specs.steps.Aliases.{has_alias}
use Rattle.xs_modules.specs.Results.{modules_data}
use Rattle.xs_compile.proofs.aliases.aliases.Given as goal

-- those so far, with those that are left, are all
abbrev pub invariant-loop-place : goal.invariant-loop-place
invariant-loop-place l =
    l.aliases.items ++ map (alias_at (modules_data l.modules)) (filter (has_alias (modules_data l.modules)) (drop l.place-index l.places))
    ≡ map (alias_at (modules_data l.modules)) (filter (has_alias (modules_data l.modules)) l.places)
