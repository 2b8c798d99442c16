use Rattle.std.proofs.Common.{◌≡◌, ℕ, List, drop, filter}
use Rattle.std.specs.Option.{option_or}
use Rattle.xs_compile.proofs.NumberLemmas.{number_from}
use Rattle.xs_compile.specs.Counted.{is_global}
use Rattle.xs_compile.specs.Tables.{number_in}
use Rattle.xs_elements.specs.Tags.{is_variable}
use Rattle.xs_modules.specs.Results.{modules_data}
use Rattle.xs_structure.specs.Order.{declares}
use Rattle.xs_compile.proofs.counted.global_numbers.Given as goal

-- the numbers so far, with those of the declarations that are left, are those of all
abbrev pub invariant-loop-place : goal.invariant-loop-place
invariant-loop-place l =
    (uri local : List ℕ)
    → option_or (number_in l.numbers uri local)
    (number_from (declares is_variable (modules_data l.modules) (uri, local)) l.next
    (filter (is_global (modules_data l.modules)) (drop l.place-index l.places)))
    ≡ number_from (declares is_variable (modules_data l.modules) (uri, local)) 0 (filter (is_global (modules_data l.modules)) l.places)
