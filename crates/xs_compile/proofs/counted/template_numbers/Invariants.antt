use Rattle.std.proofs.Common.{◌≡◌, ℕ, List, drop, filter}
use Rattle.std.specs.Option.{option_or}
use Rattle.xs_compile.proofs.NumberLemmas.{number_from}
use Rattle.xs_structure.specs.Order.{is_template_place}
use Rattle.xs_compile.specs.steps.Counting.{is_called}
use Rattle.xs_compile.specs.Tables.{number_in}
use Rattle.xs_modules.specs.Results.{modules_data}
use Rattle.xs_compile.proofs.counted.template_numbers.Given as goal

-- the numbers so far, with those of the declarations that are left, are those of all
abbrev pub invariant-loop-place : goal.invariant-loop-place
invariant-loop-place l =
    (uri local : List ℕ)
    → option_or (number_in l.numbers uri local)
    (number_from (is_called (modules_data l.modules) (uri, local)) l.next (filter (is_template_place (modules_data l.modules)) (drop l.place-index l.places)))
    ≡ number_from (is_called (modules_data l.modules) (uri, local)) 0 (filter (is_template_place (modules_data l.modules)) l.places)
