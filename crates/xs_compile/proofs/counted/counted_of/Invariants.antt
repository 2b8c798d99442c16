use Rattle.std.proofs.Common.{◌≡◌, ℕ, List, drop, filter}
use Rattle.xs_compile.specs.Counted.{counted}
use Rattle.xs_compile.specs.Tables.{kind_test, place_in}
use Rattle.xs_compile.proofs.CountedLemmas.{of_both}
use Rattle.xs_modules.specs.Results.{modules_data}
use Rattle.xs_structure.specs.Order.{declares}
use Rattle.xs_compile.proofs.counted.counted_of.Given as goal

-- what counts so far, with those that are left, is what counts of all
abbrev pub invariant-loop-place : goal.invariant-loop-place
invariant-loop-place l =
    (uri local : List ℕ)
    → of_both (modules_data l.modules) (place_in l.found uri local)
    (counted (modules_data l.modules) (filter (declares (kind_test l.kind) (modules_data l.modules) (uri, local)) (drop l.place-index l.places)))
    ≡ counted (modules_data l.modules) (filter (declares (kind_test l.kind) (modules_data l.modules) (uri, local)) l.places)
