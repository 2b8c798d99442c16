use Rattle.std.proofs.Common.{◌≡◌, ℕ, List, [], drop, filter}
use Rattle.xs_compile.proofs.CountedLemmas.{of_both}
use Rattle.xs_compile.specs.Counted.{counted}
use Rattle.xs_compile.specs.steps.Aliases.{is_alias_for}
use Rattle.xs_compile.specs.Tables.{place_in}
use Rattle.xs_modules.specs.Results.{modules_data}
use Rattle.xs_compile.proofs.aliases.counted_aliases.Given as goal

-- what counts so far, with those that are left, is what counts of all
abbrev pub invariant-loop-place : goal.invariant-loop-place
invariant-loop-place l =
    (uri : List ℕ)
    → of_both (modules_data l.modules) (place_in l.found uri [])
    (counted (modules_data l.modules) (filter (is_alias_for (modules_data l.modules) uri) (drop l.place-index l.places)))
    ≡ counted (modules_data l.modules) (filter (is_alias_for (modules_data l.modules) uri) l.places)
