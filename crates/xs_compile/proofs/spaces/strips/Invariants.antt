use Rattle.std.proofs.Common.{◌≡◌, ◌++◌, drop}
use Rattle.std.specs.List.{flat_map}
use Rattle.xs_compile.specs.Spaces.{rules_by}
use Rattle.xs_structure.specs.Parts.{tag_at}
use Rattle.xs_modules.specs.Results.{modules_data}
use Rattle.xs_compile.proofs.spaces.strips.Given as goal

-- the rules so far, with those of the declarations that are left, are all
abbrev pub invariant-loop-place : goal.invariant-loop-place
invariant-loop-place l =
    l.strips.items ++ flat_map (λ p. rules_by (tag_at (modules_data l.modules) p) (modules_data l.modules) p) (drop l.place-index l.places)
    ≡ flat_map (λ p. rules_by (tag_at (modules_data l.modules) p) (modules_data l.modules) p) l.places
