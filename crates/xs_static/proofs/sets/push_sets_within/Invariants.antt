use Rattle.std.proofs.Common.{◌≡◌, ◌-◌, ◌++◌, map}
use Rattle.std.specs.List.{flat_map, range_with_len}
use Rattle.xs_elements.specs.Nodes.{name_data}
use Rattle.xs_static.specs.steps.Circles.{seen_sets}
use Rattle.xs_static.proofs.sets.push_sets_within.Given as goal

-- what the nodes name that were passed
abbrev pub invariant-loop-place : goal.invariant-loop-place
invariant-loop-place l =
    map name_data l.out.items ≡ map name_data l.initial.out.items ++ flat_map (seen_sets l.tree) (range_with_len l.fn.n (l.place - l.fn.n))
