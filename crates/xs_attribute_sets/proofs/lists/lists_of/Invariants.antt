use Rattle.std.proofs.Common.{◌≡◌, filter, map, take}
use Rattle.xs_trace.specs.Label.{Label}
use Rattle.xs_attribute_sets.specs.Declarations.{has_name}
use Rattle.xs_attribute_sets.specs.Indexed.{grouped}
use Rattle.xs_attribute_sets.proofs.lists.lists_of.Given as goal

abbrev pub invariant-loop-set : goal.invariant-loop-set
invariant-loop-set l = (name : Label) → grouped l.lists name ≡ filter (has_name name) (map (λ s. s.now) (take l.set-index l.sets))
