use Rattle.std.proofs.Common.{◌≡◌, length}
use Rattle.std.specs.Map.{lookup}
use Rattle.xs_attribute_sets.specs.Indexed.{is_of}
use Rattle.xs_attribute_sets.proofs.lists.list_among_few.Given as goal

-- of the names that are left the name finds what it finds of all
abbrev pub invariant-loop-other : goal.invariant-loop-other
invariant-loop-other l = lookup (is_of l.name) l.left ≡ lookup (is_of l.name) l.lists.entries

abbrev pub decreases-loop-other : goal.decreases-loop-other
decreases-loop-other l = length l.left
