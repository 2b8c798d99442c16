use Rattle.std.proofs.Common.{◌≡◌, length}
use Rattle.std.specs.Map.{lookup}
use Rattle.xs_rules.specs.steps.Index.{key_data}
use Rattle.xs_rules.specs.steps.Lists.{is_key_of}
use Rattle.xs_rules.proofs.places.named_among_few.Given as goal

-- of the keys that are left the key finds what it finds of all
abbrev pub invariant-loop-other : goal.invariant-loop-other
invariant-loop-other l = lookup (is_key_of (key_data l.key)) l.left ≡ lookup (is_key_of (key_data l.key)) l.named.entries

abbrev pub decreases-loop-other : goal.decreases-loop-other
decreases-loop-other l = length l.left
