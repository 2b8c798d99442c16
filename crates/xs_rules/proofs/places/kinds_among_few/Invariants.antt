use Rattle.std.proofs.Common.{◌≡◌, ◌==◌, length}
use Rattle.std.specs.Map.{lookup}
use Rattle.xs_rules.proofs.places.kinds_among_few.Given as goal

-- of the modes that are left the mode finds what it finds of all
abbrev pub invariant-loop-other : goal.invariant-loop-other
invariant-loop-other l = lookup (λ k. l.mode == k) l.left ≡ lookup (λ k. l.mode == k) l.unnamed.entries

abbrev pub decreases-loop-other : goal.decreases-loop-other
decreases-loop-other l = length l.left
