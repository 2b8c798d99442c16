use Rattle.std.proofs.Common.{◌≡◌, length}
use Rattle.std.specs.List.{list_any}
use Rattle.xs_attribute_sets.specs.Indexed.{is_flagged}
use Rattle.xs_attribute_sets.proofs.flags.FlaggedSets.has_any.Given as goal

abbrev pub invariant-loop-name : goal.invariant-loop-name
invariant-loop-name l = list_any (is_flagged l.self) l.names ≡ list_any (is_flagged l.self) l.left

abbrev pub decreases-loop-name : goal.decreases-loop-name
decreases-loop-name l = length l.left
