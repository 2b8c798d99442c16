use Rattle.std.proofs.Common.{◌≡◌, drop}
use Rattle.std.specs.List.{list_any}
use Rattle.xs_attribute_sets.specs.Indexed.{is_of}
use Rattle.xs_attribute_sets.proofs.flags.is_among.Given as goal

abbrev pub invariant-loop-other : goal.invariant-loop-other
invariant-loop-other l = list_any (is_of l.name) (drop l.other-index l.names) ≡ list_any (is_of l.name) l.names
