use Rattle.std.proofs.Common.{◌≡◌, map}
use Rattle.std.specs.List.{range_with_len}
use Rattle.xs_structure.specs.steps.Namespaces.{AreNamespaces}
use Rattle.xs_structure.specs.Standing.{standing_of}
use Rattle.xs_structure.proofs.standing.standings.Given as goal

-- the namespaces and the standings of the nodes that were passed
abbrev pub invariant-loop-place : goal.invariant-loop-place
invariant-loop-place l = record {
  namespaces : AreNamespaces l.tree l.place l.namespaces;
  table : l.standings.items ≡ map (standing_of l.tree) (range_with_len 0 l.place);
}
