use Rattle.std.proofs.Common.{◌≡◌, ℕ, ◌<◌, ◌||◌, false, drop, get_or, length}
use Rattle.xs_pattern_spec.specs.Predicates.{is_among}
use Rattle.xs_pattern.proofs.path_tables.add_nodes.Given as goal

-- the table, with the nodes that are left, is whole
abbrev pub invariant-loop-node : goal.invariant-loop-node
invariant-loop-node l = record {
  long : length l.table.items ≡ length l.initial.table.items;
  whole : (n : ℕ) → n < length l.initial.table.items
      → (get_or l.table.items n false || is_among n (drop l.node-index l.nodes)) ≡ (get_or l.initial.table.items n false || is_among n l.nodes);
}
