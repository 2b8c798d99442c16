use Rattle.std.proofs.Common.{◌≡◌, ◌++◌, map, take}
use Rattle.xs_tree.specs.Record.{string_value}
use Rattle.xs_keys.specs.steps.Pairs.{paired, pairs_in}
use Rattle.xs_keys.proofs.pairs.add_nodes.Given as goal

abbrev pub invariant-loop-other : goal.invariant-loop-other
invariant-loop-other l =
    pairs_in l.pairs.items ≡ pairs_in l.fn.pairs.items ++ paired l.node (map (string_value l.tree) (take l.other-index l.nodes))
