-- How large a tree may become.
use Rattle.std.specs.Prelude.{ℕ}
use Rattle.xs_tree.specs.declared.trees.TheConstants.{MOST_NODES}

-- the most nodes that a tree can have, its roots among them
abbrev pub most_nodes : ℕ
most_nodes = MOST_NODES
