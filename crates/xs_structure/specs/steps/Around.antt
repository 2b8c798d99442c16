-- What the nodes around a node say, node by node.
use Rattle.std.specs.Prelude.{ℕ, zero, suc, ◌==◌, ◌&&◌, ◌||◌, Bool, false, List}
use Rattle.xs_tree.specs.Record.{Record, is_inside}

-- the node at k is the one at n or inside it
abbrev pub is_within : List Record → ℕ → ℕ → Bool
is_within rs n k = k == n || is_inside rs n k

-- one of the first so many nodes passes a test and has the node at k within
unfoldable pub any_around : (ℕ → Bool) → List Record → (k count : ℕ) → Bool
any_around test rs k zero = false
any_around test rs k (suc n) = (test n && is_within rs n k) || any_around test rs k n
