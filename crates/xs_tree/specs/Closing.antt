-- How the subtrees of nodes are ended when a node is added after them.
use Rattle.std.specs.Prelude.{◌≡◌, ℕ, ◌<◌, ◌≤◌, List, Some, slice_get, slice_set}
use Rattle.xs_tree.specs.declared.entries.Entry.{Entry}

-- the parent of each node after the one at p comes before it
abbrev pub ParentsBefore : List Entry → ℕ → Type 0
ParentsBefore es p = (k : ℕ) (e : Entry) → p < k → slice_get es k ≡ Some e → e.parent < k

-- the node at w, its parent, and so on, down to the node at p without that, get an end
pub data Closes (p end : ℕ) : List Entry → ℕ → List Entry → Type 0 where
  nothing_left : {w : ℕ} {es : List Entry} → w ≤ p → Closes p end es w es
  ended : {w : ℕ} {es new : List Entry} (e : Entry) → p < w → slice_get es w ≡ Some e → Closes p end (slice_set es w (record e { end = end })) e.parent new
      → Closes p end es w new
