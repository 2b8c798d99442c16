-- What a finder of keys knows (XSLT 1.0, 12.2): plain tables.
use Rattle.std.specs.Prelude.{◌≡◌, ℕ, List, Some, None, Result, Ok, Err}
use Rattle.xs_value.specs.declared.keys.Found.{Found}
use Rattle.xs_value.specs.declared.keys.Found.TheVariants.{Made, Kept}
use Rattle.xs_value.specs.declared.keys.KeyEnd.{KeyEnd}
use Rattle.xs_value.specs.declared.keys.KeyEnd.TheVariants.{Fault, NoMemory}
use Rattle.xs_value.specs.Tables.{Table, nodes_of}

-- the nodes that were found
abbrev pub found_nodes : Found → List ℕ
found_nodes (Made nodes) = nodes.items
found_nodes (Kept nodes) = nodes.now

-- The nodes of a text in a table, unless the table has a fault.
abbrev pub Finds : Table → List ℕ → Result Found KeyEnd → Type 0
Finds t text (Ok found) = (t.fault ≡ None) × (found_nodes found ≡ nodes_of text t.entries)
Finds t text (Err (Fault f)) = t.fault ≡ Some f
Finds t text (Err NoMemory) = Unit {0}
