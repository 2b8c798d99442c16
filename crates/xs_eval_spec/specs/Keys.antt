-- Nodes by key (XSLT 1.0, 12.2).
use Rattle.std.specs.Prelude.{ℕ, List, [], ◌∷◌, filter, map, length, position, Option, Some, None}
use Rattle.std.specs.List.{flat_map}
use Rattle.xs_trace.specs.Run.{Run, give, fail, costs}
use Rattle.xs_trace.specs.declared.fault.Fault.{Fault}
use Rattle.xs_trace.specs.declared.fault.Fault.TheVariants.{NoKey}
use Rattle.xs_tree.specs.Axis.{is_same_document}
use Rattle.xs_tree.specs.Record.{string_value}
use Rattle.xs_value.specs.declared.value.Value.{Value}
use Rattle.xs_value.specs.declared.value.Value.TheVariants.{Bool as Boolean, Number as Numeral, Chars, Nodes, Piece}
use Rattle.xs_value.specs.Conversion.{text_value}
use Rattle.xs_value.specs.NodeSet.{in_order}
use Rattle.xs_value.specs.Tables.{Table, is_named, nodes_of, table_at}
use Rattle.xs_eval_spec.specs.Context.{Context}
use Rattle.xs_eval_spec.specs.Names.{ExpandedName, expanded_name}

-- the texts that are looked up: of a node-set the string-value of each node, of any other value its string
abbrev pub sought : Context → Value → List (List ℕ)
sought c (Nodes ns) = map (string_value c.tree) ns
sought c (Boolean b) = text_value c.tree (Boolean b) ∷ []
sought c (Numeral n) = text_value c.tree (Numeral n) ∷ []
sought c (Chars text) = text ∷ []
sought c (Piece events) = text_value c.tree (Piece events) ∷ []

-- the nodes of a table for a text that are in the document of the context node
abbrev pub found_for : Context → Table → List ℕ → List ℕ
found_for c t text = filter (is_same_document c.tree c.node) (nodes_of text t.entries)

-- those for some texts, united
abbrev pub found : Context → Table → List (List ℕ) → List ℕ
found c t texts = in_order (flat_map (found_for c t) texts)

-- the nodes of a table, a tick for each; where the table has a fault, each call has it
abbrev pub from_table : Context → Table → Option Fault → List (List ℕ) → Run Value
from_table c t None texts = let ns = found c t texts in costs (length ns) (give (Nodes ns))
from_table c t (Some fault) texts = fail fault

-- the table of a name, by its number among the tables; a name that no key has is a fault
abbrev pub number_of : List Table → Option ExpandedName → Option ℕ
number_of keys None = None
number_of keys (Some name) = position (is_named name.0 name.1) keys

abbrev pub looked_up : List Table → Context → Option ℕ → List (List ℕ) → Run Value
looked_up keys c None texts = fail NoKey
looked_up keys c (Some k) texts = from_table c (table_at keys k) (table_at keys k).fault texts

-- `key`
abbrev pub keyed : List Table → Context → Value → Value → Run Value
keyed keys c name v = looked_up keys c (number_of keys (expanded_name c.scope (text_value c.tree name))) (sought c v)
