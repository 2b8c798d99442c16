-- What the code's lists of nodes represent.
use Rattle.std.specs.Prelude.{ℕ, List}
use Rattle.xs_value.specs.NodeSet.{IsNodeList}
use Rattle.xs_body.specs.declared.lists.NodeList.{NodeList}
use Rattle.xs_body.specs.declared.lists.NodeList.TheVariants.{Set, List as InList}

abbrev pub nodes_in : NodeList → List ℕ
nodes_in (Set nodes) = nodes
nodes_in (InList nodes) = nodes.items

-- they are in document order, each once, as those of a set always are
abbrev pub AreOrdered : NodeList → Type 0
AreOrdered (Set nodes) = Unit {0}
AreOrdered (InList nodes) = IsNodeList nodes.items
