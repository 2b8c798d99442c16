-- Where the nodes of lists and of node-sets lie.
use Rattle.std.specs.Prelude.{ℕ, List, [], ◌∷◌}
use Rattle.std.specs.Arc.{arc_value}
use Rattle.xs_value.specs.declared.node_list.Gathered.{Gathered}
use Rattle.xs_value.specs.declared.node_list.Gathered.TheVariants as gathered
use Rattle.xs_value.specs.declared.node_set.Held.{Held}
use Rattle.xs_value.specs.declared.node_set.Held.TheVariants as held

-- the nodes of a list
abbrev pub gathered_nodes : Gathered → List ℕ
gathered_nodes gathered.Empty = []
gathered_nodes (gathered.One node) = node ∷ []
gathered_nodes (gathered.Many nodes) = nodes.items

-- the nodes of a node-set
abbrev pub held_nodes : Held → List ℕ
held_nodes held.Empty = []
held_nodes (held.One node) = node ∷ []
held_nodes (held.Many nodes) = (arc_value nodes).items
