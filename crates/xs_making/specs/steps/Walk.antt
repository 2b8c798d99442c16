-- A walk through what is in a node, from place to place.
use Rattle.std.specs.Prelude.{ℕ, ◌+◌, List}
use Rattle.std.specs.List.{flat_map}
use Rattle.xs_trace.specs.declared.event.Event.{Event}
use Rattle.xs_tree.specs.declared.kinds.Kind.{Kind}
use Rattle.xs_tree.specs.declared.kinds.Kind.TheVariants.{Root, Element, Attribute, Space, Text, Comment, Pi}
use Rattle.xs_tree.specs.Record.{Record, at}
use Rattle.xs_tree.specs.Walk.{children_from}
use Rattle.xs_making.specs.Copies.{deep_copy, leaf_events, tag_events}

abbrev pub opening_as : Kind → List Record → ℕ → List Event
opening_as Root rs n = leaf_events Root (at rs n)
opening_as Element rs n = tag_events rs n
opening_as Attribute rs n = leaf_events Attribute (at rs n)
opening_as Space rs n = leaf_events Space (at rs n)
opening_as Text rs n = leaf_events Text (at rs n)
opening_as Comment rs n = leaf_events Comment (at rs n)
opening_as Pi rs n = leaf_events Pi (at rs n)

-- what is put of a node before the copies of its children
abbrev pub opening : List Record → ℕ → List Event
opening rs n = opening_as (at rs n).kind rs n

-- the copies of the children of the node at n from a place on
abbrev pub copies_from : List Record → ℕ → ℕ → List Event
copies_from rs n from = flat_map (deep_copy rs) (children_from rs n from)

-- the copies of the children of the node at n
abbrev pub inside : List Record → ℕ → List Event
inside rs n = copies_from rs n (n + 1)
