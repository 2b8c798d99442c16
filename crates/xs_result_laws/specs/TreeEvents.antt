-- The events that a tree represents, without namespace nodes and without prefixes (XPath 1.0, 5).
use Rattle.std.specs.Prelude.{ℕ, ◌+◌, List, [], ◌∷◌, Option, None, Some, if◌then◌else◌, map}
use Rattle.std.specs.List.{cons_option, filter_map}
use Rattle.xs_trace.specs.Label.{Label}
use Rattle.xs_trace.specs.declared.event.Event.{Event}
use Rattle.xs_trace.specs.declared.event.Event.TheVariants.{Start, Space, Attr, Chars, End, Comment, Pi}
use Rattle.xs_tree.specs.declared.kinds.Kind.{Kind}
use Rattle.xs_tree.specs.declared.kinds.Kind.TheVariants as kind
use Rattle.xs_tree.specs.Record.{Record, is_place, name_local, name_uri}

-- ---- of a tree
-- the name of a node, without its prefix
abbrev pub label_of : Record → Label
label_of r = record { uri = name_uri r; local = name_local r; prefix = [] }

-- the event that a node begins with; a root and a namespace node have none
abbrev pub event_of : Kind → Record → Option Event
event_of kind.Root r = None
event_of kind.Element r = Some (Start (label_of r))
event_of kind.Attribute r = Some (Attr (label_of r) r.text)
event_of kind.Space r = None
event_of kind.Text r = Some (Chars r.text)
event_of kind.Comment r = Some (Comment r.text)
event_of kind.Pi r = Some (Pi (name_local r) r.text)

-- of the open elements, the innermost first, those that are around a node with this parent
unfoldable pub around : Option ℕ → List ℕ → List ℕ
around parent [] = []
around parent (o ∷ os) = if is_place o parent then o ∷ os else around parent os

-- and the ends of the others
unfoldable pub with_ends : Option ℕ → List ℕ → List Event → List Event
with_ends parent [] more = more
with_ends parent (o ∷ os) more = if is_place o parent then more else End ∷ with_ends parent os more

-- after its start an element is open
abbrev pub opened : Kind → ℕ → List ℕ → List ℕ
opened kind.Element place os = place ∷ os
opened kind.Root place os = os
opened kind.Attribute place os = os
opened kind.Space place os = os
opened kind.Text place os = os
opened kind.Comment place os = os
opened kind.Pi place os = os

-- The events of the nodes from this place on, where the elements at these places are open: an element ends where a node follows that
-- is not inside it.
unfoldable pub events_from : List ℕ → ℕ → List Record → List Event
events_from os place [] = map (λ _. End) os
events_from os place (r ∷ rs) =
    with_ends r.parent os (cons_option (event_of r.kind r) (events_from (opened r.kind place (around r.parent os)) (place + 1) rs))

abbrev pub tree_events : List Record → List Event
tree_events rs = events_from [] 0 rs

-- ---- of events
abbrev pub unprefixed : Label → Label
unprefixed name = record { uri = name.uri; local = name.local; prefix = [] }

abbrev pub plain_event : Event → Option Event
plain_event (Start name) = Some (Start (unprefixed name))
plain_event (Space prefix uri) = None
plain_event (Attr name value) = Some (Attr (unprefixed name) value)
plain_event (Chars text) = Some (Chars text)
plain_event End = Some End
plain_event (Comment text) = Some (Comment text)
plain_event (Pi target value) = Some (Pi target value)

-- without namespace nodes and without prefixes
unfoldable pub plain : List Event → List Event
plain es = filter_map plain_event es
