-- Copies of the nodes of a tree (XSLT 1.0, 7.5 and 11.3).
use Rattle.std.specs.Prelude.{ℕ, zero, suc, ◌&&◌, ◌||◌, Bool, List, [], ◌∷◌, ◌++◌, codes, length, if◌then◌else◌}
use Rattle.std.specs.List.{flat_map}
use Rattle.std.specs.Str.{bytes_eq}
use Rattle.xs_trace.specs.Label.{Label}
use Rattle.xs_trace.specs.declared.event.Event.{Event}
use Rattle.xs_trace.specs.declared.event.Event.TheVariants.{Start, Space as SpaceEvent, Attr, Chars, End, Comment as CommentEvent, Pi as PiEvent}
use Rattle.xs_tree.specs.declared.kinds.Kind.{Kind}
use Rattle.xs_tree.specs.declared.kinds.Kind.TheVariants.{Root, Element, Attribute, Space, Text, Comment, Pi}
use Rattle.xs_tree.specs.Record.{Record, at, attributes, children, namespaces, name_local, name_prefix, name_uri}
use Rattle.xs_making.specs.Labels.{put_label, xml_uri}
use Rattle.xs_making.specs.Texts.{is_empty}

-- ---- what a node puts by itself
abbrev pub label_of : Record → Label
label_of r = put_label (name_uri r) (name_local r) (name_prefix r)

-- a namespace node, except no namespace and for that of `xml`, which is in scope everywhere
abbrev pub space_events : Record → List Event
space_events r = if is_empty r.text || bytes_eq r.text xml_uri then [] else SpaceEvent (name_local r) r.text ∷ []

-- an attribute, except one that would be read as the declaration of a default namespace
abbrev pub attribute_events : Record → List Event
attribute_events r =
    if is_empty (name_uri r) && bytes_eq (name_local r) (codes "xmlns") then [] else Attr (label_of r) r.text ∷ []

abbrev pub text_events : Record → List Event
text_events r = if is_empty r.text then [] else Chars r.text ∷ []

-- the copy of a node that holds no others
abbrev pub leaf_events : Kind → Record → List Event
leaf_events Root r = []
leaf_events Element r = []
leaf_events Attribute r = attribute_events r
leaf_events Space r = space_events r
leaf_events Text r = text_events r
leaf_events Comment r = CommentEvent r.text ∷ []
leaf_events Pi r = PiEvent (name_local r) r.text ∷ []

-- ---- copies
-- an element begins, with its namespace nodes (7.5)
abbrev pub start_events : List Record → ℕ → List Event
start_events rs n = Start (label_of (at rs n)) ∷ flat_map (λ k. space_events (at rs k)) (namespaces rs n)

-- and with its attributes
abbrev pub tag_events : List Record → ℕ → List Event
tag_events rs n = start_events rs n ++ flat_map (λ k. attribute_events (at rs k)) (attributes rs n)

-- What `xsl:copy` puts of a node before its own content (7.5): of a root nothing, of an element its start, of another all.
abbrev pub shallow_as : Kind → List Record → ℕ → List Event
shallow_as Root rs n = []
shallow_as Element rs n = start_events rs n
shallow_as Attribute rs n = leaf_events Attribute (at rs n)
shallow_as Space rs n = leaf_events Space (at rs n)
shallow_as Text rs n = leaf_events Text (at rs n)
shallow_as Comment rs n = leaf_events Comment (at rs n)
shallow_as Pi rs n = leaf_events Pi (at rs n)

abbrev pub shallow_copy : List Record → ℕ → List Event
shallow_copy rs n = shallow_as (at rs n).kind rs n

-- A whole copy (11.3), given those of the children: a root puts these alone, an element its namespace nodes, its attributes and these.
abbrev pub whole_as : Kind → List Record → ℕ → List Event → List Event
whole_as Root rs n inside = inside
whole_as Element rs n inside = tag_events rs n ++ (inside ++ End ∷ [])
whole_as Attribute rs n inside = leaf_events Attribute (at rs n)
whole_as Space rs n inside = leaf_events Space (at rs n)
whole_as Text rs n inside = leaf_events Text (at rs n)
whole_as Comment rs n inside = leaf_events Comment (at rs n)
whole_as Pi rs n inside = leaf_events Pi (at rs n)

-- of a node with no more than so many levels in it
unfoldable pub copy_within : ℕ → List Record → ℕ → List Event
copy_within zero rs n = []
copy_within (suc levels) rs n = whole_as (at rs n).kind rs n (flat_map (copy_within levels rs) (children rs n))

-- the copy of a node with all that is in it; a tree has no more levels than nodes
unfoldable pub deep_copy : List Record → ℕ → List Event
deep_copy rs n = copy_within (length rs) rs n

abbrev pub copy_of : Bool → List Record → ℕ → List Event
copy_of deep rs n = if deep then deep_copy rs n else shallow_copy rs n
