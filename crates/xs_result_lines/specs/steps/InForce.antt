-- A start tag that declares nothing: all that it binds is in force around it, and its attributes keep their prefixes.
use Rattle.std.specs.Prelude.{ℕ, List, [], ◌∷◌, Bool, true, ◌&&◌, if◌then◌else◌, map, not}
use Rattle.xs_pyx.specs.declared.line.Line.{Line}
use Rattle.xs_pyx.specs.declared.line.Line.TheVariants as line
use Rattle.xs_result.specs.Built.{is_empty}
use Rattle.xs_trace.specs.Label.{Label}
use Rattle.xs_trace.specs.declared.event.Event.{Event}
use Rattle.xs_trace.specs.declared.event.Event.TheVariants.{Start, Space, Attr, Chars, End, Comment, Pi}
use Rattle.xs_result_lines.specs.Bindings.{Attribute, Binding, attributes_in, is_in_tag, is_new, needs_prefix}
use Rattle.xs_result_lines.specs.Lines.{element_name}

-- a prefix is bound to a URI; to none, where the URI is empty
abbrev pub is_in_force : List Binding → List ℕ → List ℕ → Bool
is_in_force around prefix uri = not (is_new around (prefix, uri))

-- an attribute keeps its prefix where it needs none, or has one that is bound to its URI
abbrev pub keeps_own : List Binding → Label → Bool
keeps_own around name = if needs_prefix name then not (is_empty name.prefix) && is_in_force around name.prefix name.uri else true

-- an event of a start tag for which nothing is declared
abbrev pub is_plain : List Binding → Event → Bool
is_plain around (Space prefix uri) = is_in_force around prefix uri
is_plain around (Attr name value) = keeps_own around name
is_plain around (Start name) = true
is_plain around (Chars text) = true
is_plain around End = true
is_plain around (Comment text) = true
is_plain around (Pi target value) = true

-- all events of a start tag
unfoldable pub are_plain : List Binding → List Event → Bool
are_plain around [] = true
are_plain around (e ∷ es) = if is_in_tag e then is_plain around e && are_plain around es else true

abbrev pub is_plain_tag : List Binding → Label → List Event → Bool
is_plain_tag around name es = is_in_force around name.prefix name.uri && are_plain around es

-- the line of an attribute that keeps its prefix
abbrev pub own_line : Attribute → Line
own_line a = line.Attr (element_name a.name) a.value

abbrev pub own_lines : List Attribute → List Line
own_lines attributes = map own_line attributes

-- the lines of such a start tag
abbrev pub plain_lines : Label → List Event → List Line
plain_lines name es = line.Start (element_name name) ∷ own_lines (attributes_in es)
