-- A start tag of which each attribute needs no prefix, or has one that the bindings before the attributes bind to its URI.
use Rattle.std.specs.Prelude.{List, [], ◌∷◌, ◌++◌, Bool, true, ◌&&◌, map}
use Rattle.xs_pyx.specs.declared.line.Line.{Line}
use Rattle.xs_pyx.specs.declared.line.Line.TheVariants as line
use Rattle.xs_trace.specs.Label.{Label}
use Rattle.xs_trace.specs.declared.event.Event.{Event}
use Rattle.xs_trace.specs.declared.event.Event.TheVariants.{Start, Space, Attr, Chars, End, Comment, Pi}
use Rattle.xs_result_lines.specs.Bindings.{Binding, attributes_in}
use Rattle.xs_result_lines.specs.Lines.{declaration, element_name}
use Rattle.xs_result_lines.specs.steps.InForce.{keeps_own, own_lines}

-- one event: any but an attribute has no prefix to keep
abbrev pub may_keep : List Binding → Event → Bool
may_keep m (Attr name value) = keeps_own m name
may_keep m (Space prefix uri) = true
may_keep m (Start name) = true
may_keep m (Chars text) = true
may_keep m End = true
may_keep m (Comment text) = true
may_keep m (Pi target value) = true

-- all events after the start
unfoldable pub keep_own : List Binding → List Event → Bool
keep_own m [] = true
keep_own m (e ∷ es) = may_keep m e && keep_own m es

-- the lines of such a start tag, with these declarations
abbrev pub bound_lines : List Binding → Label → List Event → List Line
bound_lines declared name es = line.Start (element_name name) ∷ map declaration declared ++ own_lines (attributes_in es)
