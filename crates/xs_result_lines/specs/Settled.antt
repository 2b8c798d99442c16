-- What is settled of a result while its events come.
use Rattle.std.specs.Prelude.{Bool, true, false, List, [], ◌∷◌, if◌then◌else◌}
use Rattle.std.specs.List.{list_all}
use Rattle.xs_result.specs.Built.{built}
use Rattle.xs_trace.specs.declared.event.Event.{Event}
use Rattle.xs_trace.specs.declared.event.Event.TheVariants.{Start, Space, Attr, Chars, End, Comment, Pi}
use Rattle.xs_result_lines.specs.Bindings.{is_in_tag}

abbrev pub are_none : List Event → Bool
are_none [] = true
are_none (e ∷ es) = false

-- Whether a later event may add to what begins here: attributes and namespace nodes to an element that has no child (XSLT 1.0, 7.1.3), and
-- a text to the text before it (7.2).
abbrev pub may_grow : Event → List Event → Bool
may_grow (Start name) es = list_all is_in_tag es
may_grow (Chars text) es = are_none es
may_grow (Space prefix uri) es = false
may_grow (Attr name value) es = false
may_grow End es = false
may_grow (Comment text) es = false
may_grow (Pi target value) es = false

unfoldable pub settled_in : List Event → List Event
settled_in [] = []
settled_in (e ∷ es) = if may_grow e es then [] else e ∷ settled_in es

-- what stays of these events, whatever comes after them
abbrev pub settled : List Event → List Event
settled es = settled_in (built es)
