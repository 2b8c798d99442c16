-- The events that came and are not written yet, as they lie beside the writer.
use Rattle.std.specs.Prelude.{◌≡◌, ℕ, List, [], ◌∷◌, Bool, true, false, ◌&&◌, if◌then◌else◌, map, not}
use Rattle.std.specs.List.{flat_map}
use Rattle.std.specs.Str.{bytes_eq}
use denote.Ref.{Bor}
use Rattle.xs_pyx.specs.declared.line.Line.{Line}
use Rattle.xs_pyx.specs.declared.line.Line.TheVariants as line
use Rattle.xs_result.specs.Built.{is_empty}
use Rattle.xs_result.specs.Building.{State, nothing, taken, taken_all}
use Rattle.xs_result.specs.Places.{is_attribute_of}
use Rattle.xs_trace.specs.Label.{Label}
use Rattle.xs_trace.specs.declared.event.Event.{Event}
use Rattle.xs_trace.specs.declared.event.Event.TheVariants.{Start, Space, Attr, Chars, End, Comment, Pi}
use Rattle.xs_result_lines.specs.Bindings.{is_in_tag}

-- the events that are lent
abbrev pub lent : List (Bor Event) → List Event
lent es = map (λ e. e.now) es

-- what a builder makes of the events of a start tag
abbrev pub begun : List (Bor Event) → State
begun es = taken_all nothing (lent es)

-- nothing but the start tag
pub record IsAlone (s : State) : Type 0 where
  pub closed : s.closed ≡ []
  pub text : s.text ≡ []

-- the pieces of a text as one
abbrev pub joined : List (Bor (List ℕ)) → List ℕ
joined texts = flat_map (λ t. t.now) texts

-- a start tag with an event more
abbrev pub added_to : List Event → Event → List Event
added_to tag e = (taken (record { closed = []; tag = tag; text = []; depth = 0 }) e).tag

-- the line of a text; none where it is empty
abbrev pub text_lines : List ℕ → List Line
text_lines text = if is_empty text then [] else line.Chars text ∷ []

-- whether a later event is an attribute of the name that an earlier one has
abbrev pub clashes : Event → Event → Bool
clashes e (Attr name value) = is_attribute_of name.uri name.local e
clashes e (Start name) = false
clashes e (Space prefix uri) = false
clashes e (Chars text) = false
clashes e End = false
clashes e (Comment text) = false
clashes e (Pi target value) = false

-- an attribute with this name
abbrev pub IsNamed : Label → Event → Type 0
IsNamed name e = (other : Label) → is_attribute_of other.uri other.local e ≡ (bytes_eq other.uri name.uri && bytes_eq other.local name.local)

-- an event clashes with none of those after it
unfoldable pub is_clear : Event → List Event → Bool
is_clear e [] = true
is_clear e (x ∷ xs) = not (clashes e x) && is_clear e xs

-- the events that were added to a start tag: each belongs to it, and no two attributes have one name
unfoldable pub is_simple : List Event → Bool
is_simple [] = true
is_simple (e ∷ es) = is_in_tag e && (is_clear e es && is_simple es)
