-- What a value is as a boolean, a number and a string (XPath 1.0, 4.2 to 4.4; XSLT 1.0, 11.1).
use Rattle.std.specs.Prelude.{ℕ, Bool, true, false, not, ◌==◌, List, [], ◌∷◌, All, ◌<◌, length, Result, Ok, pos, codes, if◌then◌else◌}
use Rattle.std.specs.List.{flat_map}
use Rattle.std.specs.Ordering.{int_eq}
use Rattle.xs_num.specs.declared.number.Number.{Number}
use Rattle.xs_num.specs.declared.number.Number.TheVariants.{Whole, NaN}
use Rattle.xs_num.specs.declared.number.NumFault.{NumFault}
use Rattle.xs_num.specs.Text.{text_of, number_in}
use Rattle.xs_trace.specs.declared.event.Event.{Event}
use Rattle.xs_trace.specs.declared.event.Event.TheVariants as event
use Rattle.xs_tree.specs.Record.{Record, string_value}
use Rattle.xs_value.specs.declared.value.Value.{Value}
use Rattle.xs_value.specs.declared.value.Value.TheVariants.{Bool as Boolean, Number as Numeral, Chars, Nodes, Piece}

-- the characters that an event adds as a text node (XPath 1.0, 5.7)
abbrev pub event_text : Event → List ℕ
event_text (event.Start name) = []
event_text (event.Space prefix uri) = []
event_text (event.Attr name value) = []
event_text (event.Chars text) = text
event_text event.End = []
event_text (event.Comment text) = []
event_text (event.Pi target value) = []

-- the string-value of a fragment's root: the texts in it, one after another (XSLT 1.0, 11.1; XPath 1.0, 5.1)
abbrev pub fragment_text : List Event → List ℕ
fragment_text events = flat_map event_text events

-- the string-value of the first node, or no characters (XPath 1.0, 4.2 `string`)
abbrev pub nodes_text : List Record → List ℕ → List ℕ
nodes_text rs [] = []
nodes_text rs (n ∷ ns) = string_value rs n

-- `string` (XPath 1.0, 4.2)
abbrev pub text_value : List Record → Value → List ℕ
text_value rs (Boolean b) = if b then codes "true" else codes "false"
text_value rs (Numeral n) = text_of n
text_value rs (Chars text) = text
text_value rs (Nodes ns) = nodes_text rs ns
text_value rs (Piece events) = fragment_text events

-- neither zero nor NaN (XPath 1.0, 4.3)
abbrev pub is_nonzero : Number → Bool
is_nonzero (Whole z) = not (int_eq z (pos 0))
is_nonzero NaN = false

-- `boolean` (XPath 1.0, 4.3); a fragment is like a node-set with one node (XSLT 1.0, 11.1)
abbrev pub bool_value : Value → Bool
bool_value (Boolean b) = b
bool_value (Numeral n) = is_nonzero n
bool_value (Chars text) = not (length text == 0)
bool_value (Nodes ns) = not (length ns == 0)
bool_value (Piece events) = true

-- `number` (XPath 1.0, 4.4)
abbrev pub number_value : List Record → Value → Result Number NumFault
number_value rs (Boolean b) = if b then Ok (Whole (pos 1)) else Ok (Whole (pos 0))
number_value rs (Numeral n) = Ok n
number_value rs (Chars text) = number_in text
number_value rs (Nodes ns) = number_in (nodes_text rs ns)
number_value rs (Piece events) = number_in (fragment_text events)

-- the nodes of a value are in the tree
abbrev pub IsIn : List Record → Value → Type 0
IsIn rs (Boolean b) = Unit {0}
IsIn rs (Numeral n) = Unit {0}
IsIn rs (Chars text) = Unit {0}
IsIn rs (Nodes ns) = All (λ n. n < length rs) ns
IsIn rs (Piece events) = Unit {0}
