-- The events that stay of those that were put (XSLT 1.0, 7; where it leaves a choice of recoveries, 7.1.3 and 7.1.4, this project's own).
use Rattle.std.specs.Prelude.{ℕ, zero, suc, ◌-◌, ◌&&◌, not, Bool, true, false, List, [], ◌∷◌, ◌++◌, if◌then◌else◌}
use Rattle.std.specs.List.{list_any}
use Rattle.std.specs.Str.{bytes_eq}
use Rattle.xs_trace.specs.declared.event.Event.{Event}
use Rattle.xs_trace.specs.declared.event.Event.TheVariants.{Start, Space, Attr, Chars, End, Comment, Pi}
use Rattle.xs_trace.specs.Label.{Label}

abbrev pub is_empty : List ℕ → Bool
is_empty [] = true
is_empty (b ∷ bs) = false

-- one expanded name (Namespaces in XML 1.0, 2.1)
abbrev pub is_same_name : Label → Label → Bool
is_same_name a b = bytes_eq a.uri b.uri && bytes_eq a.local b.local

-- ---- which events stay, by the events before, the nearest first
-- an element has begun, and no child came since (7.1.3)
abbrev pub is_start_open : List Event → Bool
is_start_open [] = false
is_start_open (Start name ∷ before) = true
is_start_open (Space prefix uri ∷ before) = is_start_open before
is_start_open (Attr name value ∷ before) = is_start_open before
is_start_open (Chars text ∷ before) = is_empty text && is_start_open before
is_start_open (End ∷ before) = false
is_start_open (Comment text ∷ before) = false
is_start_open (Pi target value ∷ before) = false

-- how many elements are open
abbrev pub depth : List Event → ℕ
depth [] = 0
depth (Start name ∷ before) = suc (depth before)
depth (End ∷ before) = depth before - 1
depth (Space prefix uri ∷ before) = depth before
depth (Attr name value ∷ before) = depth before
depth (Chars text ∷ before) = depth before
depth (Comment text ∷ before) = depth before
depth (Pi target value ∷ before) = depth before

abbrev pub is_inside : ℕ → Bool
is_inside zero = false
is_inside (suc n) = true

-- An attribute or a namespace node stays where its element has no child yet, an end where an element is open; an empty text is none.
abbrev pub stays : List Event → Event → Bool
stays before (Space prefix uri) = is_start_open before
stays before (Attr name value) = is_start_open before
stays before (Chars text) = not (is_empty text)
stays before End = is_inside (depth before)
stays before (Start name) = true
stays before (Comment text) = true
stays before (Pi target value) = true

unfoldable pub kept_from : List Event → List Event → List Event
kept_from before [] = []
kept_from before (e ∷ es) = if stays before e then e ∷ kept_from (e ∷ before) es else kept_from (e ∷ before) es

-- ---- an attribute that is added again replaces the value of the first (7.1.3)
-- the last value that a start tag gives to a name
unfoldable pub last_value : Label → List ℕ → List Event → List ℕ
last_value name value [] = value
last_value name value (Attr other more ∷ es) = if is_same_name other name then last_value name more es else last_value name value es
last_value name value (Space prefix uri ∷ es) = last_value name value es
last_value name value (Start other ∷ es) = value
last_value name value (Chars text ∷ es) = value
last_value name value (End ∷ es) = value
last_value name value (Comment text ∷ es) = value
last_value name value (Pi target text ∷ es) = value

-- one attribute for each name, by the names that the start tag has so far
unfoldable pub single_attributes : List Label → List Event → List Event
single_attributes names [] = []
single_attributes names (Attr name value ∷ es) =
    if list_any (is_same_name name) names then single_attributes names es
    else Attr name (last_value name value es) ∷ single_attributes (name ∷ names) es
single_attributes names (Space prefix uri ∷ es) = Space prefix uri ∷ single_attributes names es
single_attributes names (Start name ∷ es) = Start name ∷ single_attributes [] es
single_attributes names (Chars text ∷ es) = Chars text ∷ single_attributes [] es
single_attributes names (End ∷ es) = End ∷ single_attributes [] es
single_attributes names (Comment text ∷ es) = Comment text ∷ single_attributes [] es
single_attributes names (Pi target value ∷ es) = Pi target value ∷ single_attributes [] es

-- ---- texts side by side are one (XPath 1.0, 5.7)
unfoldable pub in_front : Event → List Event → List Event
in_front (Chars text) (Chars more ∷ es) = Chars (text ++ more) ∷ es
in_front e es = e ∷ es

unfoldable pub joined : List Event → List Event
joined [] = []
joined (e ∷ es) = in_front e (joined es)

unfoldable pub built : List Event → List Event
built es = joined (single_attributes [] (kept_from [] es))
