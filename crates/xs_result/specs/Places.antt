-- The attributes of a start tag, and where they stand.
use Rattle.std.specs.Prelude.{ℕ, suc, ◌&&◌, Bool, true, false, List, [], ◌∷◌, Option, Some, None, option_map, if◌then◌else◌}
use denote.Ref.{Bor}
use Rattle.std.specs.Map.{lookup}
use Rattle.std.specs.Str.{bytes_eq}
use Rattle.xs_trace.specs.declared.event.Event.{Event}
use Rattle.xs_trace.specs.declared.event.Event.TheVariants.{Start, Space, Attr, Chars, End, Comment, Pi}
use Rattle.xs_trace.specs.Label.{Label}

abbrev pub is_attribute : Event → Bool
is_attribute (Attr name value) = true
is_attribute (Start name) = false
is_attribute (Space prefix uri) = false
is_attribute (Chars text) = false
is_attribute End = false
is_attribute (Comment text) = false
is_attribute (Pi target value) = false

-- an attribute of this name
abbrev pub is_attribute_of : (uri local : List ℕ) → Event → Bool
is_attribute_of uri local (Attr name value) = bytes_eq uri name.uri && bytes_eq local name.local
is_attribute_of uri local (Start name) = false
is_attribute_of uri local (Space prefix more) = false
is_attribute_of uri local (Chars text) = false
is_attribute_of uri local End = false
is_attribute_of uri local (Comment text) = false
is_attribute_of uri local (Pi target value) = false

-- an attribute with another value
abbrev pub revalued : List ℕ → Event → Event
revalued value (Attr name old) = Attr name value
revalued value (Start name) = Start name
revalued value (Space prefix uri) = Space prefix uri
revalued value (Chars text) = Chars text
revalued value End = End
revalued value (Comment text) = Comment text
revalued value (Pi target old) = Pi target old

-- a start tag with an attribute more, or with another value of the one that it has
unfoldable pub with_attribute : Label → List ℕ → List Event → List Event
with_attribute name value [] = Attr name value ∷ []
with_attribute name value (e ∷ es) =
    if is_attribute_of name.uri name.local e then revalued value e ∷ es else e ∷ with_attribute name value es

-- the place of the attribute of a name
unfoldable pub place_of : (uri local : List ℕ) → List Event → Option ℕ
place_of uri local [] = None
place_of uri local (e ∷ es) = if is_attribute_of uri local e then Some 0 else option_map suc (place_of uri local es)

-- the local part and the URI of an expanded name, as the code has them
abbrev pub Parts : Type 0
Parts = Bor (List ℕ) × Bor (List ℕ)

abbrev pub has_parts : (uri local : List ℕ) → Parts → Bool
has_parts uri local k = bytes_eq local k.0.now && bytes_eq uri k.1.now

-- the place that a list of names has for one of them
abbrev pub place_in : List (Parts × ℕ) → (uri local : List ℕ) → Option ℕ
place_in names uri local = lookup (has_parts uri local) names
